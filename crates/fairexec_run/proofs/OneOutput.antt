-- Two outputs of a script are one, unless one of its runs was refused memory.
use Rattle.std.proofs.Common.{◌≡◌, ℕ, List, [], ◌∷◌, ◌++◌, length, refl, sym, ◌∙◌, ap, subst, ◌⊎◌, inl, inr, ⊎_elim, Bool, true, false}
use Rattle.std.specs.Prelude.{map, reverse, Some, Result, Ok}
use Rattle.std.proofs.lemmas.List.{append_cancel_right}
use Rattle.std.proofs.lemmas.Option.{same_Some}
use Rattle.base_words.specs.Assembly.{Assembly, journal_of}
use Rattle.base_jobs.specs.Scripts.{Script}
use Rattle.fairexec_report.specs.StatTexts.{IsStatsIf, IsStatsText}
use Rattle.fairexec_report.proofs.StatLemmas.{stats_once}
use Rattle.text_journal.specs.Texts.{journal_text}
use Rattle.model_world.specs.declared.event.Reply.{Reply}
use Rattle.model_world.specs.State.{journal_at, assembly_of}
use Rattle.model_world.specs.Sends.{actor_of}
use Rattle.model_world.specs.Opening.{HasAllLists, IsUnbegun, IsFresh}
use Rattle.model_laws.specs.Creations.{OrderNoQueues, with_creations}
use Rattle.model_laws.specs.Alike.{AreAlike}
use Rattle.model_laws.specs.Determined.{WasRefused}
use Rattle.base_jobs.specs.ScriptMeaning.{script_meaning}
use Rattle.model_laws.specs.ScriptRuns.{IsScriptRun}
use Rattle.model_laws.proofs.KeptLists.{happens_keep}
use Rattle.model_laws.proofs.DeterminedOpenings.{fresh_once}
use Rattle.model_laws.proofs.DeterminedRefusals.{refused-happens, was_refused}
use Rattle.model_laws.proofs.DeterminedRuns.{happens_once, assembly_once}
use Rattle.model_laws.proofs.DeterminedScripts.{scripts_owe_one, scripts_order_none}
use Rattle.model_laws.proofs.NoRefusals.{plain_unbegun, run_plain}
use Rattle.model_laws.proofs.UnbegunCreations.{unbegun_fresh, unbegun_creations}
use Rattle.fairexec_script.specs.declared.event.ScriptEvent.{ScriptEvent}
use Rattle.fairexec_script.specs.Drafts.{Drafted}
use Rattle.fairexec_script.specs.Scripts.{script_of}
use Rattle.fairexec_run.specs.Replies.{event_of, ends_of, quiet_of}
use Rattle.fairexec_run.specs.Printed.{IsRunText, IsFront, IsPrinted}
use Rattle.fairexec_run.specs.Transcripts.{ScriptWorld, Prints, PrintsAll, with_queue, with_queues, script_room, RunsOf, IsOutput}
use Rattle.fairexec_run.specs.EventTexts.{event_text}
use Rattle.fairexec_run.specs.OneOutput.{OutputIsDetermined, OutputOfJobsIsDetermined, TextHasOneOutput}

-- what an event prints is determined, if what it does is
module _ (event : ScriptEvent) (old new other : ScriptWorld) (text other_text : List ℕ) (first : Prints event old new text) (second : Prints event old other other_text) where
  same_quiet : AreAlike script_meaning first.answer second.answer → quiet_of first.answer ≡ quiet_of second.answer
  same_quiet (inl same) = ap quiet_of same
  same_quiet (inr both) = ap quiet_of both.redeemed ∙ sym (ap quiet_of both.other_redeemed)

  same_text : (new ≡ other) × AreAlike script_meaning first.answer second.answer → text ≡ other_text
  same_text same =
      first.printed
      ∙ (ap (λ notes. event_text (ends_of event) (reverse notes) (quiet_of first.answer)) same_notes
      ∙ (ap (λ quiet. event_text (ends_of event) (reverse second.notes) quiet) (same_quiet same.1) ∙ sym second.printed))
    where
      same_notes : first.notes ≡ second.notes
      same_notes =
          append_cancel_right first.notes second.notes (journal_at (actor_of (event_of event)) old)
          (sym first.noted ∙ (ap (journal_at (actor_of (event_of event))) same.0 ∙ second.noted))

  prints_once : HasAllLists old → ((new ≡ other) × (text ≡ other_text)) ⊎ (WasRefused new.journals ⊎ WasRefused other.journals)
  prints_once lists =
      ⊎_elim (λ same. inl (same.0, same_text same)) (λ refused. inr (⊎_elim (λ told. inl (was_refused told)) (λ told. inr (was_refused told)) refused))
      (happens_once script_meaning scripts_owe_one (event_of event) old new other first.answer second.answer lists first.occurs second.occurs)

refused-prints : (events : List ScriptEvent) (old new : ScriptWorld) (text : List ℕ) → PrintsAll events old new text → WasRefused old.journals → WasRefused new.journals
refused-prints [] old new text all refused = subst (λ world. WasRefused world.journals) (sym all.0) refused
refused-prints (event ∷ events) old new text all refused =
    refused-prints events all.0 new all.2 all.4
    (refused-happens script_meaning (event_of event) old all.0 all.3.answer all.3.occurs refused)

all_once : (events : List ScriptEvent) (old new other : ScriptWorld) (text other_text : List ℕ) → HasAllLists old → PrintsAll events old new text → PrintsAll events old other other_text →
    ((new ≡ other) × (text ≡ other_text)) ⊎ (WasRefused new.journals ⊎ WasRefused other.journals)
all_once [] old new other text other_text lists all other_all = inl (all.0 ∙ sym other_all.0, all.1 ∙ sym other_all.1)
all_once (event ∷ events) old new other text other_text lists all other_all =
    ⊎_elim
    (
    λ same.
    ⊎_elim (λ rest. inl (rest.0, all.5 ∙ (ap (λ first. first ++ all.2) same.1 ∙ (ap (λ rest. other_all.1 ++ rest) rest.1 ∙ sym other_all.5)))) inr
    (
    all_once events all.0 new other all.2 other_all.2 (happens_keep script_meaning (event_of event) old all.0 all.3.answer all.3.occurs lists) all.4
    (subst (λ world. PrintsAll events world other other_all.2) (sym same.0) other_all.4)
    )
    )
    (
    λ refused.
    inr (⊎_elim (λ told. inl (refused-prints events all.0 new all.2 all.4 told))
    (λ told. inr (refused-prints events other_all.0 other other_all.2 other_all.4 told)) refused)
    )
    (prints_once event old all.0 other_all.0 all.1 other_all.1 all.3 other_all.3 lists)

-- the queues of a script are creations before its first event
queues_are : (queues : List (ℕ × ℕ)) (world : ScriptWorld) → with_queues queues world ≡ with_creations queues world
queues_are [] world = refl
queues_are (queue ∷ queues) world = queues_are queues (with_queue queue world)

-- a script begins with a world in which nothing has happened
begins : (script : Drafted) (cores cap : ℕ) (empty : ScriptWorld) → IsFresh cores cap script.burst (script_room cores cap script.burst (length script.events)) empty → IsUnbegun (with_queues script.queues empty)
begins script cores cap empty fresh =
    subst (λ world. IsUnbegun world) (sym (queues_are script.queues empty)) (unbegun_creations script.queues empty (unbegun_fresh cores cap script.burst (script_room cores cap script.burst (length script.events)) empty fresh))

module _ (script : Drafted) (output : List ℕ) (is : IsOutput script output) where
  -- the run behind the output
  run_of : (events : List ScriptEvent) (old new : ScriptWorld) (text : List ℕ) → PrintsAll events old new text → (replies : List (Reply Script)) × IsScriptRun (map event_of events) old new replies
  run_of [] old new text all = ([], (all.0, refl))
  run_of (event ∷ events) old new text all =
      let later = run_of events all.0 new all.2 all.4 in
      (all.3.answer ∷ later.0, (all.0, all.3.answer, later.0, all.3.occurs, later.1, refl))

  not_refused : OrderNoQueues (map event_of script.events) → WasRefused is.end.journals → ⊥
  not_refused none =
      let start = with_queues script.queues is.empty in
      let run = run_of script.events start is.end output is.all in
      (run_plain script_meaning scripts_order_none (map event_of script.events) none start is.end run.0 run.1 (plain_unbegun start (begins script is.cores is.cap is.empty is.fresh))).told

-- and there is one such world
module _ (script : Drafted) (cores cap other_cores other_cap : ℕ)
    (size : script.size ≡ Some (cores, cap)) (other_size : script.size ≡ Some (other_cores, other_cap))
    (empty other_empty : ScriptWorld)
    (fresh : IsFresh cores cap script.burst (script_room cores cap script.burst (length script.events)) empty)
    (other_fresh : IsFresh other_cores other_cap script.burst (script_room other_cores other_cap script.burst (length script.events)) other_empty) where
  abbrev first_size : ℕ × ℕ
  first_size = (cores, cap)

  abbrev second_size : ℕ × ℕ
  second_size = (other_cores, other_cap)

  same_size : first_size ≡ second_size
  same_size = same_Some first_size second_size (sym size ∙ other_size)

  same_cores : cores ≡ other_cores
  same_cores = ap (λ (size : ℕ × ℕ). size.0) same_size

  same_cap : cap ≡ other_cap
  same_cap = ap (λ (size : ℕ × ℕ). size.1) same_size

  moved : IsFresh cores cap script.burst (script_room cores cap script.burst (length script.events)) other_empty
  moved =
      subst (λ count. IsFresh count cap script.burst (script_room count cap script.burst (length script.events)) other_empty) (sym same_cores)
      (subst (λ count. IsFresh other_cores count script.burst (script_room other_cores count script.burst (length script.events)) other_empty) (sym same_cap) other_fresh)

  same_start : with_queues script.queues empty ≡ with_queues script.queues other_empty
  same_start = ap (with_queues script.queues) (fresh_once cores cap script.burst (script_room cores cap script.burst (length script.events)) empty other_empty fresh moved)

-- the events are printed in one way
events_once : (script : Drafted) (output other : List ℕ) (first : IsOutput script output) (second : IsOutput script other) →
    ((first.end ≡ second.end) × (output ≡ other)) ⊎ (WasRefused first.end.journals ⊎ WasRefused second.end.journals)
events_once script output other first second =
    all_once script.events (with_queues script.queues first.empty) first.end second.end output other (begins script first.cores first.cap first.empty first.fresh).lists first.all
    (
    subst (λ world. PrintsAll script.events world second.end other)
    (sym (same_start script first.cores first.cap second.cores second.cap first.size second.size first.empty second.empty first.fresh second.fresh)) second.all
    )

pub output_once : OutputIsDetermined
output_once script output other first second = ⊎_elim (λ same. inl same.1) inr (events_once script output other first second)

pub output_of_jobs_once : OutputOfJobsIsDetermined
output_of_jobs_once script output other none first second =
    ⊎_elim (λ same. same.1)
    (λ refused. absurd (⊎_elim (not_refused script output first none) (not_refused script other second none) refused))
    (events_once script output other first second)

-- so are the journals
runs_once : (script : Drafted) (assembly other : Assembly ℕ) (text other_text : List ℕ) → IsRunText script assembly text → IsRunText script other other_text →
    ((assembly ≡ other) × (text ≡ other_text)) ⊎ (WasRefused assembly.journals ⊎ WasRefused other.journals)
runs_once script assembly other text other_text first second =
    ⊎_elim (λ same. inl (same, first.told ∙ (ap journal_text same ∙ sym second.told)))
    (λ refused. inr (⊎_elim (λ told. inl (was_refused told)) (λ told. inr (was_refused told)) refused))
    (
    assembly_once script_meaning scripts_owe_one (map event_of script.events) (with_queues script.queues first.empty) assembly other
    (begins script first.cores first.cap first.empty first.fresh).lists first.runs
    (
    subst (λ world. RunsOf (map event_of script.events) world other)
    (sym (same_start script first.cores first.cap second.cores second.cap first.size second.size first.empty second.empty first.fresh second.fresh)) second.runs
    )
    )

-- what comes first
front_once : (script : Drafted) (journal : Bool) (assembly other : Assembly ℕ) (text other_text : List ℕ) → IsFront journal script assembly text → IsFront journal script other other_text →
    ((assembly ≡ other) × (text ≡ other_text)) ⊎ (WasRefused assembly.journals ⊎ WasRefused other.journals)
front_once script true assembly other text other_text first second = runs_once script assembly other text other_text first second
front_once script false assembly other text other_text first second =
    ⊎_elim (λ same. inl (first.journals ∙ (ap assembly_of same.0 ∙ sym second.journals), same.1))
    (
    λ refused.
    inr
    (
    ⊎_elim (λ told. inl (subst (λ all. WasRefused all.journals) (sym first.journals) told))
    (λ told. inr (subst (λ all. WasRefused all.journals) (sym second.journals) told)) refused
    )
    )
    (events_once script text other_text first.output second.output)

-- what comes behind it
rear_once : (stats : Bool) (assembly other : Assembly ℕ) (text other_text : List ℕ) → assembly ≡ other → IsStatsIf stats assembly text → IsStatsIf stats other other_text → text ≡ other_text
rear_once true assembly other text other_text same first second =
    stats_once assembly.cores assembly.burst (λ core. journal_of core assembly) text other_text first
    (subst (λ all. IsStatsText all.cores all.burst (λ core. journal_of core all) other_text) (sym same) second)
rear_once false assembly other text other_text same first second = first ∙ sym second

printed_once : (journal stats : Bool) (script : Drafted) (output other : List ℕ) (first : IsPrinted journal stats script output) (second : IsPrinted journal stats script other) →
    (output ≡ other) ⊎ (WasRefused first.assembly.journals ⊎ WasRefused second.assembly.journals)
printed_once journal stats script output other first second =
    ⊎_elim
    (
    λ same.
    inl
    (
    first.whole
    ∙ (ap (λ front. front ++ first.rear) same.1
    ∙ (ap (λ rear. second.front ++ rear) (rear_once stats first.assembly second.assembly first.rear second.rear same.0 first.counted second.counted) ∙ sym second.whole))
    )
    )
    inr (front_once script journal first.assembly second.assembly first.front second.front first.printed second.printed)

same_ok : {A E : Type 0} (found : Result A E) (one other : A) → found ≡ Ok one → found ≡ Ok other → one ≡ other
same_ok found one other first second = cc

pub text_once : TextHasOneOutput
text_once journal stats text sink sink_new other_sink other_new first second =
    subst (λ script. (right : IsPrinted journal stats script second.output) → (first.output ≡ second.output) ⊎ (WasRefused first.right.assembly.journals ⊎ WasRefused right.assembly.journals))
    (same_ok (script_of text) first.script second.script first.told second.told) (λ right. printed_once journal stats first.script first.output second.output first.right right) second.right
