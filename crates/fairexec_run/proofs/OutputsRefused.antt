-- Each output with one thing wrong is refused.
use Rattle.std.proofs.Common.{◌≡◌, ℕ, ◌+◌, ◌≤◌, inl, inr, Bool, List, [], ◌∷◌, ◌++◌, codes, length, Some, Ok, refl, sym, ap, ◌∙◌, arith}
use Rattle.model_world.specs.State.{journal_at}
use Rattle.fairexec_script.specs.declared.event.ScriptEvent.{ScriptEvent}
use Rattle.fairexec_script.specs.Drafts.{Drafted}
use Rattle.fairexec_script.specs.Scripts.{script_of}
use Rattle.fairexec_run.specs.BadOutputs.{OutputsAreRefused}
use Rattle.fairexec_run.specs.Begun.{IsCutShort}
use Rattle.fairexec_run.specs.Counts.{sent_count, collected_count}
use Rattle.fairexec_run.specs.Transcripts.{ScriptWorld, PrintsAll}

-- an empty text tells no script
no_text : (script : Drafted) → script_of [] ≡ Ok script → ⊥
no_text script told = cc

no_start : (journal stats : Bool) → IsCutShort journal stats (Some []) (Some []) (Some (codes "x")) → ⊥
no_start journal stats (inl kept) = cc
no_start journal stats (inr (script, told, part)) = no_text script told

-- the first events of none print nothing
none_printed : (first others : List ScriptEvent) (old end : ScriptWorld) (text : List ℕ) → [] ≡ first ++ others → PrintsAll first old end text → text ≡ codes "x" → ⊥
none_printed [] others old end text whole all is = let none = all.1 in cc
none_printed (event ∷ events) others old end text whole all is = cc

pub outputs_refused : OutputsAreRefused
outputs_refused = record {
  no_script = λ journal stats sink_old sink_new done. no_text done.script done.told;
  early = no_start;
  without_size = λ output is. let none = is.size in cc;
  no_event = λ is. let none = is.all.1 in cc;
  no_first_event = λ is. none_printed is.first is.others _ is.end _ is.whole is.all refl;
  unasked = λ is. let none = is.whole ∙ ap (λ front. front ++ is.rear) is.printed.output.all.1 ∙ is.counted in cc;
  rear_unasked = λ assembly is. cc;
  of_none = λ back heard. heard;
  no_room = λ back heard. heard;
  short_journals =
      λ world none room roomy.
      let short = roomy.short refl 0 in
      let count = ap length none in
      let collected = ap collected_count none in
      absurd (omega arith);
  short_in_bursts =
      λ world none room roomy.
      let paid = roomy.paid refl 0 in
      let count = ap length none in
      let sent = ap sent_count none in
      let collected = ap collected_count none in
      absurd (omega arith);
  many_queues = λ world may. let few : length (journal_at 0 world) + 256 ≤ 255 = may.notes 0 in absurd (omega arith);
}
