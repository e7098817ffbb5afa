-- A world after one turn: the notes of its polls, and that of its end.
use Rattle.std.proofs.Common.{◌≡◌, ◌⊎◌, inl, inr, ℕ, suc, zero, ◌+◌, ◌*◌, ◌≤◌, ◌<◌, List, [], ◌∷◌, ◌++◌, length, Bool, true, false, Option, Some, None, sym, ap, subst, ◌∙◌, refl, arith, unwrap_or, get_or}
use Rattle.base_words.specs.declared.names.JobId.{JobId}
use Rattle.base_words.specs.declared.note.Note.{Note}
use Rattle.base_words.specs.declared.note.Note.TheVariants as written
use Rattle.base_words.specs.Bursts.{has_bursts, polls_in_turn}
use Rattle.base_words.specs.Commands.{stays_in_line}
use Rattle.base_words.specs.Filters.{name_started}
use Rattle.base_words.specs.Journal.{Journal, is_told}
use Rattle.base_words.specs.Lines.{line}
use Rattle.core_core.specs.Whole.{settled_of}
use Rattle.core_core.specs.declared.turn.Settled.{Settled}
use Rattle.core_core.specs.declared.turn.Settled.TheVariants as settled
use Rattle.base_jobs.specs.ScriptMeaning.{script_meaning}
use Rattle.model_world.specs.State.{journal_at, noted}
use Rattle.model_world.specs.Turns.{IsPoll, IsFirstPoll, Ends, Further, MakesPolls, poll_note, poll_notes, settle_note, settled_note}
use Rattle.fairexec_script.specs.Limits.{IsBurst}
use Rattle.fairexec_run.specs.Transcripts.{ScriptWorld}
use Rattle.fairexec_run.proofs.CallSteps.{calls_grow, calls_keep, keeps_polls, polls_at}
use Rattle.fairexec_run.proofs.CountLemmas.{AreLight}
use Rattle.fairexec_run.proofs.Growing.{Grows, grows_then, grows_within, stays, adds, adds_to, there, lt_or_le}

-- the notes that begin a first poll, that which begins a further one, and that of a settled poll
first_light : (name : JobId) (queue runtime : ℕ) (started : Bool) → AreLight 2 2 0 (poll_note name started ∷ written.Pick queue runtime ∷ [])
first_light name queue runtime true = record { counted = omega arith; paid = omega arith; delivered = omega arith }
first_light name queue runtime false = record { counted = omega arith; paid = omega arith; delivered = omega arith }

further_light : (name : JobId) (started : Bool) → AreLight 1 1 0 (poll_note name started ∷ [])
further_light name true = record { counted = omega arith; paid = omega arith; delivered = omega arith }
further_light name false = record { counted = omega arith; paid = omega arith; delivered = omega arith }

settle_light : (name : JobId) (time : ℕ) (settled : Settled ℕ) → AreLight 1 1 0 (settle_note name time settled ∷ [])
settle_light name time (settled.Finished out) = record { counted = omega arith; paid = omega arith; delivered = omega arith }
settle_light name time settled.Yielded = record { counted = omega arith; paid = omega arith; delivered = omega arith }
settle_light name time settled.Parked = record { counted = omega arith; paid = omega arith; delivered = omega arith }
settle_light name time settled.Stayed = record { counted = omega arith; paid = omega arith; delivered = omega arith }

-- a poll adds the notes that begin it, those of its calls, and its own
one_poll : (most unpaid core spent queue : ℕ) (name : JobId) (begun : List (Note ℕ)) (old new : ScriptWorld) → AreLight most unpaid 0 (poll_notes name begun (journal_at core old)) →
    IsPoll script_meaning core spent queue name begun old new → Grows (most + 3 + 1) (unpaid + 1 + 1) (0 + 0 + 0) core old new
one_poll most unpaid core spent queue name begun old new light is =
    let begins = poll_notes name begun (journal_at core old) in
    let picked = noted core begins old in
    grows_then (most + 3) (unpaid + 1) (0 + 0) 1 1 0 core old is.posted new
    (grows_then most unpaid 0 3 1 0 core old picked is.posted (adds core begins old most unpaid 0 light) (calls_grow core _ is.calls is.step is.told picked is.posted is.owed is.posts))
    (adds_to core (settled_note name (unwrap_or is.told spent) is.step (journal_at core is.posted) ∷ []) is.posted 1 1 0
    (settle_light name (unwrap_or is.told spent) (settled_of is.step (stays_in_line name (journal_at core is.posted)))) new is.notes)

first_grows : (core spent : ℕ) (old new : ScriptWorld) → IsFirstPoll script_meaning core spent old new → Grows 6 4 0 core old new
first_grows core spent old new is =
    one_poll 2 2 core spent is.queue is.name (written.Pick is.queue is.runtime ∷ []) old new (first_light is.name is.queue is.runtime (is_told name_started is.name (journal_at core old))) is.poll

-- the end of a turn
ends_grow : (form : Bool) (core : ℕ) (old new : ScriptWorld) → Ends form core old new → Grows 1 1 0 core old new
ends_grow true core old new is = adds_to core (written.Turned is.queue is.time ∷ []) old 1 1 0 (record { counted = omega arith; paid = omega arith; delivered = omega arith }) new is.notes
ends_grow false core old new same = stays 1 1 0 core old new same

-- further polls, and the end
further_grows : (core spent : ℕ) (later : List JobId) (old new : ScriptWorld) → Further script_meaning core spent later old new → Grows (5 * length later + 1) (3 * length later + 1) 0 core old new
further_grows core spent [] old new is = ends_grow (has_bursts old.burst) core old new is
further_grows core spent (name ∷ later) old new (next, one, rest) =
    grows_within (5 + (5 * length later + 1)) (3 + (3 * length later + 1)) (0 + 0) (5 * length (name ∷ later) + 1) (3 * length (name ∷ later) + 1) 0 core old new (omega arith) (omega arith) (omega arith)
    (grows_then 5 3 0 (5 * length later + 1) (3 * length later + 1) 0 core old next new
    (one_poll 1 1 core spent one.queue name [] old next (further_light name (is_told name_started name (journal_at core old))) one.poll)
    (further_grows core spent later next new rest))

-- a core whose line isn't empty has a journal
nothing_past : (journals : List (Journal ℕ)) (core : ℕ) → length journals ≤ core → ◌≡◌ {A = Journal ℕ} (get_or journals core []) []
nothing_past [] core out = refl
nothing_past (journal ∷ journals) zero out = absurd (omega arith)
nothing_past (journal ∷ journals) (suc core) out = nothing_past journals core (omega arith)

has_journal : (core queue : ℕ) (name : JobId) (others : List JobId) (old : ScriptWorld) → line queue (journal_at core old) ≡ name ∷ others → core < length old.journals
has_journal core queue name others old first = from (lt_or_le core (length old.journals))
  where
    from : (core < length old.journals) ⊎ (length old.journals ≤ core) → core < length old.journals
    from (inl within) = within
    from (inr out) = let none : journal_at core old ≡ [] = nothing_past old.journals core out in let empty : ◌≡◌ {A = List JobId} [] (name ∷ others) = rw none at first in cc

-- a poll counts as one of the turn
begins_poll : (name : JobId) (started : Bool) (before : List (Note ℕ)) → polls_in_turn (poll_note name started ∷ before) ≡ polls_in_turn before + 1
begins_poll name true before = refl
begins_poll name false before = refl

settle_quiet : (name : JobId) (time : ℕ) (settled : Settled ℕ) (before : List (Note ℕ)) → polls_in_turn (settle_note name time settled ∷ before) ≡ polls_in_turn before
settle_quiet name time (settled.Finished out) before = omega arith
settle_quiet name time settled.Yielded before = omega arith
settle_quiet name time settled.Parked before = omega arith
settle_quiet name time settled.Stayed before = omega arith

poll_counts : (core spent queue : ℕ) (name : JobId) (begun : List (Note ℕ)) (old new : ScriptWorld) → IsPoll script_meaning core spent queue name begun old new →
    polls_at core new ≡ polls_in_turn (begun ++ journal_at core old) + 1
poll_counts core spent queue name begun old new is =
    let begins = poll_notes name begun (journal_at core old) in
    ap (polls_at core) is.notes
    ∙ keeps_polls core (settled_note name (unwrap_or is.told spent) is.step (journal_at core is.posted) ∷ []) is.posted
    (settle_quiet name (unwrap_or is.told spent) (settled_of is.step (stays_in_line name (journal_at core is.posted))))
    ∙ calls_keep core _ is.calls is.step is.told (noted core begins old) is.posted is.owed is.posts
    ∙ ap polls_in_turn (there core begins old (has_journal core queue name is.others old is.first))
    ∙ begins_poll name (is_told name_started name (journal_at core old)) (begun ++ journal_at core old)

-- so a turn has no more polls than its burst
further_few : (core spent : ℕ) (later : List JobId) (old new : ScriptWorld) → Further script_meaning core spent later old new → polls_at core old ≤ old.burst → length later + polls_at core old ≤ old.burst
further_few core spent [] old new is low = omega arith
further_few core spent (name ∷ later) old new (next, one, rest) low =
    let counted : polls_at core next ≡ polls_at core old + 1 = poll_counts core spent one.queue name [] old next one.poll in
    let same : next.burst ≡ old.burst = (one_poll 1 1 core spent one.queue name [] old next (further_light name (is_told name_started name (journal_at core old))) one.poll).burst in
    let left = one.goes_on.poll_left in
    let few = further_few core spent later next new rest (omega arith) in
    omega arith

-- a turn within the burst: three notes a poll that nothing pays, one for the pick and one for the end
pub polls_grow : (core spent : ℕ) (old new : ScriptWorld) → IsBurst old.burst → MakesPolls script_meaning core spent old new → Grows 322 (3 * old.burst + 2) 0 core old new
polls_grow core spent old new bursts is =
    let first = first_grows core spent old is.mid is.first in
    let same = first.burst in
    let some = bursts.some_poll in
    let most = bursts.few_polls in
    let counted : polls_at core is.mid ≡ 1 = poll_counts core spent (is.first).queue (is.first).name (written.Pick (is.first).queue (is.first).runtime ∷ []) old is.mid (is.first).poll in
    let few = further_few core spent is.later is.mid new is.further (omega arith) in
    grows_within (6 + (5 * length is.later + 1)) (4 + (3 * length is.later + 1)) (0 + 0) 322 (3 * old.burst + 2) 0 core old new (omega arith) (omega arith) (omega arith)
    (grows_then 6 4 0 (5 * length is.later + 1) (3 * length is.later + 1) 0 core old is.mid new first (further_grows core spent is.later is.mid new is.further))

-- where each poll is a turn, nothing follows the first one
only_one : (core spent : ℕ) (later : List JobId) (old new : ScriptWorld) → has_bursts old.burst ≡ false → Further script_meaning core spent later old new → new ≡ old
only_one core spent [] old new form is = subst (λ form. Ends form core old new) form is
only_one core spent (name ∷ later) old new form (next, one, rest) =
    let none : ◌≡◌ {A = Option ℕ} None (Some one.queue) = rw form at one.goes_on.in_turn in cc

pub poll_grows : (core spent : ℕ) (old new : ScriptWorld) → has_bursts old.burst ≡ false → IsBurst old.burst → MakesPolls script_meaning core spent old new → Grows 6 (3 * old.burst + 2) 0 core old new
poll_grows core spent old new form bursts is =
    let some = bursts.some_poll in
    let first = first_grows core spent old is.mid is.first in
    let same = only_one core spent is.later is.mid new (ap has_bursts first.burst ∙ form) is.further in
    subst (Grows 6 (3 * old.burst + 2) 0 core old) (sym same) (grows_within 6 4 0 6 (3 * old.burst + 2) 0 core old is.mid (omega arith) (omega arith) (omega arith) first)
