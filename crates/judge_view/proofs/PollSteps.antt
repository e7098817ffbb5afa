-- The polls of a core after one more note.
use Rattle.std.proofs.Common.{◌≡◌, ℕ, ◌+◌, ◌<◌, ◌≤◌, min, Bool, true, false, cond, [], ◌∷◌, length, refl, sym, ap, ◌∙◌, arith}
use Rattle.std.specs.Prelude.{Option, Some, None, option_map, unwrap_or}
use Rattle.base_words.specs.declared.names.JobId.{JobId}
use Rattle.base_words.specs.declared.note.Note.{Note}
use Rattle.base_words.specs.Journal.{Journal, latest_told, or_else}
use Rattle.base_words.specs.Lines.{name_settled}
use Rattle.base_words.specs.Names.{same_name, is_name}
use Rattle.base_words.specs.Picks.{turns}
use Rattle.base_words.specs.Polls.{name_of_poll, poll_settled}
use Rattle.base_words.specs.Work.{number_if}
use Rattle.note_facts.specs.Accounts.{greatest_count}
use Rattle.base_words.proofs.NameLemmas.{one_name}
use Rattle.note_facts.specs.Names.{known}
use Rattle.judge_view.specs.Clocks.{clock_after}
use Rattle.judge_view.specs.Ends.{end_of}
use Rattle.judge_view.specs.Polls.{KnowsTurns, SettlesTold, TellsPoll, pick_told, poll_noted, poll_told, steps_of}
use Rattle.judge_view.specs.declared.clocks.CoreTime.{CoreTime}
use Rattle.judge_view.specs.declared.polls.Picked.{Picked}
use Rattle.judge_view.specs.declared.polls.Poll.{Poll}
use Rattle.judge_view.specs.declared.polls.PollWalk.{PollWalk}
use Rattle.judge_view.proofs.ClockSteps.{clock_next}

-- a note settles the poll of the job whose time it tells
settled_told : {T : Type 0} (note : Note T) → name_settled note ≡ option_map (λ (told : JobId × ℕ). told.0) (poll_settled note)
settled_told note = by_poll (poll_settled note)
  where
    by_poll : (poll : Option (JobId × ℕ)) → name_of_poll poll ≡ option_map (λ (told : JobId × ℕ). told.0) poll
    by_poll None = refl
    by_poll (Some poll) = refl

few : (test : Bool) → number_if test ≤ 1
few true = omega arith
few false = omega arith

steps-within : {T : Type 0} (name : JobId) (journal : Journal T) → steps_of name journal ≤ length journal
steps-within name [] = omega arith
steps-within name (note ∷ before) = omega (arith, steps-within name before, few (is_name name (name_settled note)))

one_fits : (count notes : ℕ) → count ≤ notes → notes < greatest_count → min (count + 1) greatest_count ≡ count + 1
one_fits count notes within short = omega arith

still : (count : ℕ) → count ≡ count + 0
still count = omega arith

-- the steps of a job under the name that is settled
step_counted : {T : Type 0} (name settled : JobId) (before : Journal T) (old new : ℕ) (test : Bool) → same_name name settled ≡ test → length before < greatest_count →
    old ≡ steps_of settled before → new ≡ cond test (min (old + 1) greatest_count) (steps_of name before) → new ≡ steps_of name before + number_if test
step_counted name settled before old new true same short is new_is =
    let one : steps_of settled before ≡ steps_of name before = ap (λ (it : JobId). steps_of it before) (sym (one_name name settled same)) in
    new_is ∙ (ap (λ count. min (count + 1) greatest_count) (is ∙ one) ∙ one_fits (steps_of name before) (length before) (steps-within name before) short)
step_counted name settled before old new false apart short is new_is = new_is ∙ still (steps_of name before)

or_zero : (test : Bool) (step : ℕ) (other : Option ℕ) → unwrap_or (cond test (Some step) other) 0 ≡ cond test step (unwrap_or other 0)
or_zero true step other = refl
or_zero false step other = refl

module _ (old mid : PollWalk) (poll : Option Poll) (note : Note ℕ) (before : Journal ℕ) (short : length before < greatest_count) (knows : KnowsTurns old before) where
  abbrev StepsNext : Type 0
  StepsNext = (name : JobId) → unwrap_or (known mid.steps name) 0 ≡ steps_of name (note ∷ before)

  -- the steps of all jobs
  steps_next : (told : Option (JobId × ℕ)) → poll_settled note ≡ told → SettlesTold old mid told (end_of note) poll → StepsNext
  steps_next None is goes name =
      ap (λ (walk : PollWalk). unwrap_or (known walk.steps name) 0) goes.0
      ∙ (knows.steps name ∙ (still (steps_of name before) ∙ ap (λ who. steps_of name before + number_if (is_name name who)) (sym (settled_told note ∙ ap (option_map (λ (it : JobId × ℕ). it.0)) is))))
  steps_next (Some told) is goes name =
      step_counted name told.0 before (unwrap_or (known old.steps told.0) 0) (unwrap_or (known mid.steps name) 0) (same_name name told.0) refl short (knows.steps told.0)
      (
      ap (λ value. unwrap_or value 0) (goes.steps name) ∙
      (
      or_zero (same_name name told.0) (min (unwrap_or (known old.steps told.0) 0 + 1) greatest_count) (known old.steps name) ∙
      ap (cond (same_name name told.0) (min (unwrap_or (known old.steps told.0) 0 + 1) greatest_count)) (knows.steps name)
      )
      ) ∙
      ap (λ who. steps_of name before + number_if (is_name name who)) (sym (settled_told note ∙ ap (option_map (λ (it : JobId × ℕ). it.0)) is))

  -- the step that is counted is the next one
  next_step : (name : JobId) → min (unwrap_or (known old.steps name) 0 + 1) greatest_count ≡ steps_of name before + 1
  next_step name = ap (λ count. min (count + 1) greatest_count) (knows.steps name) ∙ one_fits (steps_of name before) (length before) (steps-within name before) short

  poll_next : (told : Option (JobId × ℕ)) → poll_settled note ≡ told → SettlesTold old mid told (end_of note) poll → poll ≡ poll_noted note before
  poll_next None is goes = goes.1 ∙ sym (ap (λ it. poll_told (latest_told pick_told before) it (end_of note) before) is ∙ nothing (latest_told pick_told before))
    where
      nothing : (picked : Option Picked) → poll_told picked None (end_of note) before ≡ None
      nothing None = refl
      nothing (Some picked) = refl
  poll_next (Some told) is goes =
      goes.poll ∙ ((λ i. listed (knows.picked i) ((knows.clock i).turns) (next_step told.0 i)) ∙
      (by_pick (latest_told pick_told before) ∙ sym (ap (λ it. poll_told (latest_told pick_told before) it (end_of note) before) is)))
    where
      listed : Option Picked → ℕ → ℕ → Option Poll
      listed picked turn step = option_map (λ pick. record { turn = turn; picked = pick; name = told.0; step = step; time = told.1; end = end_of note }) picked

      by_pick : (picked : Option Picked) → option_map (λ pick. record { turn = turns before; picked = pick; name = told.0; step = steps_of told.0 before + 1; time = told.1; end = end_of note }) picked ≡ poll_told picked (Some told) (end_of note) before
      by_pick None = refl
      by_pick (Some picked) = refl

  clock_kept : (told : Option (JobId × ℕ)) → SettlesTold old mid told (end_of note) poll → mid.clock ≡ old.clock
  clock_kept None goes = ap (λ (walk : PollWalk). walk.clock) goes.0
  clock_kept (Some told) goes = goes.clock

  pick_kept : (told : Option (JobId × ℕ)) → SettlesTold old mid told (end_of note) poll → mid.picked ≡ old.picked
  pick_kept None goes = ap (λ (walk : PollWalk). walk.picked) goes.0
  pick_kept (Some told) goes = goes.picked

  -- all that is known after one more note
  pub walk_next : (told : Option (JobId × ℕ)) (clock : CoreTime) (picked : Option Picked) → told ≡ poll_settled note → SettlesTold old mid told (end_of note) poll →
      clock ≡ clock_after note mid.clock → picked ≡ or_else (pick_told note) mid.picked → TellsPoll poll (record mid { clock = clock; picked = picked }) note before
  walk_next told clock picked is goes clock_is picked_is = record {
    poll = poll_next told (sym is) goes;
    knows = record {
      clock = clock_is ∙ (ap (clock_after {T = ℕ} note) (clock_kept told goes ∙ knows.clock) ∙ clock_next note before short);
      picked = picked_is ∙ ap (or_else (pick_told note)) (pick_kept told goes ∙ knows.picked);
      steps = steps_next told (sym is) goes;
    };
  }
