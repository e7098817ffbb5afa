-- The clock of a core after one more note.
use Rattle.std.proofs.Common.{◌≡◌, ℕ, ◌+◌, ◌*◌, ◌^◌, ◌<◌, ◌≤◌, min, ◌∷◌, [], length, arith}
use Rattle.base_words.specs.Charge.{clamped}
use Rattle.base_words.specs.declared.note.Note.{Note}
use Rattle.base_words.specs.declared.note.Note.TheVariants.{Pick, Yield, Park, Stayed, Done}
use Rattle.std.proofs.lemmas.List.{length-drop}
use Rattle.base_words.specs.Journal.{Journal, at_place}
use Rattle.base_words.specs.Picks.{turns, pick_count}
use Rattle.note_facts.specs.Accounts.{greatest_runtime, greatest_count}
use Rattle.judge_view.specs.declared.clocks.CoreTime.{CoreTime}
use Rattle.judge_view.specs.Clocks.{time_settled, busy_time, clock_of, clock_after}

clamped_below : (time : ℕ) → clamped time < 2 ^ 50
clamped_below time = omega arith

one_fits : (count notes : ℕ) → count ≤ notes → notes < greatest_count → min (count + 1) greatest_count ≡ count + 1
one_fits count notes within short = omega arith

sum_fits : (sum more notes : ℕ) → sum ≤ notes * 2 ^ 50 → more < 2 ^ 50 → notes < greatest_count → min (sum + more) greatest_runtime ≡ sum + more
sum_fits sum more notes within less short = omega arith

still : (count : ℕ) → count ≡ count + 0
still count = omega arith

module _ {T : Type 0} where
  pick_count-within : (note : Note T) → pick_count note ≤ 1
  pick_count-within (Pick queue runtime) = omega arith
  pick_count-within _ = omega arith

  turns-within : (journal : Journal T) → turns journal ≤ length journal
  turns-within [] = omega arith
  turns-within (note ∷ before) = omega (arith, turns-within before, pick_count-within note)

  time_settled-below : (note : Note T) → time_settled note < 2 ^ 50
  time_settled-below (Yield name time) = clamped_below time
  time_settled-below (Park name time) = clamped_below time
  time_settled-below (Stayed name time) = clamped_below time
  time_settled-below (Done name time value) = clamped_below time
  time_settled-below _ = omega arith

  busy_time-within : (journal : Journal T) → busy_time journal ≤ length journal * 2 ^ 50
  busy_time-within [] = omega arith
  busy_time-within (note ∷ before) = omega (arith, busy_time-within before, time_settled-below note)

  clock_is : (clock : CoreTime) (journal : Journal T) → clock.turns ≡ turns journal → clock.time ≡ busy_time journal → clock ≡ clock_of journal
  clock_is clock journal turns_are time_is = λ i. record { turns = turns_are i; time = time_is i }

  -- no number of the clock of a short journal is beyond its type
  pub clock_next : (note : Note T) (before : Journal T) → length before < greatest_count → clock_after note (clock_of before) ≡ clock_of (note ∷ before)
  clock_next (Pick queue runtime) before short =
      let note : Note T = Pick queue runtime in
      clock_is (clock_after note (clock_of before)) (note ∷ before) (one_fits (turns before) (length before) (turns-within before) short) (still (busy_time before))
  clock_next (Yield name time) before short =
      let note : Note T = Yield name time in
      clock_is (clock_after note (clock_of before)) (note ∷ before) (still (turns before))
      (sum_fits (busy_time before) (clamped time) (length before) (busy_time-within before) (clamped_below time) short)
  clock_next (Park name time) before short =
      let note : Note T = Park name time in
      clock_is (clock_after note (clock_of before)) (note ∷ before) (still (turns before))
      (sum_fits (busy_time before) (clamped time) (length before) (busy_time-within before) (clamped_below time) short)
  clock_next (Stayed name time) before short =
      let note : Note T = Stayed name time in
      clock_is (clock_after note (clock_of before)) (note ∷ before) (still (turns before))
      (sum_fits (busy_time before) (clamped time) (length before) (busy_time-within before) (clamped_below time) short)
  clock_next (Done name time value) before short =
      let note : Note T = Done name time value in
      clock_is (clock_after note (clock_of before)) (note ∷ before) (still (turns before))
      (sum_fits (busy_time before) (clamped time) (length before) (busy_time-within before) (clamped_below time) short)
  clock_next note before short = clock_is (clock_of before) (note ∷ before) (still (turns before)) (still (busy_time before))

  -- no more was read than there are places
  pub length-at_place : (place : ℕ) (journal : Journal T) → length (at_place place journal) ≤ place
  length-at_place place journal = simp length-drop (omega arith)
