-- The time of a turn, poll by poll: where each poll and each sum is cut at what counts, the time is the one of all polls.
use Rattle.base_words.proofs.Words.{arith, false, Journal, min, Note, parts_turns, poll_count, poll_settled, polls_in_turn, time_in_turn, time_of_poll, true, ℕ, ◌+◌, ◌-◌, ◌∷◌, ◌≡◌}
use Rattle.std.proofs.Common.{◌^◌}

-- a sum of cut summands that is cut is the sum that is cut
pub min-min_sum : (first second most : ℕ) → min (min first most + min second most) most ≡ min (first + second) most
min-min_sum first second most = omega arith

module _ {T : Type 0} (note : Note T) (before : Journal T) where
  -- a poll adds its time, which is cut, to the time of its turn, which is cut again
  pub time_in_turn-next : parts_turns note ≡ false →
      time_in_turn (note ∷ before) ≡ min (time_in_turn before + min (time_of_poll (poll_settled note)) (2 ^ 40 - 1)) (2 ^ 40 - 1)
  time_in_turn-next goes_on = rw goes_on (omega arith)

  -- the notes of a turn that begin polls count
  pub polls_in_turn-next : parts_turns note ≡ false → polls_in_turn (note ∷ before) ≡ polls_in_turn before + poll_count note
  polls_in_turn-next goes_on = rw goes_on

  -- behind a note that parts turns there is no poll and no time
  pub nothing_yet : parts_turns note ≡ true → (polls_in_turn (note ∷ before) ≡ 0) × (time_in_turn (note ∷ before) ≡ 0)
  nothing_yet parts = (rw parts, rw parts (omega arith))
