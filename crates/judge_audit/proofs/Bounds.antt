-- A virtual runtime is at most 2^50 for each note, if each pick is right and each note is spelled.
use Rattle.std.proofs.Common.{ℕ, ◌*◌, ◌^◌, ◌<◌, ◌≤◌, Bool, true, false, [], ◌∷◌, length, cond, arith}
use Rattle.std.specs.Prelude.{Option, Some, None, ◌==◌, unwrap_or}
use Rattle.base_words.specs.Charge.{charge, InRange}
use Rattle.base_words.specs.declared.note.Note.{Note}
use Rattle.base_words.specs.declared.note.Note.TheVariants.{Created, SharesSet, Pick}
use Rattle.base_words.specs.Clauses.{PicksRight}
use Rattle.base_words.specs.Bursts.{turn_told}
use Rattle.base_words.specs.Journal.{Journal, EachNote, or_else}
use Rattle.base_words.specs.Names.{is_number}
use Rattle.base_words.specs.Polls.{poll_settled}
use Rattle.base_words.specs.Runtimes.{shares, floor, virtual_runtime, runtime_picked, charge_noted, charge_of, poll_charged, turn_charged}
use Rattle.base_words.specs.Spelled.{IsSpelledNote, AreSpelledNotes}
use Rattle.base_words.specs.Terms.{Terms}
use Rattle.base_words.proofs.RuntimeBound.{charge_below, place_noted-bounded}
use Rattle.note_facts.specs.Accounts.{greatest_runtime, greatest_count}
use Rattle.judge_audit.specs.Picks.{AreBelow}

module _ (terms : Terms) (burst : ℕ) where
  -- the shares of a queue are within their range
  shares_next : (queue : ℕ) (note : Note ℕ) (before : Journal ℕ) → IsSpelledNote terms note → InRange (shares queue before) → InRange (shares queue (note ∷ before))
  shares_next queue (Created other weight) before spelled was = by_test (queue == other)
    where
      by_test : (test : Bool) → InRange (unwrap_or (cond test (Some weight) None) (shares queue before))
      by_test true = spelled.2
      by_test false = was
  shares_next queue (SharesSet other weight) before spelled was = by_test (queue == other)
    where
      by_test : (test : Bool) → InRange (unwrap_or (cond test (Some weight) None) (shares queue before))
      by_test true = spelled.2
      by_test false = was
  shares_next queue _ before spelled was = was

  in_range : (queue : ℕ) (journal : Journal ℕ) → AreSpelledNotes terms journal → InRange (shares queue journal)
  in_range queue [] spelled = record { positive = omega arith; bounded = omega arith }
  in_range queue (note ∷ before) spelled = shares_next queue note before spelled.0 (in_range queue before spelled.1)

  -- a note costs a queue at most 2^50
  costs_little : (queue : ℕ) (note : Note ℕ) (before : Journal ℕ) → InRange (shares queue before) → charge_noted burst queue note before ≤ 2 ^ 50
  costs_little queue note before range = by_charge (or_else (turn_charged burst (turn_told note)) (poll_charged burst (poll_settled note) before))
    where
      by_test : (time : ℕ) (test : Bool) → cond test (charge time (shares queue before)) 0 ≤ 2 ^ 50
      by_test time true = let below = charge_below time (shares queue before) range.positive in omega arith
      by_test time false = omega arith

      by_charge : (charged : Option (Option ℕ × ℕ)) → charge_of queue charged before ≤ 2 ^ 50
      by_charge None = omega arith
      by_charge (Some charged) = by_test charged.1 (is_number queue charged.0)

  -- a right pick is at the virtual runtime of its queue
  picked_low : (bound : ℕ) (note : Note ℕ) (before : Journal ℕ) → PicksRight burst note before → ((queue : ℕ) → virtual_runtime burst queue before ≤ bound) →
      runtime_picked note ≤ bound
  picked_low bound (Pick queue runtime) before right low = let at_queue = low queue in omega (arith, right.right.at)
  picked_low bound _ before right low = omega arith

  -- the floor and all virtual runtimes are at most this
  record IsLow (bound : ℕ) (journal : Journal ℕ) : Type 0 where
    of_floor : floor journal ≤ bound
    of_queues : (queue : ℕ) → virtual_runtime burst queue journal ≤ bound

  low : (journal : Journal ℕ) → AreSpelledNotes terms journal → EachNote (PicksRight burst) journal → IsLow (length journal * 2 ^ 50) journal
  low [] spelled each = record { of_floor = omega arith; of_queues = λ queue. omega arith }
  low (note ∷ before) spelled each = step (low before spelled.1 each.1)
    where
      step : IsLow (length before * 2 ^ 50) before → IsLow (length (note ∷ before) * 2 ^ 50) (note ∷ before)
      step was = record {
        of_floor =
            let picked = picked_low (length before * 2 ^ 50) note before each.0 was.of_queues in
            let under = was.of_floor in
            omega arith;
        of_queues = λ queue.
            let under = was.of_floor in
            let here = was.of_queues queue in
            let placed = place_noted-bounded terms queue note before in
            let cost = costs_little queue note before (in_range queue before spelled.1) in
            omega arith;
      }

  -- no virtual runtime of a journal in memory is cut off
  pub are_below : (journal : Journal ℕ) → AreSpelledNotes terms journal → EachNote (PicksRight burst) journal → length journal < greatest_count →
      AreBelow burst greatest_runtime journal
  are_below journal spelled each short queue = let here = (low journal spelled each).of_queues queue in omega (arith, short, here)
