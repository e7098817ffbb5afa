-- How many notes a turn takes.
use Rattle.run_worker.proofs.Names.{ap, arith, Bool, false, GoesThrough, IsSameSeat, JobId, left_of, length, List, MakesTurn, Meaning, most_of_turn, number_if, polls_in_turn, PollsOn, RecordedView, seat_along, seat_same, suc, sum_by}
use Rattle.run_worker.proofs.Names.{true, Turned, TurnView, ℕ, [], ◌*◌, ◌+◌, ◌-◌, ◌∷◌, ◌≡◌, ◌≤◌}
use Rattle.actor_core.specs.declared.whole.Turned.TheVariants as came
use Rattle.run_worker.proofs.TurnNotes.{ended_notes, notes_at}

module _ {J T M G : Type 0} (meaning : Meaning J T) (tells : M → ℕ → M → Type 0) (asked : G → ℕ → JobId → G → Type 0) where
  -- so many further polls: no more than the turn has left, and each takes two notes of its own
  record Counts (count : ℕ) (old new : RecordedView J T) : Type 0 where
    seat : IsSameSeat old new
    polls : polls_in_turn new.journal.notes ≡ polls_in_turn old.journal.notes + count
    within : count ≤ old.core.bursts.burst - polls_in_turn old.journal.notes
    spends : length new.journal.notes + sum_by left_of new.lanes ≤ length old.journal.notes + sum_by left_of old.lanes + 2 * count

  on_counts : (polls : List JobId) (old new : TurnView J T M G) → PollsOn meaning tells asked polls old new → Counts (length polls) old.linked.recorded new.linked.recorded
  on_counts [] old new did = rw did (record { seat = seat_same old.linked.recorded; polls = omega arith; within = omega arith; spends = omega arith })
  on_counts (name ∷ before) old new did =
      let was = on_counts before old did.0 did.1 in
      let now = did.2.polls in
      record {
        seat = seat_along old.linked.recorded did.0.linked.recorded new.linked.recorded was.seat now.seat;
        polls = omega (arith, was.polls, now.in_turn.polls_are);
        within = omega (arith, was.within, was.polls, now.picks.goes_on.poll_left, was.seat.burst);
        spends = omega (arith, was.spends, now.spends);
      }

  through_counts : (form : Bool) (old new : TurnView J T M G) → GoesThrough meaning tells asked form old new →
      length (notes_at new) ≤ length (notes_at old) + sum_by left_of old.linked.recorded.lanes + 2 * (old.linked.recorded.core.bursts.burst - polls_in_turn (notes_at old)) + number_if form
  through_counts false old new did = let same : length (notes_at new) ≡ length (notes_at old) = ap (λ view. length (notes_at view)) did in omega (arith, same)
  through_counts true old new did =
      let on = on_counts did.0 old did.1 did.2 in
      let last : length (notes_at new) ≡ suc (length (notes_at did.1)) = ap length (ended_notes did.1 new did.3) in
      omega (arith, on.within, on.spends, last)

  -- how many notes a turn with polls takes at most
  pub turn_counts : (old new : TurnView J T M G) → MakesTurn meaning tells asked old came.Polled new →
      length (notes_at new) ≤ length (notes_at old) + most_of_turn old.linked.recorded.core.cores old.linked.recorded.cap old.linked.recorded.core.bursts.burst
  turn_counts old new did =
      let first = did.2.polls in
      let rest = through_counts _ did.1 new did.3 in
      omega (arith, first.spends, first.spare, first.in_turn.polls_are, first.seat.burst, rest)

  -- whatever it came to
  pub made_few : (old new : TurnView J T M G) (made : Turned) → MakesTurn meaning tells asked old made new →
      length (notes_at new) ≤ length (notes_at old) + most_of_turn old.linked.recorded.core.cores old.linked.recorded.cap old.linked.recorded.core.bursts.burst
  made_few old new came.Polled did = turn_counts old new did
  made_few old new came.Returned did = let now : length (notes_at new) ≡ suc (suc (length (notes_at old))) = ap (λ journal. length journal.notes) did.0.did.journal in omega (arith, now)
  made_few old new came.Idle did = let same : length (notes_at new) ≡ length (notes_at old) = ap (λ view. length view.journal.notes) did.1 in omega (arith, same)
  made_few old new came.Spent did = let same : length (notes_at new) ≡ length (notes_at old) = ap (λ view. length view.journal.notes) did.2 in omega (arith, same)
