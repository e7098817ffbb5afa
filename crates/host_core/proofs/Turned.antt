-- How many notes a turn takes.
use Rattle.std.proofs.Common.{◌≡◌, ℕ, ◌+◌, ◌≤◌, inl, inr, length, ap, arith}
use Rattle.std.specs.Prelude.{Some, Ok, Err}
use Rattle.actor_core.specs.Recorded.{RecordedView}
use Rattle.actor_seat.proofs.AddedTurns.{adds_ended, adds_followed, adds_picked}
use Rattle.host_core.specs.declared.job.HostJob.{HostJob}
use Rattle.host_core.specs.Jobs.{host_meaning}
use Rattle.host_core.specs.Turns.{EndsIfOpen, GoesOn, Turned, TurnsTo}

abbrev View : Type 0
View = RecordedView HostJob ℕ

few_end : (old over : View) → EndsIfOpen old over → length over.journal.notes ≤ length old.journal.notes + 1
few_end old over (inl none) = omega (arith, ap (λ (view : View). length view.journal.notes) none.1)
few_end old over (inr ends) = (adds_ended old over ends.0 ends.1).few

few_on : (old new : View) (turned : Turned) → GoesOn old turned new → length new.journal.notes ≤ length old.journal.notes + 1
few_on old new (Ok turn) goes = (adds_followed old new (Some turn) goes).few
few_on old new (Err error) goes = absurd goes

pub few_turn : (old new : View) (turned : Turned) → TurnsTo old turned new → length new.journal.notes ≤ length old.journal.notes + 3
few_turn old new turned (inl goes) = let few = few_on old new turned goes in omega (arith, few)
few_turn old new turned (inr picks) = let ended = few_end old picks.0 picks.1 in let few = (adds_picked host_meaning picks.0 new turned picks.2).few in omega (arith, ended, few)
