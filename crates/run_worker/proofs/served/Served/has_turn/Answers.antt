use Rattle.run_worker.proofs.Names.{all_used, arith, false≢true, has_work, HasNoTurn, idle, inl, inr, IsRecorded, Meaning, RecordedView, ServedView, some_front, subst, sym, turns, waiting_of, works, ℕ, [], ◌-◌}
use Rattle.run_worker.proofs.Names.{◌<◌, ◌^◌, ◌∙◌, ◌≡◌}
use Rattle.std.proofs.Common.{false}
use Rattle.core_core.specs.Whole.{TellsAhead}
use Rattle.core_core.specs.declared.turn.Ahead.{Ahead}
use Rattle.core_core.specs.declared.turn.PickError.{PickError}
use Rattle.std.specs.Prelude.{Ok, Err}
use Rattle.run_worker.proofs.served.Served.has_turn.Goals as goal

-- where a job waits and a turn is left, a turn is to be made
turn_due : {J T : Type 0} {meaning : Meaning J T} (view : RecordedView J T) → IsRecorded meaning view → (queue : ℕ) → (waiting_of queue view.core.queues ≡ [] → ⊥) → view.core.turns < 2 ^ 64 - 1 →
    HasNoTurn view.journal.notes → ⊥
turn_due view recorded queue some left (inl none) = false≢true (sym (none queue) ∙ works view recorded queue some)
turn_due view recorded queue some left (inr used) = omega (arith, left, used, recorded.kept.agrees.turns)

pub returns-in-Ok-Idle-clause-none : goal.returns-in-Ok-Idle-clause-none
returns-in-Ok-Idle-clause-none g c =
    let told = subst (λ (one : Ahead). TellsAhead c.self.inside.seat.recorded.core (Ok one)) c.in-Ok-Idle.field-0-is c.in-Ok-Idle.ensures in
    λ _. inl (subst (λ (view : ServedView _ _). (queue : ℕ) → has_work queue view.linked.recorded.journal.notes ≡ false) c.self.view_is (idle c.self.inside.seat.recorded c.self.invariant.0.linked.recorded told.0 told.2))

pub returns-in-Err-Spent-clause-none : goal.returns-in-Err-Spent-clause-none
returns-in-Err-Spent-clause-none g c =
    let told = subst (λ (one : PickError). TellsAhead c.self.inside.seat.recorded.core (Err one)) c.in-Err-Spent.field-0-is c.in-Err-Spent.ensures in
    λ _. inr (subst (λ (view : ServedView _ _). turns view.linked.recorded.journal.notes ≡ 2 ^ 64 - 1) c.self.view_is (all_used c.self.inside.seat.recorded c.self.invariant.0.linked.recorded told).0)

pub returns-in-Ok-Job-clause-rightly : goal.returns-in-Ok-Job-clause-rightly
returns-in-Ok-Job-clause-rightly g c =
    let next = c.in-Ok-Job.field-0-0 in
    let told = subst (λ (one : Ahead). TellsAhead c.self.inside.seat.recorded.core (Ok one)) c.in-Ok-Job.field-0-is c.in-Ok-Job.ensures in
    let some = some_front (waiting_of next.queue c.self.inside.seat.recorded.core.queues) (next.name, record { started = next.started; woken = next.woken }, told.front.0) told.front.1 told.front.2 in
    λ _. subst (λ (view : ServedView _ _). HasNoTurn view.linked.recorded.journal.notes → ⊥) c.self.view_is (turn_due c.self.inside.seat.recorded c.self.invariant.0.linked.recorded next.queue some told.left)

pub returns-in-Ok-Back-clause-rightly : goal.returns-in-Ok-Back-clause-rightly
returns-in-Ok-Back-clause-rightly g c = let told = subst (λ (one : Ahead). TellsAhead c.self.inside.seat.recorded.core (Ok one)) c.in-Ok-Back.field-0-is c.in-Ok-Back.ensures in
    λ _. subst (λ (view : ServedView _ _). HasNoTurn view.linked.recorded.journal.notes → ⊥) c.self.view_is (turn_due c.self.inside.seat.recorded c.self.invariant.0.linked.recorded told.0 told.2 told.4)
