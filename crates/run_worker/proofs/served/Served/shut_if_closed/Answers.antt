use Rattle.run_worker.proofs.Names.{ap, arith, core_mode, IsReady, IsSome, subst, sym, ◌+◌, ◌∙◌, ◌≡◌}
use Rattle.run_worker.proofs.Alone.{knows_along}
use Rattle.run_worker.proofs.Between.{between_behind}
use Rattle.run_worker.proofs.Looked.{still_closed}
use Rattle.run_worker.proofs.Serving.{shuts_served}
use Rattle.run_worker.proofs.Spare.{places_more}
use Rattle.run_worker.proofs.Telling.{looked_alone, looked_steps}
use Rattle.run_worker.proofs.served.Served.shut_if_closed.Goals as goal

pub invariant_of-self : goal.invariant_of-self
invariant_of-self g c = (
  rw c.if-self.false (shuts_served c.self.inside.seat c.shut_gates.new.seat c.shut_gates.ensures.linked
      (between_behind _ _ c.shut_gates.ensures.shuts.stays c.shut_gates.ensures.shuts.polls c.self.invariant.0.between) c.shut_gates.ensures.shuts
      (subst (λ ending. IsReady ending c.self.inside.seat.recorded) c.if-self.false (subst (λ view. IsReady view.ending view.linked.recorded) (sym c.self.view_is) c.look.ensures.ready)) (rw c.if-self.false at c.self.invariant.0.acts)),
  knows_along c.self.inside.cores c.self.inside.least c.self.inside.alone c.self.inside.seat c.shut_gates.new.seat c.shut_gates.ensures.shuts.stays c.self.invariant.1,
)

pub returns-clause-shuts : goal.returns-clause-shuts
returns-clause-shuts g c = λ some sender known spare. (c.shut_gates.ensures.shuts.shut sender (omega (arith, known, c.shut_gates.ensures.shuts.stays.seat.cores)) spare).gate

pub returns-then-self-clause-steps : goal.returns-then-self-clause-steps
returns-then-self-clause-steps g c = looked_alone _ c.args.self.now c.look.new.self c.look.ensures.looks c.look.ensures.stays

-- at its end each gate is shut
pub returns-then-self-clause-shuts : goal.returns-then-self-clause-shuts
returns-then-self-clause-shuts g c = λ some sender known spare.
    (subst (λ ending. IsReady ending c.look.new.self.linked.recorded) (sym (ap (λ view. view.ending) c.self.view_is) ∙ c.if-self.true) c.look.ensures.ready).gates sender known

pub shut_gates-requires-clause-closed : goal.shut_gates-requires-clause-closed
shut_gates-requires-clause-closed g c =
    subst (λ view. IsSome (core_mode view.linked.recorded.journal.notes)) (sym c.self.view_is)
    (still_closed c.args.self.now.linked.recorded.journal.notes c.look.new.self.linked.recorded.journal.notes c.look.ensures.stays.grows c.requires.closed)

pub shut_gates-requires-clause-room : goal.shut_gates-requires-clause-room
shut_gates-requires-clause-room g c =
    let ready = subst (λ ending. IsReady ending c.self.inside.seat.recorded) c.if-self.false (subst (λ view. IsReady view.ending view.linked.recorded) (sym c.self.view_is) c.look.ensures.ready) in
    omega (arith, ready, places_more c.self.inside.seat.recorded.core.cores c.self.inside.seat.recorded.cap)

pub returns-clause-steps : goal.returns-clause-steps
returns-clause-steps g c =
    let cores : c.self.inside.seat.recorded.core.cores ≡ c.args.self.now.linked.recorded.core.cores = ap (λ view. view.linked.recorded.core.cores) c.self.view_is ∙ c.look.ensures.stays.seat.cores in
    looked_steps (c.args.self.now.linked.recorded.core.cores + 1) c.args.self.now c.look.new.self (record { linked = c.self.inside.seat; ending = c.self.inside.ending }) c.shut_gates.new.seat c.shut_gates.result c.self.view_is
    c.look.ensures.looks c.look.ensures.stays c.shut_gates.ensures.shuts.stays c.shut_gates.ensures.tells (omega (arith, c.shut_gates.ensures.shuts.longer, cores))
