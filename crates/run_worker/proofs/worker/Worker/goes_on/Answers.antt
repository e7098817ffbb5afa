use Rattle.run_worker.proofs.Names.{IsSupplied, refl, runs_stays, served_of, subst, sym}
use Rattle.run_worker.proofs.Looked.{round_steps}
use Rattle.run_worker.proofs.Published.{shown_runs}
use Rattle.run_worker.proofs.Resting.{bell_still, goes}
use Rattle.run_worker.proofs.Supplied.{round_passes}
use Rattle.run_worker.proofs.worker.Worker.goes_on.Goals as goal

pub invariant_of-self : goal.invariant_of-self
invariant_of-self g c =
    let steps = round_steps g.J.Task.meaning g.J.Task.sleeps g.C.Clock.Reads g.G.Gate.Asked _ _ _ _ c.round-some.ensures.makes in (
      c.round-some.ensures.rung,
      bell_still _ _ _ _ c.self.inside.own steps.stays.seat.number c.round-some.ensures.names c.self.invariant.1,
      round_passes g.S.Sink.has g.S.Sink.refused c.self.inside.rounds.served c.self.inside.sink c.self.invariant.2 c.round-some.new.self.served
          (subst (λ view. IsSupplied g.S.Sink.has g.S.Sink.refused (served_of view) view.sink) (sym c.self.view_is) c.hand_on_if_low.ensures.supplied) steps,
      shown_runs _ _ _ (runs_stays _ _ steps.stays) c.self.invariant.3,
    )

pub returns : goal.returns
returns g c =
    goes g.J.Task.meaning g.J.Task.sleeps g.C.Clock.Reads g.G.Gate.Asked g.S.Sink c.args.self.now c.hand_on_if_low.new.self _ _ c.self.view_is c.round-some.result c.count_idle-again.result.0 c.hand_on_if_low.ensures.hands c.round-some.ensures.makes
    c.count_idle-again.ensures (record { tries = refl; bells = c.round-some.ensures.names; sink = refl; shown = refl; since = refl })
