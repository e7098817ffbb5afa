use Rattle.run_worker.proofs.Names.{IsSupplied, refl, runs_stays, served_of, subst, sym}
use Rattle.run_worker.proofs.Looked.{look_steps}
use Rattle.run_worker.proofs.Published.{shown_runs}
use Rattle.run_worker.proofs.Resting.{bell_still, rests}
use Rattle.run_worker.proofs.Supplied.{round_passes}
use Rattle.run_worker.proofs.worker.Worker.rests.Goals as goal

pub invariant_of-self : goal.invariant_of-self
invariant_of-self g c =
    let steps = look_steps g.J.Task.meaning g.J.Task.sleeps g.C.Clock.Reads g.G.Gate.Asked _ _ _ c.rest.ensures.looks.all in (
      c.rest.ensures.looks.rings,
      bell_still _ _ _ _ c.self.inside.own steps.stays.seat.number c.rest.ensures.looks.names c.self.invariant.1,
      round_passes g.S.Sink.has g.S.Sink.refused c.self.inside.rounds.served c.self.inside.sink c.self.invariant.2 c.rest.new.last.served
          (subst (λ view. IsSupplied g.S.Sink.has g.S.Sink.refused (served_of view) view.sink) (sym c.self.view_is) c.hand_on_if_kept.ensures.supplied) steps,
      shown_runs _ _ _ (runs_stays _ _ steps.stays) c.self.invariant.3,
    )

pub returns : goal.returns
returns g c =
    rests g.J.Task.meaning g.J.Task.sleeps g.C.Clock.Reads g.G.Gate.Asked g.S.Sink c.args.self.now c.hand_on_if_kept.new.self _ _ c.self.view_is c.is_none-found.result _ c.is_none-found.ensures c.hand_on_if_kept.ensures.hands
    c.rest.ensures.looks.all c.idle_behind-idle.ensures (record { tries = refl; bells = c.rest.ensures.looks.names; sink = refl; shown = refl; since = refl })
