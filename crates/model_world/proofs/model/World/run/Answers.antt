use Rattle.model_world.proofs.Words.{ℕ, List, [], ◌∷◌, ◌++◌, Meaning, Event, Reply, WorldView, Happens, refl, sym, subst, ◌∙◌, YieldsList-from_vec}
use Rattle.model_world.proofs.Words.{YieldsList-turn, YieldsList-end, map-id, IsRun}
use Rattle.base_jobs.specs.Ready.{HasReadyJob}
use Rattle.model_world.specs.Opening.{HasReadyEvent}
use Rattle.model_world.proofs.model.World.run.Goals as goal

-- a run, one event longer
module _ {J : Type 0} (meaning : Meaning J ℕ) where
  run_longer : (events : List (Event J)) (old between new : WorldView J ℕ) (event : Event J) (answer : Reply J) →
      IsRun meaning events old between → Happens meaning event between new answer → IsRun meaning (events ++ event ∷ []) old new
  run_longer [] old between new event answer run happens =
      (new, answer, subst (λ start. Happens meaning event start new answer) run happens, refl)
  run_longer (first ∷ events) old between new event answer run happens =
      (run.0, run.1, run.2, run_longer events run.0 between new event answer run.3 happens)

pub step-requires : goal.step-requires
step-requires g c =
    let all = YieldsList-from_vec {s = c.into_iter-event-iterator.result} c.args.events.items c.into_iter-event-iterator.ensures.into_iter_gives.0 (c.into_iter-event-iterator.ensures.into_iter_gives.1 ∙ c.args.events.ok.0) in
    let turn = YieldsList-turn all c.loop-event.yielded c.loop-event.event-iterator c.loop-event.yielded_by _ c.next.new.self c.in-Some.event c.in-Some.is c.next.ensures.steps in
    record { ready = subst (HasReadyEvent (HasReadyJob g.J.Task.meaning)) (sym turn.1) (c.requires.ready _ c.in-Some.event turn.0) }

pub loop-event-preserved : goal.loop-event-preserved
loop-event-preserved g c = run_longer g.J.Task.meaning c.loop-event.yielded _ _ _ c.in-Some.event _ c.loop-event.invariant c.step.ensures

pub returns-clause-run : goal.returns-clause-run
returns-clause-run g c =
    let all = YieldsList-from_vec {s = c.into_iter-event-iterator.result} c.args.events.items c.into_iter-event-iterator.ensures.into_iter_gives.0 (c.into_iter-event-iterator.ensures.into_iter_gives.1 ∙ c.args.events.ok.0) in
    let end = YieldsList-end all c.loop-event.yielded c.loop-event.event-iterator c.loop-event.yielded_by _ c.next.new.self c.in-None.is c.next.ensures.steps in (
      c.loop-event.world,
      subst (λ events. IsRun g.J.Task.meaning events c.args.self c.loop-event.world) (sym (map-id c.loop-event.yielded) ∙ end.0) c.loop-event.invariant,
      c.into_assembly.ensures.value,
    )
