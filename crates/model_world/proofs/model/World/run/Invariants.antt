use Rattle.model_world.proofs.Words.{IsRun}
use Rattle.model_world.proofs.model.World.run.Given as goal

-- the events so far have run
abbrev pub invariant-loop-event : goal.invariant-loop-event
invariant-loop-event g l = IsRun g.J.Task.meaning l.yielded l.fn.self l.world
