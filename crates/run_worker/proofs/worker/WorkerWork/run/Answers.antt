use Rattle.run_worker.proofs.Names.{ap, AsksSince, runs_along, shown_of, subst, sym, [], ◌∙◌, ◌∷◌}
use Rattle.run_worker.proofs.Lives.{along_lives, shows_board}
use Rattle.run_worker.proofs.Resting.{worker_of}
use Rattle.run_worker.proofs.Supplied.{hands_notes, hands_runs}
use Rattle.run_worker.proofs.worker.WorkerWork.run.Goals as goal

pub loop-init : goal.loop-init
loop-init g c = (
  tt,
  tt,
  (
    [],
    ap (λ served. worker_of served.linked served.ending c.worker.inside.rounds.timers c.worker.inside.rounds.watch.clock c.worker.inside.rounds.gate c.worker.inside.rounds.watch.last c.worker.inside.rounds.watch.taken c.worker.inside.rounds.turns c.worker.inside.tries c.worker.inside.idle
        c.worker.inside.rounds.bells.names c.worker.inside.sink (shown_of c.worker.inside.publisher) c.worker.inside.since) c.begin.ensures
        ∙ c.worker.view_is,
  ),
)

pub loop-preserved : goal.loop-preserved
loop-preserved g c = (tt, tt, (c.loop.worker ∷ c.loop.invariant.2.0, (c.loop.invariant.2.1, c.serve.ensures)))

pub returns-then-is_drained-clause-keeps : goal.returns-then-is_drained-clause-keeps
returns-then-is_drained-clause-keeps g c =
    let lives = along_lives g.J.Task.meaning g.J.Task.sleeps g.C.Clock.Reads g.G.Gate.Asked g.S.Sink c.loop.invariant.2.0 c.args.self c.loop.worker c.loop.invariant.2.1 in
    record {
      runs = runs_along c.args.self.linked c.loop.worker.linked c.into_ended.result.linked lives.runs
          (hands_runs g.S.Sink c.loop.worker.linked c.into_ended.result.linked c.loop.worker.sink c.into_ended.result.sink c.into_ended.ensures.hands);
      board = shows_board c.loop.worker.linked.recorded.journal.notes c.loop.worker.shown c.into_ended.result.shown c.into_ended.ensures.shows ∙ lives.board;
      marked = c.into_ended.ensures.hands.marked ∙ lives.marked;
    }

pub returns-then-is_drained-clause-asks : goal.returns-then-is_drained-clause-asks
returns-then-is_drained-clause-asks g c = (
  c.loop.worker.gate,
  subst (λ notes. AsksSince g.G.Gate.Asked c.args.self.linked.recorded.core.core c.args.self.linked.recorded.journal.notes notes c.args.self.gate c.loop.worker.gate)
      (sym (hands_notes g.S.Sink c.loop.worker.linked c.into_ended.result.linked c.loop.worker.sink c.into_ended.result.sink c.into_ended.ensures.hands))
      (along_lives g.J.Task.meaning g.J.Task.sleeps g.C.Clock.Reads g.G.Gate.Asked g.S.Sink c.loop.invariant.2.0 c.args.self c.loop.worker c.loop.invariant.2.1).asks,
)
