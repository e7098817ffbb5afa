use Rattle.run_runtime.proofs.SinksTold.{never_refused}
use Rattle.run_runtime.proofs.laws.never_refused_never_short.Goals as goal

pub returns : goal.returns
returns g c = never_refused g.J.Task.meaning g.S.Sink.has g.S.Sink.refused g.S.Sink.asks g.S.Sink.mark
