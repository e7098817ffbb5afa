use Rattle.run_worker.proofs.GivenBack.{never_short}
use Rattle.run_worker.proofs.laws.never_refused_never_short.Goals as goal

pub returns : goal.returns
returns g c view ended never = never_short g.S.Sink.refused view.sink view.linked.recorded ended.acts never
