use Rattle.std.proofs.Common.{sym}
use Rattle.host_core.proofs.Kept.{run_known}
use Rattle.host_core.proofs.TakenOut.{settled_holds, settled_hosted}
use Rattle.host_core.proofs.hosted.Hosted.settle.Goals as goal

pub settle-requires-clause-known : goal.settle-requires-clause-known
settle-requires-clause-known c = run_known c.self.inside.seat.recorded c.self.inside.run c.in-Some.run' c.self.invariant.0.recorded c.self.invariant.1 (sym c.in-Some.ensures.value)

pub returns-clause-hosted : goal.returns-clause-hosted
returns-clause-hosted c = settled_hosted c.settle.ensures.settles c.settle.ensures.stays c.settle.ensures.seated c.self.invariant.0
