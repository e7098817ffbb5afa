use Rattle.std.proofs.Common.{◌≡◌, true, length, Some, subst}
use Rattle.std.specs.Prelude.{slice_get}
use Rattle.run_runtime.proofs.runtime.Runtime.sink.Goals as goal

pub returns-clause-has : goal.returns-clause-has
returns-clause-has g c = subst (λ view. g.S.Sink.has c.sink.result.now ≡ view.desk.journal.passed) c.self.view_is c.sink.ensures.has

pub returns-clause-asks : goal.returns-clause-asks
returns-clause-asks g c = subst (λ view. g.S.Sink.asks c.sink.result.now ≡ view.asks) c.self.view_is c.sink.ensures.asks

pub returns-clause-mark : goal.returns-clause-mark
returns-clause-mark g c = subst (λ view. slice_get view.marks (length view.workers) ≡ Some (g.S.Sink.mark c.sink.result.now)) c.self.view_is c.sink.ensures.mark

pub returns-clause-refused : goal.returns-clause-refused
returns-clause-refused g c = subst (λ view. view.refused ≡ true → g.S.Sink.refused c.sink.result.now (length view.desk.journal.passed)) c.self.view_is c.sink.ensures.refused
