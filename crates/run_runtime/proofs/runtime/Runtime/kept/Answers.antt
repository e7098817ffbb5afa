use Rattle.std.proofs.Common.{◌≡◌, ◌+◌, ◌++◌, [], length, subst}
use Rattle.run_runtime.proofs.runtime.Runtime.kept.Goals as goal

pub returns-clause-notes : goal.returns-clause-notes
returns-clause-notes g c = subst (λ view. c.kept.result.now.notes ++ view.desk.journal.passed ≡ view.desk.journal.notes) c.self.view_is c.kept.ensures.notes

pub returns-clause-room : goal.returns-clause-room
returns-clause-room g c = subst (λ view. length view.desk.journal.passed + c.kept.result.now.room ≡ view.desk.journal.room) c.self.view_is c.kept.ensures.room

pub returns-clause-whole : goal.returns-clause-whole
returns-clause-whole g c = subst (λ view. view.desk.journal.passed ≡ [] → c.kept.result.now ≡ view.desk.journal) c.self.view_is c.kept.ensures.whole
