use Rattle.note_journal.proofs.Passed.{rest_is}
use Rattle.note_journal.proofs.running.RunningJournal.since.Goals as goal

pub returns : goal.returns
returns g c = rest_is c.args.self.now c.self.inside.passed.items c.self.inside.kept.room c.self.inside.kept.notes c.as_slice-notes.result.now c.args.count c.self.view_is c.as_slice-notes.ensures
