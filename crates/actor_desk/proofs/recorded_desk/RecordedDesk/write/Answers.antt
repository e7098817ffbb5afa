use Rattle.actor_desk.proofs.LaneNotes.{knows_written}
use Rattle.actor_desk.proofs.recorded_desk.RecordedDesk.write.Goals as goal

pub invariant_of-self : goal.invariant_of-self
invariant_of-self g c =
    knows_written (record { actor = c.self.inside.actor; cores = c.self.inside.cores; cap = c.self.inside.cap; burst = c.self.inside.burst; journal = c.self.inside.journal; lanes = c.self.inside.lanes.items }) c.args.self.now c.self.view_is
    c.args.notes.now c.self.invariant.1 c.requires.written c.requires.sent c.push_all.new.self c.push_all.ensures.notes
