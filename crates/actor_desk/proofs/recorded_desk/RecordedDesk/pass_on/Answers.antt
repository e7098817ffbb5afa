use Rattle.actor_desk.specs.Submissions.{IsWritten}
use Rattle.actor_desk.specs.Tickets.{KnowsLanes}
use Rattle.actor_desk.proofs.Passed.{passed_holds}
use Rattle.actor_desk.proofs.recorded_desk.RecordedDesk.pass_on.Goals as goal

pub invariant_of-self : goal.invariant_of-self
invariant_of-self g c =
    passed_holds g.S.Sink.has g.S.Sink.refused (λ journal.
    IsWritten (record { actor = c.self.inside.actor; cores = c.self.inside.cores; cap = c.self.inside.cap; burst = c.self.inside.burst }) journal.notes
    × KnowsLanes (record { actor = c.self.inside.actor; cores = c.self.inside.cores; cap = c.self.inside.cap; burst = c.self.inside.burst; journal = journal; lanes = c.self.inside.lanes.items }))
    c.self.inside.journal _ c.pass_on.result _ _ c.self.invariant
    (c.self.invariant.0, record { cores_are = c.self.invariant.1.cores_are; each = c.self.invariant.1.each }) c.pass_on.ensures.passes
