use Rattle.run_worker.proofs.Names.{ap, BellsView}
use Rattle.run_worker.proofs.Rung.{since_rung, since_within}
use Rattle.run_worker.proofs.served.Served.wake_due.Goals as goal

pub ring_since-requires : goal.ring_since-requires
ring_since-requires g c =
    since_within c.args.self.now c.wake_some-some.new.self c.journal.result.now c.journal-2.result.now c.kept_count-before.result c.journal.ensures.journal c.journal-2.ensures.journal c.kept_count-before.ensures.value
    c.wake_some-some.ensures.steps.stays

pub returns-clause-rung : goal.returns-clause-rung
returns-clause-rung g c =
    since_rung c.args.self.now c.wake_some-some.new.self c.journal.result.now c.journal-2.result.now c.kept_count-before.result c.journal.ensures.journal c.journal-2.ensures.journal c.kept_count-before.ensures.value
    c.wake_some-some.ensures.steps.stays c.args.bells.now c.ring_since.new.bells c.requires.rung (ap (λ (bells : BellsView). bells.rings) c.ring_since.ensures)
