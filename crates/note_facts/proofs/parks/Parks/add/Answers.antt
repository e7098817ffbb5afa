use Rattle.note_facts.proofs.Naps.{knows_next}
use Rattle.note_facts.proofs.parks.Parks.add.Goals as goal

pub returns-clause-knows : goal.returns-clause-knows
returns-clause-knows c =
    λ before short knows.
    knows_next c.args.self.now _ before short knows c.args.note.now c.in_ok-set_told.ensures.queues c.in_ok-set_told.ensures.naps
    (rw c.set_told.ensures.endings at c.add.ensures)
