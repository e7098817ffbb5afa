use Rattle.std.proofs.Common.{arith, rules}
use Rattle.std.proofs.lemmas.Grind.{common_steps}
use Rattle.note_facts.proofs.stays.Stays.add.Goals as goal

pub returns-clause-knows : goal.returns-clause-knows
returns-clause-knows c =
    λ before parked knows.
    let kept = rw c.kept_told.ensures at c.in_ok-set_told.ensures.set in
    let same = c.close.ensures.kept in
    record { kept = grind (arith, common_steps); queues = search rules; core = search rules }
