use Rattle.std.proofs.Common.{arith}
use Rattle.text_parts.specs.Parts.{part_seen}
use Rattle.text_parts.proofs.ByteLaws.{part_found}
use Rattle.text_parts.proofs.part.part_at.Goals as goal

pub returns-clause-found : goal.returns-clause-found
returns-clause-found c = part_found (λ x. (part_seen x.0, x.1.now)) c.args.bytes.now c.part_in.result (λ i. omega (arith, c.type_inv.bytes i)) c.part_in.ensures
