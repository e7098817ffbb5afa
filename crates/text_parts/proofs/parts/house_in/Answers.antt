use Rattle.std.proofs.Common.{arith}
use Rattle.text_parts.proofs.HouseLemmas.{numbers_short}
use Rattle.text_parts.proofs.parts.house_in.Goals as goal

pub returns-in-Some-clause-short : goal.returns-in-Some-clause-short
returns-in-Some-clause-short c = numbers_short c.args.bytes.now c.in-Some.rest.now c.in-Some.house (λ i. omega (arith, c.type_inv.bytes i)) c.in-Some.ensures
