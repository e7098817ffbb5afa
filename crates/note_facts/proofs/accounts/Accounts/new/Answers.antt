use Rattle.std.proofs.Common.{refl, arith}
use Rattle.note_facts.proofs.AllAccounts.{all_fresh}
use Rattle.note_facts.proofs.accounts.Accounts.new.Goals as goal

pub returns : goal.returns
returns c = λ burst. record {
  each = λ queue. all_fresh burst 256 queue c.new.result c.new.ensures;
  floor = refl;
  recent = λ queue some. absurd (omega (arith, some));
}
