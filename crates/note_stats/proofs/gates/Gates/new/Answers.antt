use Rattle.std.proofs.Common.{refl, arith}
use Rattle.note_stats.specs.Gates.{open_gate}
use Rattle.base_words.proofs.Tables.{all_alike}
use Rattle.note_stats.proofs.gates.Gates.new.Goals as goal

pub returns : goal.returns
returns c = record {
  picked = refl;
  made = refl;
  each = λ sender. all_alike 256 sender c.new.result open_gate c.new.ensures;
  picked_fit = omega arith;
  made_fit = omega arith;
}
