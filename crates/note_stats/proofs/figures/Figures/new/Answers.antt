use Rattle.std.proofs.Common.{refl, arith}
use Rattle.note_stats.proofs.figures.Figures.new.Goals as goal

pub returns : goal.returns
returns c = record {
  same_burst = refl;
  accounts = c.new.ensures c.args.burst;
  tallies = c.new-2.ensures c.args.burst;
  gates = c.new-3.ensures;
  short = omega arith;
}
