use Rattle.std.proofs.Common.{refl}
use Rattle.fairview_marks.proofs.standing.Standing.new.Goals as goal

pub returns : goal.returns
returns c = record {
  same_burst = refl;
  clock = c.new.ensures;
  parks = c.new-2.ensures;
  accounts = c.new-3.ensures c.args.burst;
  tallies = c.new-4.ensures c.args.burst;
}
