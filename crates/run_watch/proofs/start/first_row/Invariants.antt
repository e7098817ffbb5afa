use Rattle.std.proofs.Common.{◌≡◌}
use Rattle.run_watch.specs.Words.{words_from}
use Rattle.run_watch.proofs.start.first_row.Given as goal

abbrev pub invariant-loop-index : goal.invariant-loop-index
invariant-loop-index l = l.row.items ≡ words_from 0 l.index
