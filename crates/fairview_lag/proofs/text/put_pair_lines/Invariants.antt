-- The lines of the pairs so far stand behind what the page had.
use Rattle.std.proofs.Common.{◌≡◌, ◌++◌, take, string_bytes}
use Rattle.std.specs.Prelude.{flat_map}
use Rattle.fairview_lag.specs.Lines.{pair_line}
use Rattle.fairview_lag.proofs.text.put_pair_lines.Given as goal

abbrev pub invariant-loop-pair : goal.invariant-loop-pair
invariant-loop-pair l = string_bytes l.page ≡ string_bytes l.initial.page ++ flat_map pair_line (take l.pair-index l.pairs)
