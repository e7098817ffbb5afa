-- So many columns stand there, all without a lag.
use Rattle.std.proofs.Common.{◌≡◌, ℕ, length, get_or}
use Rattle.std.specs.Prelude.{None}
use Rattle.fairview_lag.proofs.columns.no_columns.Given as goal

abbrev pub invariant-loop-count : goal.invariant-loop-count
invariant-loop-count l = record {
  sized : length l.columns.items ≡ l._count;
  each : (number : ℕ) → get_or l.columns.items number None ≡ None;
}
