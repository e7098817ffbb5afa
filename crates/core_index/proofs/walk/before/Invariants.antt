-- The key is among those that are left, but isn't the first of them.
use Rattle.std.proofs.Common.{◌≡◌, ℕ, ◌-◌, ◌<◌, ◌≤◌}
use Rattle.core_index.specs.Buckets.{keys_from, keys_in, copies, Precedes}
use Rattle.core_index.proofs.walk.before.Given as goal

abbrev pub invariant-loop-index : goal.invariant-loop-index
invariant-loop-index g l = record {
  within : (other : ℕ) → copies other (keys_from l.rows.items l.at (l.fn.bucket.count - l.index)) ≤ copies other (keys_in l.rows.items l.fn.bucket);
  left : 0 < copies l.key (keys_from l.rows.items l.at (l.fn.bucket.count - l.index));
  apart : l.at ≡ l.key → ⊥;
  back : (other : ℕ) → Precedes l.rows.items l.at (l.fn.bucket.count - l.index) other l.key → Precedes l.rows.items l.fn.bucket.head l.fn.bucket.count other l.key;
}
