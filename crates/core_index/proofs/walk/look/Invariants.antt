-- The keys that are left are keys of the bucket, and each key of the name is among them.
use Rattle.std.proofs.Common.{◌≡◌, ℕ, ◌-◌, ◌<◌, ◌≤◌, Some}
use Rattle.core_index.specs.Buckets.{shown_at, keys_from, keys_in, copies}
use Rattle.core_index.proofs.walk.look.Given as goal

abbrev pub invariant-loop-index : goal.invariant-loop-index
invariant-loop-index g l = record {
  within : (other : ℕ) → copies other (keys_from l.rows.items l.key (l.fn.bucket.count - l.index)) ≤ copies other (keys_in l.rows.items l.fn.bucket);
  left : (other : ℕ) → shown_at l.rows.items other ≡ Some l.name → 0 < copies other (keys_from l.rows.items l.key (l.fn.bucket.count - l.index));
}
