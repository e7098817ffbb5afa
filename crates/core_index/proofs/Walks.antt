-- The keys of a bucket that are left as it is walked.
use Rattle.std.proofs.Common.{◌≡◌, ℕ, suc, ◌<◌, ◌≤◌, ◌∷◌, List, inl, inr, refl, sym, ap, subst, arith}
use Rattle.std.specs.Prelude.{IsSome}
use Rattle.core_index.specs.declared.row.Row.{Row}
use Rattle.core_index.specs.declared.row.Bucket.{Bucket}
use Rattle.core_index.specs.Buckets.{filed_at, next_of, keys_from, keys_in, copies, HoldsFiled, Precedes}
use Rattle.core_index.proofs.Copies.{copies-same, copies-other, copies-more}

-- the first of those that are left, and the further ones
pub rest-step : (rows : List Row) (key left less : ℕ) → left ≡ suc less → keys_from rows key left ≡ key ∷ keys_from rows (next_of rows key) less
rest-step rows key left less is = ap (keys_from rows key) is

-- the first one is a key that is filed
pub rest-filed : (rows : List Row) (bucket : Bucket) (key left less : ℕ) → left ≡ suc less → ((other : ℕ) → copies other (keys_from rows key left) ≤ copies other (keys_in rows bucket)) → HoldsFiled rows bucket → IsSome (filed_at rows key)
rest-filed rows bucket key left less is within held =
    let first : copies key (keys_from rows key left) ≡ copies key (key ∷ keys_from rows (next_of rows key) less) = ap (copies key) (rest-step rows key left less is) in
    held key (omega (arith, within key, first, copies-same key key (keys_from rows (next_of rows key) less) refl))

-- the further ones are keys of the bucket too
pub rest-within : (rows : List Row) (bucket : Bucket) (key next left less : ℕ) → left ≡ suc less → next ≡ next_of rows key
    → ((other : ℕ) → copies other (keys_from rows key left) ≤ copies other (keys_in rows bucket)) → (other : ℕ) → copies other (keys_from rows next less) ≤ copies other (keys_in rows bucket)
rest-within rows bucket key next left less is goes within other =
    let all : copies other (keys_from rows key left) ≡ copies other (key ∷ keys_from rows (next_of rows key) less) = ap (copies other) (rest-step rows key left less is) in
    let same : copies other (keys_from rows next less) ≡ copies other (keys_from rows (next_of rows key) less) = ap (λ n. copies other (keys_from rows n less)) goes in
    omega (arith, within other, all, same, copies-more other key (keys_from rows (next_of rows key) less))

-- what is left but isn't the first one is among the further ones
pub rest-left : (rows : List Row) (key next left less other : ℕ) → left ≡ suc less → next ≡ next_of rows key → (other ≡ key → ⊥) → 0 < copies other (keys_from rows key left) → 0 < copies other (keys_from rows next less)
rest-left rows key next left less other is goes apart there =
    let all : copies other (keys_from rows key left) ≡ copies other (key ∷ keys_from rows (next_of rows key) less) = ap (copies other) (rest-step rows key left less is) in
    let same : copies other (keys_from rows next less) ≡ copies other (keys_from rows (next_of rows key) less) = ap (λ n. copies other (keys_from rows n less)) goes in
    omega (arith, there, all, same, copies-other other key (keys_from rows (next_of rows key) less) apart)

-- the first one comes right before its next key, if there is a further one
pub rest-first : (rows : List Row) (at key left less : ℕ) → left ≡ suc less → 0 < less → next_of rows at ≡ key → Precedes rows at left at key
rest-first rows at key left less is some goes = subst (λ n. Precedes rows at n at key) (sym is) (inl (refl, some, goes))

-- what comes before it among the further ones does so among all that are left
pub rest-further : (rows : List Row) (at next key left less other : ℕ) → left ≡ suc less → next ≡ next_of rows at → Precedes rows next less other key → Precedes rows at left other key
rest-further rows at next key left less other is goes comes = subst (λ n. Precedes rows at n other key) (sym is) (inr (subst (λ n. Precedes rows n less other key) goes comes))

-- at first all keys of the bucket are left
pub rest-all : (rows : List Row) (bucket : Bucket) (left : ℕ) → left ≡ bucket.count → keys_from rows bucket.head left ≡ keys_in rows bucket
rest-all rows bucket left is = ap (keys_from rows bucket.head) is

pub rest-all-within : (rows : List Row) (bucket : Bucket) (left : ℕ) → left ≡ bucket.count → (other : ℕ) → copies other (keys_from rows bucket.head left) ≤ copies other (keys_in rows bucket)
rest-all-within rows bucket left is other =
    let same : copies other (keys_from rows bucket.head left) ≡ copies other (keys_in rows bucket) = ap (copies other) (rest-all rows bucket left is) in
    omega (arith, same)

pub rest-all-left : (rows : List Row) (bucket : Bucket) (left other : ℕ) → left ≡ bucket.count → copies other (keys_in rows bucket) ≡ 1 → 0 < copies other (keys_from rows bucket.head left)
rest-all-left rows bucket left other is one =
    let same : copies other (keys_from rows bucket.head left) ≡ copies other (keys_in rows bucket) = ap (copies other) (rest-all rows bucket left is) in
    omega (arith, same, one)

pub rest-all-back : (rows : List Row) (bucket : Bucket) (left key other : ℕ) → left ≡ bucket.count → Precedes rows bucket.head left other key → Precedes rows bucket.head bucket.count other key
rest-all-back rows bucket left key other is = subst (λ n. Precedes rows bucket.head n other key) is
