-- Keys that come and go in a list by their place, as in a sorted `Vec`.
use Rattle.std.proofs.Common.{◌≡◌, ℕ, Bool, true, false, ◌||◌, eqb, List, [], ◌∷◌, refl, ap, inl, inr}
use Rattle.std.specs.List.{insert, remove, position_or_len}
use Rattle.std.proofs.Math.Numerals.{one-add}
use Rattle.std.proofs.lemmas.Bool.{cases_Bool, both_ways}
use Rattle.base_words.specs.declared.names.Key.{Key}
use Rattle.core_timeline.specs.Rising.{stands_before, same_key, IsRising, has_key, has_queue, inserted, removed}
use Rattle.core_timeline.proofs.Rising.{removed-same}

-- a key goes in front of the first that it stands before
pub inserted-position : (key : Key) (keys : List Key) → inserted key keys ≡ insert keys (position_or_len (stands_before key) keys) key
inserted-position key [] = refl
inserted-position key (next ∷ later) =
    elim (cases_Bool (stands_before key next)) [
      | inl sooner ↦ rw sooner refl
      | inr behind ↦ rw (behind, one-add) (ap (λ keys. next ∷ keys) (inserted-position key later))
    ]

-- a key that is there leaves its place
pub removed-position : (key : Key) (keys : List Key) → IsRising keys → has_key key keys ≡ true → removed key keys ≡ remove keys (position_or_len (same_key key) keys)
removed-position key [] rising among = absurd (both_ways false refl among)
removed-position key (next ∷ later) rising among =
    elim (cases_Bool (same_key key next)) [
      | inl same ↦ rw (removed-same key next later same rising, same) refl
      | inr other ↦
          let rest : has_key key later ≡ true = rw other at among in
          rw (other, one-add) (ap (λ keys. next ∷ keys) (removed-position key later rising.1 rest))
    ]

-- the queues that are there once a key is inserted
pub has_queue-inserted : (queue : ℕ) (key : Key) (keys : List Key) → has_queue queue (inserted key keys) ≡ (eqb key.queue queue || has_queue queue keys)
has_queue-inserted queue key [] = refl
has_queue-inserted queue key (next ∷ later) =
    elim (cases_Bool (stands_before key next)) [
      | inl sooner ↦ rw sooner refl
      | inr behind ↦ rw (behind, has_queue-inserted queue key later) (swapped (eqb next.queue queue) (eqb key.queue queue) (has_queue queue later))
    ]
  where
    swapped : (a b c : Bool) → (a || (b || c)) ≡ (b || (a || c))
    swapped true true c = refl
    swapped true false c = refl
    swapped false true c = refl
    swapped false false c = refl
