-- The keys that come one behind the other, as next keys are written.
use Rattle.std.proofs.Common.{◌≡◌, ℕ, zero, suc, ◌+◌, ◌<◌, ◌≤◌, List, [], ◌∷◌, length, refl, sym, ap, ◌∙◌, ⊎_elim, arith}
use Rattle.core_index.specs.declared.row.Row.{Row}
use Rattle.core_index.specs.Buckets.{next_of, keys_from, copies, Precedes}
use Rattle.core_index.proofs.Copies.{copies-same, copies-more}

pub length-keys_from : (rows : List Row) (count key : ℕ) → length (keys_from rows key count) ≡ count
length-keys_from rows zero key = refl
length-keys_from rows (suc count) key = ap suc (length-keys_from rows count (next_of rows key))

-- where the next keys of its keys stay, a chain stays
pub keys-same : (rows later : List Row) (count key : ℕ) → ((other : ℕ) → 0 < copies other (keys_from rows key count) → next_of later other ≡ next_of rows other) → keys_from later key count ≡ keys_from rows key count
keys-same rows later zero key same = refl
keys-same rows later (suc count) key same =
    let rest = keys_from rows (next_of rows key) count in
    let here : next_of later key ≡ next_of rows key = same key (omega (arith, copies-same key key rest refl)) in
    ap (λ next. key ∷ keys_from later next count) here
    ∙ ap (λ keys. key ∷ keys) (keys-same rows later count (next_of rows key) (λ other there. same other (omega (arith, there, copies-more other key rest))))

-- where the next key of one key is written that isn't in a chain, the chain stays
pub keys-but : (rows later : List Row) (written count key : ℕ) → ((other : ℕ) → (other ≡ written → ⊥) → next_of later other ≡ next_of rows other) → copies written (keys_from rows key count) ≡ 0 → keys_from later key count ≡ keys_from rows key count
keys-but rows later written count key others none =
    keys-same rows later count key (λ other there. others other (λ is. let zero_of : copies other (keys_from rows key count) ≡ 0 = ap (λ k. copies k (keys_from rows key count)) is ∙ none in omega arith))

-- a key with one behind it is in the chain
pub Precedes-there : (rows : List Row) (count head before key : ℕ) → Precedes rows head count before key → 0 < copies before (keys_from rows head count)
Precedes-there rows zero head before key comes = absurd comes
Precedes-there rows (suc count) head before key comes =
    let rest = keys_from rows (next_of rows head) count in
    ⊎_elim
    (λ here. omega (arith, copies-same before head rest (sym here.0)))
    (λ later. omega (arith, copies-more before head rest, Precedes-there rows count (next_of rows head) before key later))
    comes

-- a key is taken out of a chain, as the one before it gets its next key
pub keys-out : (rows later : List Row) (before key : ℕ) → ((other : ℕ) → (other ≡ before → ⊥) → next_of later other ≡ next_of rows other) → next_of later before ≡ next_of rows key → (less head : ℕ) → Precedes rows head (suc less) before key
    → copies before (keys_from rows head (suc less)) ≤ 1 → (other : ℕ) → copies other (keys_from later head less) + copies other (key ∷ []) ≡ copies other (keys_from rows head (suc less))
keys-out rows later before key others over zero head comes once other = ⊎_elim (λ here. absurd (omega (arith, here.1))) (λ none. absurd none) comes
keys-out rows later before key others over (suc less) head comes once other = ⊎_elim here (λ deeper. further deeper (λ alone. keys-out rows later before key others over less (next_of rows head) deeper alone other)) comes
  where
    here : (head ≡ before) × (0 < suc less) × (next_of rows before ≡ key) → copies other (keys_from later head (suc less)) + copies other (key ∷ []) ≡ copies other (keys_from rows head (suc (suc less)))
    here is =
        let behind = keys_from rows (next_of rows (next_of rows head)) less in
        let at : (next_of rows head) ≡ key = ap (next_of rows) is.0 ∙ is.2 in
        let one = copies-same before head ((next_of rows head) ∷ behind) (sym is.0) in
        let more = copies-more before (next_of rows head) behind in
        let none : copies before behind ≡ 0 = omega (arith, once, one, more) in
        let skips : next_of later head ≡ next_of rows (next_of rows head) = ap (next_of later) is.0 ∙ over ∙ ap (next_of rows) (sym at) in
        let rest : keys_from later (next_of later head) less ≡ behind = ap (λ next. keys_from later next less) skips ∙ keys-but rows later before less (next_of rows (next_of rows head)) others none in
        let counts : copies other (keys_from later (next_of later head) less) ≡ copies other behind = ap (copies other) rest in
        let gone : copies other (key ∷ []) ≡ copies other ((next_of rows head) ∷ []) = ap (λ k. copies other (k ∷ [])) (sym at) in
        omega (arith, counts, gone)

    further : Precedes rows (next_of rows head) (suc less) before key
        → (copies before (keys_from rows (next_of rows head) (suc less)) ≤ 1 → copies other (keys_from later (next_of rows head) less) + copies other (key ∷ []) ≡ copies other (keys_from rows (next_of rows head) (suc less)))
        → copies other (keys_from later head (suc less)) + copies other (key ∷ []) ≡ copies other (keys_from rows head (suc (suc less)))
    further deeper inner =
        let behind = keys_from rows (next_of rows head) (suc less) in
        let there = Precedes-there rows (suc less) (next_of rows head) before key deeper in
        let apart : head ≡ before → ⊥ = λ is. omega (arith, once, there, copies-same before head behind (sym is)) in
        let rest = inner (omega (arith, once, copies-more before head behind)) in
        let same : copies other (keys_from later (next_of later head) less) ≡ copies other (keys_from later (next_of rows head) less) = ap (λ next. copies other (keys_from later next less)) (others head apart) in
        omega (arith, rest, same)
