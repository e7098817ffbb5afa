-- How often keys stand in a list, and that a list of few keys, each once, is short.
use Rattle.std.proofs.Common.{◌≡◌, ℕ, zero, suc, ◌+◌, ◌<◌, ◌≤◌, List, [], ◌∷◌, length, cond, refl, sym, ap, ◌∙◌, ⊎_elim, arith}
use Rattle.std.proofs.lemmas.Bool.{cases_eq, eq-eqb, ne_eqb}
use Rattle.core_index.specs.Buckets.{copies}

pub copies-same : (key one : ℕ) (keys : List ℕ) → key ≡ one → copies key (one ∷ keys) ≡ 1 + copies key keys
copies-same key one keys same = ap (λ b. cond b 1 0 + copies key keys) (eq-eqb key one same)

pub copies-other : (key one : ℕ) (keys : List ℕ) → (key ≡ one → ⊥) → copies key (one ∷ keys) ≡ copies key keys
copies-other key one keys apart = ap (λ b. cond b 1 0 + copies key keys) (ne_eqb key one apart) ∙ omega arith

pub copies-more : (key one : ℕ) (keys : List ℕ) → copies key keys ≤ copies key (one ∷ keys)
copies-more key one keys = omega arith

-- how often the keys below a number stand in a list
total : ℕ → List ℕ → ℕ
total zero keys = 0
total (suc n) keys = copies n keys + total n keys

total-nil : (n : ℕ) → total n [] ≡ 0
unfolding total
total-nil zero = refl
total-nil (suc n) = omega (arith, total-nil n)

total-past : (n one : ℕ) (keys : List ℕ) → n ≤ one → total n (one ∷ keys) ≡ total n keys
unfolding total
total-past zero one keys past = refl
total-past (suc n) one keys past =
    omega (arith, copies-other n one keys (λ same. omega arith), total-past n one keys (omega arith))

total-below : (n one : ℕ) (keys : List ℕ) → one < n → total n (one ∷ keys) ≡ 1 + total n keys
unfolding total
total-below zero one keys below = absurd (omega arith)
total-below (suc n) one keys below =
    ⊎_elim
    (λ same. omega (arith, copies-same n one keys same, total-past n one keys (omega arith)))
    (λ apart. omega (arith, copies-other n one keys apart, total-below n one keys (omega arith)))
    (cases_eq n one)

total-le : (n : ℕ) (keys : List ℕ) → ((key : ℕ) → copies key keys ≤ 1) → total n keys ≤ n
unfolding total
total-le zero keys once = omega arith
total-le (suc n) keys once = omega (arith, once n, total-le n keys once)

total-all : (n : ℕ) (keys : List ℕ) → ((key : ℕ) → 0 < copies key keys → key < n) → length keys ≡ total n keys
total-all n [] all = sym (total-nil n)
total-all n (one ∷ keys) all =
    let below : one < n = all one (omega (arith, copies-same one one keys refl)) in
    let rest = total-all n keys (λ key there. all key (omega (arith, there, copies-more key one keys))) in
    omega (arith, total-below n one keys below, rest)

-- so many different keys below a number are no more than it
pub few_keys : (n : ℕ) (keys : List ℕ) → ((key : ℕ) → copies key keys ≤ 1) → ((key : ℕ) → 0 < copies key keys → key < n) → length keys ≤ n
few_keys n keys once all = omega (arith, total-all n keys all, total-le n keys once)
