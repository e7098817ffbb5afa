-- More things than places don't have a place each.
use Rattle.std.proofs.Common.{◌≡◌, ◌≢◌, ℕ, zero, suc, ◌-◌, ◌<◌, ◌≤◌, ◌⊎◌, inl, inr, ⊎_elim, refl, arith}
use native.Mathlib.Decide.{dec_le}

pick : {A : Type 0} → ℕ → ℕ → Dec A → ℕ
pick x y (yes _) = x
pick x y (no _) = y

-- the places without one of them, numbered without a gap
avoid : ℕ → ℕ → ℕ
avoid a b = pick (b - 1) b (dec_le a b)

avoid-cases : (a b : ℕ) → ((a ≤ b) × (avoid a b ≡ b - 1)) ⊎ ((b < a) × (avoid a b ≡ b))
unfolding avoid pick
avoid-cases a b = go (dec_le a b)
  where
    go : (d : Dec (a ≤ b)) → ((a ≤ b) × (pick (b - 1) b d ≡ b - 1)) ⊎ ((b < a) × (pick (b - 1) b d ≡ b))
    go (yes h) = inl (h, refl)
    go (no h) = inr ((let k : b < a = omega arith in k), refl)

-- two places that differ from a third keep apart without it
avoid-apart : (a b c : ℕ) → b ≢ a → c ≢ a → avoid a b ≡ avoid a c → b ≡ c
avoid-apart a b c d k e =
    ⊎_elim
    (λ q. let x : a ≤ b = q.0 in let y : avoid a b ≡ b - 1 = q.1 in
    ⊎_elim (λ p. let x' : a ≤ c = p.0 in let y' : avoid a c ≡ c - 1 = p.1 in omega arith)
    (λ p. let x' : c < a = p.0 in let y' : avoid a c ≡ c = p.1 in omega arith) (avoid-cases a c))
    (λ q. let x : b < a = q.0 in let y : avoid a b ≡ b = q.1 in
    ⊎_elim (λ p. let x' : a ≤ c = p.0 in let y' : avoid a c ≡ c - 1 = p.1 in omega arith)
    (λ p. let x' : c < a = p.0 in let y' : avoid a c ≡ c = p.1 in omega arith) (avoid-cases a c))
    (avoid-cases a b)

pub pigeonhole : (n m : ℕ) (f : ℕ → ℕ) → ((i : ℕ) → i < n → f i < m) → ((i j : ℕ) → i < n → j < n → f i ≡ f j → i ≡ j) → n ≤ m
pigeonhole zero m f into one = omega arith
pigeonhole (suc n) zero f into one = let h : f n < 0 = into n (omega arith) in absurd (omega arith)
pigeonhole (suc n) (suc m) f into one = let k : n ≤ m = pigeonhole n m (λ i. avoid (f n) (f i)) in_range apart in omega arith
  where
    differs : (i : ℕ) → i < n → f i ≢ f n
    differs i h e = let k : i ≡ n = one i n (omega arith) (omega arith) e in omega arith

    in_range : (i : ℕ) → i < n → avoid (f n) (f i) < m
    in_range i h =
        let a : f i < suc m = into i (omega arith) in let b : f n < suc m = into n (omega arith) in let d = differs i h in
        ⊎_elim (λ q. let x : f n ≤ f i = q.0 in let y : avoid (f n) (f i) ≡ f i - 1 = q.1 in omega arith)
        (λ q. let x : f i < f n = q.0 in let y : avoid (f n) (f i) ≡ f i = q.1 in omega arith) (avoid-cases (f n) (f i))

    apart : (i j : ℕ) → i < n → j < n → avoid (f n) (f i) ≡ avoid (f n) (f j) → i ≡ j
    apart i j h k e = one i j (omega arith) (omega arith) (avoid-apart (f n) (f i) (f j) (differs i h) (differs j k) e)
