-- Counts of the first actors together, as the count of one of them grows.
use Rattle.actor_core.proofs.Names.{◌≡◌, ℕ, ◌==◌, zero, suc, ◌+◌, ◌*◌, ◌<◌, ◌≤◌, arith, number_if, sum_upto}

pub sum_upto-same : (f g : ℕ → ℕ) (last : ℕ) → ((s : ℕ) → f s ≡ g s) → sum_upto f last ≡ sum_upto g last
sum_upto-same f g zero same = same 0
sum_upto-same f g (suc last) same = omega (arith, sum_upto-same f g last same, same (suc last))

module _ (f g : ℕ → ℕ) (from : ℕ) (more : (s : ℕ) → g s ≡ f s + number_if (from == s)) where
  -- the actors before that one count as before
  sum_upto-before : (last : ℕ) → last < from → sum_upto g last ≡ sum_upto f last
  sum_upto-before zero past = grind (arith, more 0)
  sum_upto-before (suc last) past = grind (arith, more (suc last), sum_upto-before last)

  -- one more of one of them is one more of all
  pub sum_upto-one_more : (last : ℕ) → from ≤ last → sum_upto g last ≡ sum_upto f last + 1
  sum_upto-one_more zero there = grind (arith, more 0)
  sum_upto-one_more (suc last) there = grind (arith, more (suc last), sum_upto-one_more last, sum_upto-before last)

  pub sum_upto-at_most_one : (last : ℕ) → sum_upto g last ≤ sum_upto f last + 1
  sum_upto-at_most_one last = grind (arith, sum_upto-before last, sum_upto-one_more last)

-- one more actor has as many places more
places : (last cap : ℕ) → (suc last + 1) * cap ≡ (last + 1) * cap + cap
places last cap = grind arith

module _ (f g : ℕ → ℕ) (cap : ℕ) where
  sum_upto-within : (last : ℕ) → ((s : ℕ) → s ≤ last → f s ≤ g s + cap) → sum_upto f last ≤ sum_upto g last + (last + 1) * cap
  sum_upto-within zero each = let one = each 0 (omega arith) in omega (arith, one)
  sum_upto-within (suc last) each =
      let one : f (suc last) ≤ g (suc last) + cap = each (suc last) (omega arith) in
      let rest : sum_upto f last ≤ sum_upto g last + (last + 1) * cap = sum_upto-within last (λ s low. each s (omega (arith, low))) in
      omega (arith, one, rest, places last cap)

  -- where one of them has a place left, all together have one
  pub sum_upto-room : (from last : ℕ) → from ≤ last → ((s : ℕ) → s ≤ last → f s ≤ g s + cap) → f from < g from + cap →
      sum_upto f last < sum_upto g last + (last + 1) * cap
  sum_upto-room zero zero there each left = omega (arith, left)
  sum_upto-room (suc from) zero there each left = absurd (omega (arith, there))
  sum_upto-room from (suc last) there each left =
      let one : f (suc last) ≤ g (suc last) + cap = each (suc last) (omega arith) in
      grind (arith, places last cap, sum_upto-room from last, sum_upto-within last, λ (s : ℕ) (low : s ≤ last). each s (omega (arith, low)))
