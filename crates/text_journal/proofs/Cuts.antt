-- Texts that are cut at a sign.
use Rattle.std.proofs.Common.{◌≡◌, ℕ, ◌+◌, ◌<◌, ◌≤◌, ◌==◌, not, Bool, true, false, cond, List, [], ◌∷◌, ◌++◌, length, get_or, take, drop, refl, ap, ◌∙◌, arith, suc, length-drop}
use Rattle.std.specs.Prelude.{All}
use Rattle.std.specs.List.{before_first, after_first, position_or_len, prefix_len}
use Rattle.std.proofs.lemmas.Bool.Decides.{nat_tests}
use Rattle.std.proofs.lemmas.List.Elements.{All-head, All-tail}
use Rattle.std.proofs.lemmas.List.Sums.{split_at_first, passes_at_first}

module _ (sign : ℕ) where
  abbrev is_sign : ℕ → Bool
  is_sign byte = byte == sign

  abbrev pub HasNone : List ℕ → Type 0
  HasNone bytes = All (λ byte. (byte == sign) ≡ false) bytes

  same_sign : is_sign sign ≡ true
  same_sign = grind (arith, nat_tests)

  place : (front rest : List ℕ) → HasNone front → position_or_len is_sign (front ++ sign ∷ rest) ≡ length front
  place [] rest none = ap (λ b. cond (not b) (1 + prefix_len (λ x. not (is_sign x)) rest) 0) same_sign
  place (x ∷ front) rest none =
      ap (λ b. cond (not b) (1 + position_or_len is_sign (front ++ sign ∷ rest)) 0) (All-head (λ byte. (byte == sign) ≡ false) x front none)
      ∙ ap (λ n. 1 + n) (place front rest (All-tail (λ byte. (byte == sign) ≡ false) x front none))
      ∙ omega arith

  take_front : (front rest : List ℕ) → take (length front) (front ++ rest) ≡ front
  take_front [] rest = refl
  take_front (x ∷ front) rest = ap (λ t. x ∷ t) (take_front front rest)

  drop_front : (front rest : List ℕ) → drop (length front + 1) (front ++ sign ∷ rest) ≡ rest
  drop_front [] rest = refl
  drop_front (x ∷ front) rest =
      let next : length (x ∷ front) + 1 ≡ suc (length front + 1) = omega arith in
      ap (λ n. drop n (x ∷ (front ++ sign ∷ rest))) next ∙ drop_front front rest

  -- what was put before a sign, and behind it
  pub before_sign : (front rest : List ℕ) → HasNone front → before_first is_sign (front ++ sign ∷ rest) ≡ front
  before_sign front rest none = ap (λ n. take n (front ++ sign ∷ rest)) (place front rest none) ∙ take_front front (sign ∷ rest)

  pub after_sign : (front rest : List ℕ) → HasNone front → after_first is_sign (front ++ sign ∷ rest) ≡ rest
  after_sign front rest none = ap (λ n. drop (n + 1) (front ++ sign ∷ rest)) (place front rest none) ∙ drop_front front rest

  -- a text that has something behind the sign
  pub cut_back : (bytes : List ℕ) → 1 ≤ length (after_first is_sign bytes) → bytes ≡ before_first is_sign bytes ++ sign ∷ after_first is_sign bytes
  cut_back bytes some =
      let here : position_or_len is_sign bytes < length bytes = omega (arith, length-drop (position_or_len is_sign bytes + 1) bytes) in
      let at = passes_at_first is_sign bytes 0 here in
      let same : get_or bytes (position_or_len is_sign bytes) 0 ≡ sign = grind (arith, nat_tests) in
      split_at_first is_sign bytes 0 here ∙ ap (λ s. before_first is_sign bytes ++ s ∷ after_first is_sign bytes) same
