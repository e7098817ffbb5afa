-- What holds of the beginning of a list.
use Rattle.base_words.proofs.Words.{ap, append-nil, append_assoc, arith, drop, IsPrefix, JobId, length, length-append, List, map-append, names_of, refl, sym, take, take-append-drop, ℕ, [], ◌++◌, ◌+◌, ◌∙◌, ◌∷◌, ◌≡◌, ◌≤◌}

module _ {A : Type 0} where
  pub IsPrefix-self : (xs : List A) → IsPrefix xs xs
  IsPrefix-self xs = ([], sym (append-nil xs))

  pub IsPrefix-take : (n : ℕ) (xs : List A) → IsPrefix (take n xs) xs
  IsPrefix-take n xs = (drop n xs, sym (take-append-drop n xs))

  -- the beginning of a beginning
  pub IsPrefix-along : (front middle whole : List A) → IsPrefix front middle → IsPrefix middle whole → IsPrefix front whole
  IsPrefix-along front middle whole one two = (one.0 ++ two.0, two.1 ∙ (ap (λ (z : List A). z ++ two.0) one.1 ∙ append_assoc front one.0 two.0))

  pub IsPrefix-append : (whole front more : List A) → IsPrefix front whole → IsPrefix front (whole ++ more)
  IsPrefix-append whole front more s = (s.0 ++ more, ap (λ (z : List A). z ++ more) s.1 ∙ append_assoc front s.0 more)

  pub IsPrefix-length : (whole front : List A) → IsPrefix front whole → length front ≤ length whole
  IsPrefix-length whole front s = let e : length whole ≡ length front + length s.0 = ap length s.1 ∙ length-append front s.0 in omega arith

  -- a beginning as long as the whole is the whole
  pub IsPrefix-same : (whole front : List A) → IsPrefix front whole → length whole ≡ length front → whole ≡ front
  IsPrefix-same whole front s same = s.1 ∙ (ap (λ (z : List A). front ++ z) (empty s.0 none) ∙ append-nil front)
    where
      empty : (xs : List A) → length xs ≡ 0 → xs ≡ []
      empty [] e = refl
      empty (x ∷ xs) e = absurd (omega arith)

      none : length s.0 ≡ 0
      none = let e : length whole ≡ length front + length s.0 = ap length s.1 ∙ length-append front s.0 in omega arith

-- where one list of entries is the beginning of another, their names are so too
pub names_of-prefix : {A : Type 0} (front whole : List (JobId × A)) → IsPrefix front whole → IsPrefix (names_of front) (names_of whole)
names_of-prefix {A} front whole begins = (names_of begins.0, ap names_of begins.1 ∙ map-append (λ (entry : JobId × A). entry.0) front begins.0)
