-- Lists that are put one behind another.
use Rattle.std.proofs.Common.{◌≡◌, ℕ, suc, ◌+◌, List, [], ◌++◌, refl, sym, ap, ◌∙◌, append_assoc, append-nil, arith}
use Rattle.fairview_marks.specs.Lists.{lists_below}

next : (number : ℕ) → suc number ≡ number + 1
next number = omega arith

module _ {A : Type 0} where
  no_lists : (each : ℕ → List A) → lists_below each 0 ≡ []
  unfolding lists_below
  no_lists each = refl

  more_lists : (each : ℕ → List A) (number : ℕ) → lists_below each (suc number) ≡ lists_below each number ++ each number
  unfolding lists_below
  more_lists each number = refl

  -- before the first number nothing is put
  pub before_all : (each : ℕ → List A) (page : List A) → page ≡ page ++ lists_below each 0
  before_all each page = sym (ap (λ items. page ++ items) (no_lists each) ∙ append-nil page)

  -- one list more
  pub after_one : (each : ℕ → List A) (number : ℕ) (start page new : List A) → page ≡ start ++ lists_below each number → new ≡ page ++ each number →
      new ≡ start ++ lists_below each (number + 1)
  after_one each number start page new so_far put =
      put ∙ (ap (λ items. items ++ each number) so_far ∙ (append_assoc start (lists_below each number) (each number)
      ∙ ap (λ items. start ++ items) (sym (more_lists each number) ∙ ap (lists_below each) (next number))))
