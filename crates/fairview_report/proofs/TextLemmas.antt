-- Texts that are put one behind another.
use Rattle.std.proofs.Common.{◌≡◌, ℕ, suc, ◌+◌, List, [], ◌++◌, refl, sym, ap, ◌∙◌, subst, append_assoc, append-nil, arith}
use Rattle.fairview_report.specs.Texts.{AreTextsBelow, Puts}

next : (number : ℕ) → suc number ≡ number + 1
next number = omega arith

module _ (IsText : ℕ → List ℕ → Type 0) where
  none_such : AreTextsBelow IsText 0 []
  unfolding AreTextsBelow
  none_such = refl

  one_such : (number : ℕ) (front rear : List ℕ) → AreTextsBelow IsText number front → IsText number rear → AreTextsBelow IsText (suc number) (front ++ rear)
  unfolding AreTextsBelow
  one_such number front rear so_far one = (front, rear, so_far, one, refl)

  -- before the first number nothing is put
  pub puts_none : (page : List ℕ) → Puts (AreTextsBelow IsText 0) page page
  puts_none page = ([], none_such, sym (append-nil page))

  -- one text more
  pub puts_one : (number : ℕ) (start page new : List ℕ) → Puts (AreTextsBelow IsText number) start page → Puts (IsText number) page new →
      Puts (AreTextsBelow IsText (number + 1)) start new
  puts_one number start page new (front, so_far, page_is) (rear, one, new_is) = (
    front ++ rear,
    subst (λ count. AreTextsBelow IsText count (front ++ rear)) (next number) (one_such number front rear so_far one),
    new_is ∙ (ap (λ bytes. bytes ++ rear) page_is ∙ append_assoc start front rear),
  )

  pub puts_all : (number count : ℕ) (start page : List ℕ) → number ≡ count → Puts (AreTextsBelow IsText number) start page → Puts (AreTextsBelow IsText count) start page
  puts_all number count start page same puts = subst (λ many. Puts (AreTextsBelow IsText many) start page) same puts

-- one text behind another
pub then_put : (start page new front rear : List ℕ) → page ≡ start ++ front → new ≡ page ++ rear → new ≡ start ++ (front ++ rear)
then_put start page new front rear one two = two ∙ (ap (λ bytes. bytes ++ rear) one ∙ append_assoc start front rear)

-- on an empty page stands just what is put there
pub on_empty : (start new text : List ℕ) → start ≡ [] → new ≡ start ++ text → new ≡ text
on_empty start new text empty put = put ∙ ap (λ bytes. bytes ++ text) empty

-- the same of a text that isn't the only one
pub puts_on_empty : (IsText : List ℕ → Type 0) (start new : List ℕ) → start ≡ [] → Puts IsText start new → IsText new
puts_on_empty IsText start new empty (text, is, put) = subst IsText (sym (on_empty start new text empty put)) is
