-- How notes grow, and the first words of a row.
use Rattle.std.proofs.Common.{◌≡◌, ℕ, zero, suc, ◌<◌, List, [], ◌∷◌, ◌++◌, length, get_or, take, refl, sym, ap, ◌∙◌, arith, append_assoc}
use Rattle.base_words.specs.Journal.{Journal}
use Rattle.run_watch.specs.Growth.{Grows}

pub Grows-self : (notes : Journal ℕ) → Grows notes notes
Grows-self notes = ([], refl)

pub Grows-trans : (old mid new : Journal ℕ) → Grows old mid → Grows mid new → Grows old new
Grows-trans old mid new first second = (second.0 ++ first.0, second.1 ∙ (ap (λ (l : Journal ℕ). second.0 ++ l) first.1 ∙ sym (append_assoc second.0 first.0 old)))

-- one more of the first words
pub take-one_more : (row : List ℕ) (count : ℕ) → count < length row → take (suc count) row ≡ take count row ++ get_or row count 0 ∷ []
take-one_more [] count within = absurd (omega arith)
take-one_more (word ∷ row) zero within = refl
take-one_more (word ∷ row) (suc count) within = ap (λ (l : List ℕ). word ∷ l) (take-one_more row count (omega arith))
