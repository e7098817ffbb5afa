-- The histories of all journals, one behind the other.
use Rattle.judge_audit.proofs.Names.{AreHistories, arith, Assembly, History, inl, inr, IsHistory, journal_of, length, length-append, List, slice_get, slice_get-seam, Some, subst, sym, ℕ, [], ◌++◌, ◌+◌, ◌<◌, ◌∙◌, ◌∷◌, ◌≡◌, ◌⊎◌}

-- one more history is that of the next actor
pub next_histories : (assembly : Assembly ℕ) (histories : List History) (last : History) (count : ℕ) → AreHistories histories assembly count →
    IsHistory last (journal_of count assembly) → AreHistories (histories ++ last ∷ []) assembly (count + 1)
next_histories assembly histories last count are knows = record {
  counted = length-append histories (last ∷ []) ∙ omega (arith, are.counted);
  each = λ actor some at. by_place actor some (slice_get-seam histories last some actor at);
}
  where
    by_place : (actor : ℕ) (some : History) →
        ((actor < length histories) × (slice_get histories actor ≡ Some some)) ⊎ ((actor ≡ length histories) × (last ≡ some)) →
        IsHistory some (journal_of actor assembly)
    by_place actor some (inl found) = are.each actor some found.1
    by_place actor some (inr here) =
        subst (λ (one : History). IsHistory one (journal_of actor assembly)) here.1
        (subst (λ (place : ℕ). IsHistory last (journal_of place assembly)) (sym (here.0 ∙ are.counted)) knows)
