-- The facts of a journal, after one more note.
use Rattle.std.proofs.Common.{◌≡◌, ℕ, ◌+◌, ◌<◌, ◌≤◌, ◌⊎◌, inl, inr, List, [], ◌∷◌, ◌++◌, sym, ◌∙◌, subst, arith, get_or}
use Rattle.std.proofs.lemmas.Bool.{cases_lt}
use Rattle.std.proofs.lemmas.List.{length-append, get_or_append_left, get_or_push}
use Rattle.std.specs.Prelude.{None}
use Rattle.base_words.specs.declared.note.Note.{Note}
use Rattle.base_words.specs.declared.note.Note.TheVariants.{Redeemed}
use Rattle.base_words.specs.Journal.{Journal, at_place}
use Rattle.note_facts.specs.declared.histories.Fact.{Fact}
use Rattle.note_facts.specs.Histories.{no_fact, name_asked, FitsPlace, IsAsCollected, HistorySoFar}

-- a fact fits the newest note of a journal
abbrev FitsNewest : Fact → Journal ℕ → Type 0
FitsNewest fact [] = Unit {0}
FitsNewest fact (note ∷ before) = FitsPlace fact note before

-- one more fact fits the next place
pub one_more : (facts : List Fact) (fact : Fact) (journal : Journal ℕ) (count : ℕ) (note : Note ℕ) (before : Journal ℕ) → HistorySoFar facts journal count →
    at_place (count + 1) journal ≡ note ∷ before → FitsPlace fact note before → HistorySoFar (facts ++ fact ∷ []) journal (count + 1)
one_more facts fact journal count note before so_far there fits = record {
  counted = length-append facts (fact ∷ []) ∙ omega (arith, so_far.counted);
  fit = λ place other rest within at. by_place place other rest within at (cases_lt place count);
}
  where
    by_place : (place : ℕ) (other : Note ℕ) (rest : Journal ℕ) → place < count + 1 → at_place (place + 1) journal ≡ other ∷ rest →
        (place < count) ⊎ (count ≤ place) → FitsPlace (get_or (facts ++ fact ∷ []) place no_fact) other rest
    by_place place other rest within at (inl less) =
        subst (λ (it : Fact). FitsPlace it other rest)
        (sym (get_or_append_left facts (fact ∷ []) no_fact place (omega (arith, less, so_far.counted))))
        (so_far.fit place other rest less at)
    by_place place other rest within at (inr past) =
        let here : place ≡ count = omega (arith, within, past) in
        let at_count : at_place (count + 1) journal ≡ other ∷ rest = subst (λ (it : ℕ). at_place (it + 1) journal ≡ other ∷ rest) here at in
        subst (λ (it : Fact). FitsPlace it other rest) (sym (get_or_push facts fact no_fact place (omega (arith, here, so_far.counted))))
        (subst (FitsNewest fact) (sym there ∙ at_count) fits)

-- a note of which nothing is asked redeems nothing
pub redeems_nothing : (note : Note ℕ) (before : Journal ℕ) → name_asked note ≡ None → IsAsCollected note before → ⊥
redeems_nothing (Redeemed name outcome) before none is = cc
redeems_nothing _ before none is = is
