-- A walk from the oldest note to the newest: what was read before a place is the journal at that place.
use Rattle.std.proofs.Common.{◌≡◌, ℕ, zero, suc, ◌+◌, ◌-◌, ◌<◌, ◌≤◌, ◌⊎◌, inl, inr, List, [], ◌∷◌, ◌++◌, length, drop, refl, sym, ap, ◌∙◌, subst, arith, get_or}
use Rattle.std.specs.Prelude.{Some, None, reverse, slice_get}
use Rattle.std.proofs.Math.Seq.{drop-length}
use Rattle.std.proofs.lemmas.List.{length-drop, length-reverse, reverse-append}
use Rattle.std.proofs.lemmas.Option.{slice_get_cases}
use Rattle.base_words.specs.declared.note.Note.{Note}
use Rattle.base_words.specs.Journal.{Journal, at_place}

module _ {A : Type 0} where
  -- what a list with one more at its end has at a place
  pub slice_get-seam : (items : List A) (last note : A) (place : ℕ) → slice_get (items ++ last ∷ []) place ≡ Some note →
      ((place < length items) × (slice_get items place ≡ Some note)) ⊎ ((place ≡ length items) × (last ≡ note))
  slice_get-seam [] last note zero at = inr (refl, cc)
  slice_get-seam [] last note (suc place) at = cc
  slice_get-seam (first ∷ items) last note zero at = inl (omega arith, at)
  slice_get-seam (first ∷ items) last note (suc place) at = one_further (slice_get-seam items last note place at)
    where
      one_further : ((place < length items) × (slice_get items place ≡ Some note)) ⊎ ((place ≡ length items) × (last ≡ note)) →
          ((suc place < suc (length items)) × (slice_get items place ≡ Some note)) ⊎ ((suc place ≡ suc (length items)) × (last ≡ note))
      one_further (inl found) = inl (omega (arith, found.0), found.1)
      one_further (inr found) = inr (ap suc found.0, found.1)

module _ {T : Type 0} where
  -- nothing was read before the first note
  pub at_start : (journal : Journal T) → at_place 0 journal ≡ []
  at_start journal = let all : length journal - 0 ≡ length journal = omega arith in rw all (drop-length journal)

  -- all was read behind the last one
  pub at_end : (journal : Journal T) → at_place (length journal) journal ≡ journal
  at_end journal = let none : length journal - length journal ≡ 0 = omega arith in rw none refl

  within_rest : (note : Note T) (rest : Journal T) (place : ℕ) → place ≤ length rest → at_place place (note ∷ rest) ≡ at_place place rest
  within_rest note rest place within =
      let less : suc (length rest) - place ≡ suc (length rest - place) = omega arith in
      ap (λ count. drop count (note ∷ rest)) less

  -- the next note is read
  pub at_next : (journal : Journal T) (place : ℕ) (note : Note T) → slice_get (reverse journal) place ≡ Some note →
      at_place (place + 1) journal ≡ note ∷ at_place place journal
  at_next [] place note at = cc
  at_next (newest ∷ journal) place note at = by_place
      (slice_get-seam (reverse journal) newest note place (subst (λ (items : List (Note T)). slice_get items place ≡ Some note) (reverse-append (newest ∷ []) journal) at))
      (at_next journal place note)
    where
      by_place :
          ((place < length (reverse journal)) × (slice_get (reverse journal) place ≡ Some note)) ⊎ ((place ≡ length (reverse journal)) × (newest ≡ note)) →
          (slice_get (reverse journal) place ≡ Some note → at_place (place + 1) journal ≡ note ∷ at_place place journal) →
          at_place (place + 1) (newest ∷ journal) ≡ note ∷ at_place place (newest ∷ journal)
      by_place (inl found) next =
          let before : place < length journal = omega (arith, found.0, length-reverse journal) in
          within_rest newest journal (place + 1) (omega arith) ∙
          (next found.1 ∙ ap (λ rest. note ∷ rest) (sym (within_rest newest journal place (omega arith))))
      by_place (inr found) next =
          let last : place ≡ length journal = found.0 ∙ length-reverse journal in
          let whole : suc (length journal) - (place + 1) ≡ 0 = omega arith in
          ap (λ count. drop count (newest ∷ journal)) whole ∙
          (ap (λ head. head ∷ journal) found.1 ∙
          ap (λ rest. note ∷ rest) (sym (within_rest newest journal place (omega arith) ∙ (ap (λ at. at_place at journal) last ∙ at_end journal))))

  -- a place of the journal has a note
  pub note_there : (journal : Journal T) (place : ℕ) → place < length journal → slice_get (reverse journal) place ≡ None → ⊥
  note_there journal place within none = some_there (slice_get_cases (reverse journal) place).1
    where
      some_there :
          ((note : Note T) × (place < length (reverse journal)) × (slice_get (reverse journal) place ≡ Some note) × (get_or (reverse journal) place note ≡ note)) ⊎
          ((length (reverse journal) ≤ place) × (slice_get (reverse journal) place ≡ None)) → ⊥
      some_there (inl found) = cc (found.2, none)
      some_there (inr past) = absurd (omega (arith, past.0, length-reverse journal, within))

  -- what holds at the last place holds of the journal
  pub whole_walk : (P : Journal T → Type 0) (journal : Journal T) (place : ℕ) → place ≡ length journal → P (at_place place journal) → P journal
  whole_walk P journal place last holds = subst P (ap (λ count. at_place count journal) last ∙ at_end journal) holds

  -- no more was read than there are places
  pub length-at_place : (place : ℕ) (journal : Journal T) → length (at_place place journal) ≤ place
  length-at_place place journal = simp length-drop (omega arith)
