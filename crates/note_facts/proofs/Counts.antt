-- Counts of a queue are within the count of notes.
use Rattle.std.proofs.Common.{◌≡◌, ℕ, ◌+◌, ◌<◌, ◌≤◌, ◌⊎◌, inl, inr, Bool, true, false, List, ◌∷◌, [], length, refl, sym, cond, arith}
use Rattle.std.specs.Prelude.{Option, Some, None}
use Rattle.std.proofs.lemmas.Bool.{true≢false}
use Rattle.std.proofs.lemmas.List.{length-append}
use Rattle.base_words.specs.declared.names.JobId.{JobId}
use Rattle.base_words.specs.declared.note.Note.{Note}
use Rattle.base_words.specs.declared.note.Note.TheVariants.{CoreClosed, Park}
use Rattle.base_words.specs.Journal.{Journal, with_last}
use Rattle.base_words.specs.Names.{is_number, names_but, names_but_for}
use Rattle.base_words.specs.Parks.{name_parked, name_parking, parked, still_parked}
use Rattle.base_words.specs.Work.{queue_of, queue_joined, queue_left, entered_count, left_count, number_if}
use Rattle.base_words.proofs.NameLemmas.{number_told}
use Rattle.base_words.proofs.Parks.{length-parks}
use Rattle.note_facts.specs.Endings.{core_ended}
use Rattle.note_facts.specs.Spots.{queue_noted, queue_parking}
use Rattle.note_facts.proofs.ParkTimes.{times-but}

pub number_if-within : (test : Bool) → number_if test ≤ 1
number_if-within true = omega arith
number_if-within false = omega arith

with_last-length : (names : List JobId) (more : Option JobId) → length (with_last names more) ≤ length names + 1
with_last-length names None = omega arith
with_last-length names (Some name) = omega (arith, length-append names (name ∷ []))

names_but-length : (gone : Option JobId) (names : List JobId) → length (names_but_for gone names) ≤ length names
names_but-length None names = omega arith
names_but-length (Some name) names = omega (arith, times-but name names)

module _ {T : Type 0} (queue : ℕ) where
  -- no more jobs enter, leave or are parked than there are notes
  pub entered-within : (journal : Journal T) → entered_count queue journal ≤ length journal
  entered-within [] = omega arith
  entered-within (note ∷ before) = omega (arith, entered-within before, number_if-within (is_number queue (queue_joined note)))

  pub left-within : (journal : Journal T) → left_count queue journal ≤ length journal
  left-within [] = omega arith
  left-within (note ∷ before) = omega (arith, left-within before, number_if-within (is_number queue (queue_left note before)))

  pub parked-within : (journal : Journal T) → length (parked queue journal) ≤ length journal
  parked-within [] = omega arith
  parked-within (note ∷ before) =
      omega (
        arith,
        parked-within before,
        length-parks queue note (parked queue before),
        names_but-length (name_parked note) (still_parked queue note (parked queue before)),
        with_last-length (names_but_for (name_parked note) (still_parked queue note (parked queue before))) (name_parking queue note before),
      )

  -- where jobs are parked, some were, or a note parks one
  pub parked_from : (note : Note T) (before : Journal T) → 0 < length (parked queue (note ∷ before)) →
      (0 < length (parked queue before)) ⊎ (queue_parking note (queue_noted note before) ≡ Some queue)
  parked_from (Park name time) before some = by_queue (is_number queue (queue_of name before)) refl some
    where
      by_queue : (test : Bool) → is_number queue (queue_of name before) ≡ test →
          0 < length (with_last (names_but name (parked queue before)) (cond test (Some name) None)) →
          (0 < length (parked queue before)) ⊎ (queue_of name before ≡ Some queue)
      by_queue true here some = inr (number_told queue (queue_of name before) here)
      by_queue false apart some = inl (omega (arith, some, times-but name (parked queue before)))
  parked_from note before some = inl (omega (arith, some, length-parks queue note (parked queue before)))

  -- nobody is parked once the core is closed in mode `Return`
  pub none_parked : (note : Note T) (before : Journal T) → core_ended note ≡ true → 0 < length (parked queue (note ∷ before)) → ⊥
  none_parked (CoreClosed mode) before ended some =
      let none : length (parked queue (CoreClosed mode ∷ before)) ≡ 0 = rw ended refl in
      absurd (omega (arith, none, some))
  none_parked note before ended some = absurd (true≢false (sym ended))
