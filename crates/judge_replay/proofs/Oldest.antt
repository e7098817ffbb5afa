-- The oldest notes of a journal.
use Rattle.std.proofs.Common.{◌≡◌, ℕ, suc, ◌+◌, ◌-◌, ◌<◌, ◌≤◌, List, ◌∷◌, length, drop, reverse, get_or, slice_get, Option, None, Some, sym, ap, ◌∙◌, arith}
use Rattle.std.proofs.lemmas.List.{get_or-reverse, length-reverse}
use Rattle.std.proofs.Math.Seq.{drop-cons}
use Rattle.std.proofs.lemmas.Option.{slice_get_within, slice_get-get_or}
use Rattle.base_words.specs.declared.note.Note.{Note}
use Rattle.note_journal.specs.Journals.{JournalView}
use Rattle.judge_replay.specs.Reads.{oldest, read_of}

module _ {A : Type 0} where
  abbrev value_or : A → Option A → A
  value_or default None = default
  value_or default (Some value) = value

  -- the next note of a journal, read from its beginning, is in front of the oldest ones
  pub oldest_next : (notes : List A) (count : ℕ) (note : A) → slice_get (reverse notes) count ≡ Some note → drop (length notes - (count + 1)) notes ≡ note ∷ drop (length notes - count) notes
  oldest_next notes count note at =
      let within : count < length (reverse notes) = slice_get_within (reverse notes) count note at in
      let low : count < length notes = omega (arith, within, length-reverse notes) in
      let here : get_or (reverse notes) count note ≡ note = ap (value_or note) (sym (slice_get-get_or (reverse notes) count note within) ∙ at) in
      let there : get_or notes (length notes - 1 - count) note ≡ note = sym (get_or-reverse notes count note low) ∙ here in
      let place : length notes - 1 - count ≡ length notes - (count + 1) = omega arith in
      let behind : suc (length notes - (count + 1)) ≡ length notes - count = omega (arith, low) in
      drop-cons notes (length notes - (count + 1)) note (omega (arith, low))
      ∙ ap (λ head. head ∷ drop (suc (length notes - (count + 1))) notes) (ap (λ k. get_or notes k note) (sym place) ∙ there)
      ∙ ap (λ k. note ∷ drop k notes) behind

module _ (journal : JournalView ℕ) (told : ℕ) (note : Note ℕ) (at : slice_get (reverse journal.notes) (length journal.passed + told) ≡ Some note) where
  pub has_more : length journal.passed + (told + 1) ≤ length journal.notes
  has_more = let within = slice_get_within (reverse journal.notes) (length journal.passed + told) note at in omega (arith, within, length-reverse journal.notes)

  pub reads_more : read_of journal (told + 1) ≡ note ∷ read_of journal told
  reads_more =
      let same : length journal.passed + (told + 1) ≡ length journal.passed + told + 1 = omega arith in
      ap (λ count. oldest count journal.notes) same ∙ oldest_next journal.notes (length journal.passed + told) note at

-- all notes were read
pub reads_all : {T : Type 0} (journal : JournalView T) (told : ℕ) → (length journal.passed + told < length journal.notes → ⊥) → read_of journal told ≡ journal.notes
reads_all journal told all =
    let none : length journal.notes - (length journal.passed + told) ≡ 0 = omega (arith, all) in
    ap (λ count. drop count journal.notes) none
