-- Notes that stand behind those that were passed on.
use Rattle.std.proofs.Common.{◌≡◌, ℕ, ◌+◌, ◌-◌, List, ◌++◌, length, drop, take, reverse, sym, ap, ◌∙◌}
use Rattle.std.proofs.lemmas.List.{reverse-append, reverse-reverse, length-reverse, take_rest}
use Rattle.std.proofs.Math.Seq.{drop-append-add}
use Rattle.base_words.specs.Journal.{Journal}
use Rattle.base_words.specs.declared.note.Note.{Note}
use Rattle.note_journal.specs.Journals.{JournalView, journal_behind}

module _ {T : Type 0} where
  -- all notes, the oldest first
  all_behind : (passed : List (Note T)) (kept : Journal T) → reverse (kept ++ reverse passed) ≡ passed ++ reverse kept
  all_behind passed kept = reverse-append kept (reverse passed) ∙ ap (λ first. first ++ reverse kept) (reverse-reverse passed)

  -- behind those that were passed on, and so many more
  drop_behind : (passed : List (Note T)) (kept : Journal T) (count : ℕ) →
      drop (length (reverse passed) + count) (reverse (kept ++ reverse passed)) ≡ drop count (reverse kept)
  drop_behind passed kept count =
      ap (drop (length (reverse passed) + count)) (all_behind passed kept) ∙ ap (λ n. drop (n + count) (passed ++ reverse kept)) (length-reverse passed)
      ∙ drop-append-add passed (reverse kept) count

  -- the kept notes but so many are all notes but those that were passed on and so many
  pub rest_is : (view : JournalView T) (passed : List (Note T)) (places : ℕ) (kept : Journal T) (items : List (Note T)) (count : ℕ) →
      journal_behind passed places kept ≡ view → items ≡ reverse kept →
      take (length items - count) (drop count items) ≡ drop (length view.passed + count) (reverse view.notes)
  rest_is view passed places kept items count view_is items_is =
      take_rest items count ∙ ap (drop count) items_is
      ∙ sym (drop_behind passed kept count) ∙ ap (λ (seen : JournalView T). drop (length seen.passed + count) (reverse seen.notes)) view_is
