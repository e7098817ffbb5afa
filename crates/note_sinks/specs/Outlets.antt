-- A writer, and the bytes that it hasn't got yet.
use Rattle.std.specs.Prelude.{◌≡◌, ℕ, List, ◌++◌, Option, map}
use Rattle.std.specs.Io.KnownBytes.{Appends}
use Rattle.base_words.specs.declared.note.Note.{Note}
use Rattle.text_words.specs.Notes.{note_line}
use Rattle.text_journal.specs.Texts.{text_of}

-- the writer, and what is still to be written to it
pub record OutletView (W : Type 0) : Type 0 where
  pub writer : W
  pub pending : List ℕ

-- the lines of these notes as text
abbrev pub notes_text : ℕ → List (Note ℕ) → List ℕ
notes_text actor notes = text_of (map (note_line actor) notes)

-- the first bytes of those that were pending are written, and the others are pending
pub record Writes (old new : Option (List ℕ)) (before after : List ℕ) : Type 0 where
  pub bytes : List ℕ
  pub appends : Appends old new bytes
  pub whole : before ≡ bytes ++ after
