-- What is copied of the notes that a journal keeps, piece after piece, and how it forgets them then.
use Rattle.std.specs.Prelude.{◌≡◌, ℕ, ◌+◌, ◌-◌, ◌++◌, List, Result, Ok, Err, drop, length, map, min, reverse, take}
use Rattle.base_words.specs.declared.note.Note.{Note}
use Rattle.base_words.specs.Journal.{Journal}
use Rattle.text_words.specs.Notes.{note_line}
use Rattle.note_journal.specs.Journals.{JournalView, passed_all}
use Rattle.text_parts.specs.Parts.{part_bytes}
use Rattle.text_journal.specs.Texts.{text_of}
use Rattle.host_text.specs.declared.part.Form.{Form}
use Rattle.host_text.specs.declared.part.Form.TheVariants.{Text, Bytes}
use Rattle.host_text.specs.declared.part.PassError.{PassError}
use Rattle.host_text.specs.declared.part.PassError.TheVariants.{Short, Memory}
use Rattle.host_text.specs.declared.part.Piece.{Piece}
use Rattle.host_text.specs.Parts.{CopiesAll}

-- notes of an actor in this form: their lines, or a part in bytes, before which came so many others
abbrev pub in_form : ℕ → Form → List (Note ℕ) → List ℕ
in_form actor Text notes = text_of (map (note_line actor) notes)
in_form actor (Bytes before) notes = part_bytes (record { actor = actor; before = before; notes = notes })

-- so many notes in this form, the oldest first, from a place on of those that the journal of an actor keeps: as many as may be, or all that stand there
pub record IsPiece (actor : ℕ) (form : Form) (from most : ℕ) (journal : JournalView ℕ) (notes : ℕ) (written : List ℕ) : Type 0 where
  pub kept : Journal ℕ
  pub whole : kept ++ journal.passed ≡ journal.notes
  pub count : notes ≡ min most (length kept - from)
  pub is : written ≡ in_form actor form (take notes (drop from (reverse kept)))

-- a piece of so many notes, if it was copied
abbrev pub piece_told : ℕ → Result ℕ PassError → Result Piece PassError
piece_told notes (Ok bytes) = Ok (record { notes = notes; bytes = bytes })
piece_told notes (Err error) = Err error

-- a piece is copied to the first bytes, or there is room for fewer bytes than it has, or there is no memory for it
abbrev pub CopiesPiece : ℕ → Form → ℕ → ℕ → JournalView ℕ → List ℕ → Result Piece PassError → List ℕ → Type 0
CopiesPiece actor form from most journal before (Ok piece) after =
    (written : List ℕ) × IsPiece actor form from most journal piece.notes written × CopiesAll written before (Ok piece.bytes) after
CopiesPiece actor form from most journal before (Err (Short count)) after =
    (notes : ℕ) × (written : List ℕ) × IsPiece actor form from most journal notes written × CopiesAll written before (Err (Short count)) after
CopiesPiece actor form from most journal before (Err Memory) after = after ≡ before

-- so many notes are kept, and so many more may be
pub record AreCounts (journal : JournalView ℕ) (kept free : ℕ) : Type 0 where
  pub kept_is : length journal.passed + kept ≡ length journal.notes
  pub free_is : length journal.notes + free ≡ journal.room

-- a journal forgets the notes that it keeps, which are so many, and has as many places free as it may keep
pub record ForgetsKept (old : JournalView ℕ) (count : ℕ) (new : JournalView ℕ) : Type 0 where
  pub count_is : length old.passed + count ≡ length old.notes
  pub journal : new ≡ passed_all old
