-- How the parts of one journal are joined, and the pieces of one part.
use Rattle.std.specs.Prelude.{◌≡◌, ℕ, ◌+◌, ◌<◌, List, ◌++◌, Ok, map, reverse, take}
use Rattle.base_words.specs.Journal.{Journal}
use Rattle.text_words.specs.Notes.{note_line}
use Rattle.note_journal.specs.Journals.{JournalView}
use Rattle.text_journal.specs.Texts.{actor_lines, text_of}
use Rattle.host_text.specs.declared.part.Form.TheVariants.{Text}
use Rattle.host_text.specs.Parts.{IsPart, PassesPart}
use Rattle.host_text.specs.Pieces.{IsPiece}

-- the parts so far are the lines of what was passed on, and the next part makes them those of all notes
abbrev pub PartsAreJoined : Type 0
PartsAreJoined =
    (actor count : ℕ) (old new : JournalView ℕ) (joined before after : List ℕ) → joined ≡ text_of (actor_lines actor old.passed) →
    PassesPart actor old before (Ok count) after new → (joined ++ take count after ≡ text_of (actor_lines actor new.notes)) × (new.passed ≡ new.notes)

-- the lines of the first so many notes that the journal of an actor keeps
pub record IsFront (actor count : ℕ) (journal : JournalView ℕ) (text : List ℕ) : Type 0 where
  pub kept : Journal ℕ
  pub whole : kept ++ journal.passed ≡ journal.notes
  pub lines : text ≡ text_of (map (note_line actor) (take count (reverse kept)))

-- a piece of the text from where the pieces so far end makes them longer; and if one that might have notes has none, they are the next part
abbrev pub PiecesAreJoined : Type 0
PiecesAreJoined =
    (actor from most notes : ℕ) (journal : JournalView ℕ) (joined text : List ℕ) → IsFront actor from journal joined → IsPiece actor Text from most journal notes text →
    IsFront actor (from + notes) journal (joined ++ text) × (0 < most → notes ≡ 0 → IsPart actor journal joined)
