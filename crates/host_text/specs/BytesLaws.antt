-- How the pieces in bytes of one journal follow each other.
use Rattle.std.specs.Prelude.{◌≡◌, ℕ, ◌+◌, ◌≤◌, List, [], ◌∷◌, ◌++◌, length, reverse, take}
use Rattle.base_words.specs.declared.note.Note.{Note}
use Rattle.base_words.specs.Journal.{Journal}
use Rattle.note_journal.specs.Journals.{JournalView}
use Rattle.text_parts.specs.HouseLaws.{parts_bytes}
use Rattle.text_parts.specs.Parts.{PartView}
use Rattle.host_text.specs.declared.part.Form.TheVariants.{Bytes}
use Rattle.host_text.specs.Pieces.{IsPiece}

-- parts of an actor, one behind the other, have these notes, and each says how many came before it; before the first came so many
abbrev pub Follow : ℕ → ℕ → List PartView → List (Note ℕ) → Type 0
Follow actor before [] notes = notes ≡ []
Follow actor before (part ∷ parts) notes =
    (part.actor ≡ actor) × (part.before ≡ before) × (rest : List (Note ℕ)) × (notes ≡ part.notes ++ rest) × Follow actor (before + length part.notes) parts rest

-- parts with the first so many notes that the journal of an actor keeps, which so many others came before
pub record IsFrontInBytes (actor gone count : ℕ) (journal : JournalView ℕ) (bytes : List ℕ) : Type 0 where
  pub kept : Journal ℕ
  pub whole : kept ++ journal.passed ≡ journal.notes
  pub within : count ≤ length kept
  pub parts : List PartView
  pub follow : Follow actor gone parts (take count (reverse kept))
  pub is : bytes ≡ parts_bytes parts

-- a piece in bytes from where the pieces so far end makes them longer, if the caller says that as many notes came before it as do
abbrev pub BytesFollow : Type 0
BytesFollow =
    (actor gone from most notes : ℕ) (journal : JournalView ℕ) (joined more : List ℕ) → IsFrontInBytes actor gone from journal joined →
    IsPiece actor (Bytes (gone + from)) from most journal notes more → IsFrontInBytes actor gone (from + notes) journal (joined ++ more)
