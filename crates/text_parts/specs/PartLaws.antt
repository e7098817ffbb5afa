-- A note and its bytes are one, and so are a part and its bytes.
use Rattle.std.specs.Prelude.{◌≡◌, ℕ, ◌<◌, ◌^◌, List, ◌∷◌, ◌++◌, Ok, Some}
use Rattle.std.specs.List.{AllByRecursion}
use Rattle.base_words.specs.declared.note.Note.{Note}
use Rattle.base_words.specs.Spelled.{IsSpelledNote}
use Rattle.base_words.specs.Terms.{Terms}
use Rattle.text_parts.specs.declared.part.Head.{Head}
use Rattle.text_journal.specs.Laws.{HoldsTimes}
use Rattle.text_parts.specs.NoteBytes.{note_bytes}
use Rattle.text_parts.specs.ByteNotes.{note_at}
use Rattle.text_parts.specs.Parts.{PartView, head_of, part_at, part_bytes, sums_of}

-- each is a byte
abbrev pub AreBytes : List ℕ → Type 0
AreBytes bytes = AllByRecursion (λ byte. byte < 256) bytes

-- the bytes of a note that an actor may write are read as that note, whatever stands behind them
abbrev pub NoteIsReadBack : Type 0
NoteIsReadBack = (terms : Terms) (note : Note ℕ) (rest : List ℕ) → IsSpelledNote terms note → HoldsTimes note → note_at (note_bytes note ++ rest) ≡ Some (note, rest)

-- bytes are read as no note but that whose bytes they are; so no other bytes are read as the same note
abbrev pub OnlyNotesAreRead : Type 0
OnlyNotesAreRead = (bytes rest : List ℕ) (note : Note ℕ) → AreBytes bytes → note_at bytes ≡ Some (note, rest) → bytes ≡ note_bytes note ++ rest

-- the numbers of a head have room in it
pub record HasHead (head : Head) : Type 0 where
  pub before : head.before < 2 ^ 64
  pub count : head.count < 2 ^ 64
  pub size : head.size < 2 ^ 64

-- each of its notes may be written
pub record HasBytes (terms : Terms) (part : PartView) : Type 0 where
  pub notes : AllByRecursion (λ note. IsSpelledNote terms note × HoldsTimes note) part.notes
  pub head : HasHead (head_of part)

-- the bytes of a part are read as that part, whatever stands behind them
abbrev pub PartIsReadBack : Type 0
PartIsReadBack = (terms : Terms) (part : PartView) (rest : List ℕ) → HasBytes terms part → part_at (part_bytes part ++ rest) ≡ Ok (part, rest)

-- bytes are read as no part but that whose bytes they are
abbrev pub OnlyPartsAreRead : Type 0
OnlyPartsAreRead = (bytes rest : List ℕ) (part : PartView) → AreBytes bytes → part_at bytes ≡ Ok (part, rest) → bytes ≡ part_bytes part ++ rest

-- where one byte of some is another, the sums are others
abbrev pub SumsTellBytes : Type 0
SumsTellBytes = (front rest : List ℕ) (one other : ℕ) → one < 256 → other < 256 → sums_of (front ++ one ∷ rest) ≡ sums_of (front ++ other ∷ rest) → one ≡ other
