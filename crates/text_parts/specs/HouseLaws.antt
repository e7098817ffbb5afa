-- Journals of a house and their bytes are one.
use Rattle.std.specs.Prelude.{◌≡◌, ℕ, ◌+◌, List, [], ◌∷◌, ◌++◌, length, reverse, flat_map}
use Rattle.std.specs.List.{AllByRecursion}
use Rattle.base_words.specs.declared.note.Note.{Note}
use Rattle.base_words.specs.Assembly.{Assembly}
use Rattle.base_words.specs.Journal.{Journal}
use Rattle.base_words.specs.Spelled.{IsSpelled}
use Rattle.text_parts.specs.declared.parts.HouseNumbers.{HouseNumbers}
use Rattle.text_parts.specs.declared.parts.PartsCause.{PartsCause}
use Rattle.text_parts.specs.Houses.{AreJournals, IsFault, house_bytes}
use Rattle.text_parts.specs.PartLaws.{AreBytes, HasHead}
use Rattle.text_parts.specs.Parts.{PartView, head_of, part_bytes}
use Rattle.text_journal.specs.ReadLaws.{IsTellable}

abbrev pub parts_bytes : List PartView → List ℕ
parts_bytes parts = flat_map part_bytes parts

-- the parts tell these notes of an actor, the oldest first, before which so many came
abbrev pub TellNotes : ℕ → ℕ → List (Note ℕ) → List PartView → Type 0
TellNotes actor before notes [] = notes ≡ []
TellNotes actor before notes (part ∷ parts) =
    (rest : List (Note ℕ)) × (part.actor ≡ actor) × (part.before ≡ before) × (notes ≡ part.notes ++ rest) × TellNotes actor (before + length part.notes) rest parts

-- the parts tell the journals of the actors from this one on, actor after actor
abbrev pub TellJournals : ℕ → List (Journal ℕ) → List PartView → Type 0
TellJournals actor [] parts = parts ≡ []
TellJournals actor (journal ∷ journals) parts =
    (front : List PartView) × (rest : List PartView) × (parts ≡ front ++ rest) × TellNotes actor 0 (reverse journal) front × TellJournals (actor + 1) journals rest

-- the head of each part has room for its numbers
abbrev pub HaveHeads : List PartView → Type 0
HaveHeads parts = AllByRecursion (λ part. HasHead (head_of part)) parts

abbrev pub house_of : Assembly ℕ → HouseNumbers
house_of assembly = record { cores = assembly.cores; cap = assembly.cap; burst = assembly.burst }

-- the numbers of a house and parts that tell its journals, wherever these are cut, are read as these journals
abbrev pub JournalsAreReadBack : Type 0
JournalsAreReadBack =
    (assembly : Assembly ℕ) (parts : List PartView) → IsSpelled assembly → IsTellable assembly → TellJournals 0 assembly.journals parts → HaveHeads parts
    → AreJournals (house_bytes (house_of assembly) ++ parts_bytes parts) assembly

-- bytes are read as no journals but those of the house whose numbers and parts they are, and these are spelled
abbrev pub OnlyJournalsAreRead : Type 0
OnlyJournalsAreRead =
    (bytes : List ℕ) (assembly : Assembly ℕ) → AreBytes bytes → AreJournals bytes assembly
    → IsSpelled assembly × (parts : List PartView) × (bytes ≡ house_bytes (house_of assembly) ++ parts_bytes parts) × TellJournals 0 assembly.journals parts

-- bytes with a fault are no journals
abbrev pub FaultyAreNoJournals : Type 0
FaultyAreNoJournals = (bytes : List ℕ) (place : ℕ) (why : PartsCause) (assembly : Assembly ℕ) → IsFault bytes place why → AreJournals bytes assembly → ⊥
