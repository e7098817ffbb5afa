-- The journals of a house as bytes: its numbers, and parts one behind the other, actor after actor.
use Rattle.std.specs.Prelude.{◌≡◌, ◌≢◌, ℕ, ◌+◌, ◌<◌, ◌≤◌, List, [], ◌∷◌, ◌++◌, codes, length, take, drop, reverse, All, Some, None, Ok, Err, nat_lt, if◌then◌else◌}
use Rattle.std.specs.Str.{bytes_eq}
use Rattle.base_words.specs.Assembly.{Assembly}
use Rattle.base_words.specs.declared.note.Note.{Note}
use Rattle.base_words.specs.Limits.{most_notes}
use Rattle.base_words.specs.Spelled.{IsSpelled, IsSpelledNote, IsWithinLimits}
use Rattle.text_parts.specs.declared.parts.HouseNumbers.{HouseNumbers}
use Rattle.text_parts.specs.declared.parts.PartsCause.{PartsCause}
use Rattle.text_parts.specs.declared.parts.PartsCause.TheVariants as cause
use Rattle.text_parts.specs.declared.parts.PartsError.{PartsError}
use Rattle.text_parts.specs.declared.parts.PartsError.TheVariants as errors
use Rattle.text_parts.specs.NoteBytes.{short}
use Rattle.text_parts.specs.ByteNotes.{Reader, both, pair, byte_at, short_at}
use Rattle.text_journal.specs.Handed.{Handed, IsLast, assembly_handed}
use Rattle.text_parts.specs.Parts.{PartView, part_at}
use Rattle.text_journal.specs.Raised.{Drafted, assembly_of, begun_draft, raised_to}

-- what it is, and the version
abbrev pub house_mark : List ℕ
house_mark = codes "fxh1"

-- how many cores there are, how many polls a turn may have, and how much each link may hold
abbrev pub house_bytes : HouseNumbers → List ℕ
house_bytes house = house_mark ++ (house.cores ∷ house.burst ∷ short house.cap)

abbrev pub house_with : ℕ → ℕ × ℕ → HouseNumbers
house_with cores others = record { cores = cores; cap = others.1; burst = others.0 }

abbrev pub numbers_at : Reader HouseNumbers
numbers_at = both house_with byte_at (both pair byte_at short_at)

unfoldable pub house_at : Reader HouseNumbers
house_at bytes =
    if nat_lt (length bytes) 4 then None
    else (if bytes_eq (take 4 bytes) house_mark then numbers_at (drop 4 bytes) else None)

abbrev pub IsHouse : HouseNumbers → Type 0
IsHouse house = IsWithinLimits house.cores house.cap house.burst

-- no note is there yet
abbrev pub house_draft : HouseNumbers → Drafted
house_draft house = begun_draft house.cores house.cap house.burst

-- notes come behind the others of their actor
abbrev pub with_notes : List (Note ℕ) → Drafted → Drafted
with_notes notes draft = record { part = draft.part; cores = draft.cores; cap = draft.cap; burst = draft.burst; earlier = draft.earlier; notes = reverse notes ++ draft.notes }

-- the journals of the actors before are whole, and the notes of the part come behind the others of its actor
abbrev pub with_part : PartView → Drafted → Drafted
with_part part draft = with_notes part.notes (raised_to part.actor draft)

-- it is a part of one of the actors, and of none before the one whose notes come now
abbrev pub IsOfHouse : Drafted → PartView → Type 0
IsOfHouse draft part = (length draft.earlier ≤ part.actor) × (part.actor ≤ draft.cores)

-- its actor may write each note
abbrev pub AreSpelled : Drafted → PartView → Type 0
AreSpelled draft part = All (IsSpelledNote (record { actor = part.actor; cores = draft.cores; cap = draft.cap; burst = draft.burst })) part.notes

-- it fits behind the notes of its actor: as many came before as it says, and there are not too many with it
pub record Fits (draft : Drafted) (part : PartView) : Type 0 where
  pub before : part.before ≡ length draft.notes
  pub few : length draft.notes + length part.notes ≤ most_notes
  pub spelled : AreSpelled draft part

-- why it doesn't: of several causes the first in this order is told
abbrev pub IsUnfit : PartsCause → Drafted → PartView → Type 0
IsUnfit cause.Before draft part = part.before ≢ length draft.notes
IsUnfit cause.TooMany draft part = (part.before ≡ length draft.notes) × (most_notes < length draft.notes + length part.notes)
IsUnfit cause.Note draft part = (part.before ≡ length draft.notes) × (length draft.notes + length part.notes ≤ most_notes) × (AreSpelled draft part → ⊥)
IsUnfit _ draft part = ⊥

-- a part may come next
abbrev pub IsNext : Drafted → PartView → Type 0
IsNext draft part = IsOfHouse draft part × Fits (raised_to part.actor draft) part

-- why it may not
abbrev pub IsNotNext : PartsCause → Drafted → PartView → Type 0
IsNotNext cause.Actor draft part = IsOfHouse draft part → ⊥
IsNotNext why draft part = IsOfHouse draft part × IsUnfit why (raised_to part.actor draft) part

-- parts are read one behind the other, and each may come next; this is made of a draft, and these bytes are left
abbrev pub MakeDraft : List PartView → Drafted → List ℕ → Drafted → List ℕ → Type 0
MakeDraft [] draft bytes made rest = (made ≡ draft) × (rest ≡ bytes)
MakeDraft (part ∷ parts) draft bytes made rest =
    (behind : List ℕ) × (part_at bytes ≡ Ok (part, behind)) × IsNext draft part × MakeDraft parts (with_part part draft) behind made rest

-- bytes begin with the numbers of a house, and parts behind them make this draft; these bytes are left
pub record MakeHouse (bytes : List ℕ) (draft : Drafted) (rest : List ℕ) : Type 0 where
  pub house : HouseNumbers
  pub behind : List ℕ
  pub numbers : house_at bytes ≡ Some (house, behind)
  pub limits : IsHouse house
  pub parts : List PartView
  pub made : MakeDraft parts (house_draft house) behind draft rest

-- bytes are these journals
abbrev pub AreJournals : List ℕ → Assembly ℕ → Type 0
AreJournals bytes assembly = (draft : Drafted) × MakeHouse bytes draft [] × (assembly ≡ assembly_of draft)

-- bytes are spelled journals, all of whose notes were handed on and became this
abbrev pub MakesParts : {W : Type 0} → (W → Handed → Type 0) → W → List ℕ → Type 0
MakesParts makes whole bytes = (handed : Handed) × IsLast handed × IsSpelled (assembly_handed handed) × AreJournals bytes (assembly_handed handed) × makes whole handed

-- what is wrong with bytes behind those that made a draft: no part stands in front, or one that may not come next
abbrev pub IsWrong : PartsCause → Drafted → List ℕ → Type 0
IsWrong (cause.Part told) draft bytes = (0 < length bytes) × (part_at bytes ≡ Err told)
IsWrong why draft bytes = (part : PartView) × (rest : List ℕ) × (part_at bytes ≡ Ok (part, rest)) × IsNotNext why draft part

-- bytes begin with no numbers of a house; or those before the place are taken, and this is wrong with what stands there
abbrev pub IsFault : List ℕ → ℕ → PartsCause → Type 0
IsFault bytes place cause.House = (place ≡ 0) × ((house : HouseNumbers) (rest : List ℕ) → house_at bytes ≡ Some (house, rest) → IsHouse house → ⊥)
IsFault bytes place why = (draft : Drafted) × (rest : List ℕ) × MakeHouse bytes draft rest × (place + length rest ≡ length bytes) × IsWrong why draft rest

-- a fact of a fault: its place, and the cause
abbrev pub IfFaulty : (ℕ → PartsCause → Type 0) → PartsError → Type 0
IfFaulty fact errors.Memory = Unit {0}
IfFaulty fact (errors.Faulty place told) = fact place told
