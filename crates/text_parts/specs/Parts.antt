-- A part of a journal as bytes: a head, notes of one actor, and two sums.
use Rattle.std.specs.Prelude.{◌≡◌, ℕ, zero, suc, ◌+◌, ◌%◌, ◌^◌, ◌==◌, ◌&&◌, List, [], ◌∷◌, ◌++◌, codes, length, take, drop, flat_map, Option, Some, None, Result, Ok, Err, nat_lt, if◌then◌else◌}
use Rattle.std.specs.Str.{bytes_eq}
use Rattle.base_words.specs.declared.note.Note.{Note}
use Rattle.text_parts.specs.declared.part.Head.{Head}
use Rattle.text_parts.specs.declared.part.Part.{Part}
use Rattle.text_parts.specs.declared.part.PartCause.{PartCause}
use Rattle.text_parts.specs.declared.part.PartError.{PartError}
use Rattle.text_parts.specs.declared.part.PartError.TheVariants as errors
use Rattle.text_parts.specs.declared.part.PartCause.TheVariants as cause
use Rattle.text_parts.specs.NoteBytes.{wide, note_bytes}
use Rattle.text_parts.specs.ByteNotes.{Reader, both, pair, byte_at, wide_at, note_at}

-- whose notes they are, how many notes of that actor came before, and the notes, the oldest first
pub record PartView : Type 0 where
  pub actor : ℕ
  pub before : ℕ
  pub notes : List (Note ℕ)

-- what it is, and the version
abbrev pub mark : List ℕ
mark = codes "fxp1"

-- whose notes they are, how many came before, how many they are, and how many bytes they have
abbrev pub head_bytes : Head → List ℕ
head_bytes head = head.actor ∷ (wide head.before ++ (wide head.count ++ wide head.size))

abbrev pub body_bytes : List (Note ℕ) → List ℕ
body_bytes notes = flat_map note_bytes notes

abbrev pub head_of : PartView → Head
head_of part = record { actor = part.actor; before = part.before; count = length part.notes; size = length (body_bytes part.notes) }

abbrev pub front_bytes : PartView → List ℕ
front_bytes part = mark ++ (head_bytes (head_of part) ++ body_bytes part.notes)

-- a byte goes into two sums below 2 ^ 64: that of the bytes, and that of what the first one was behind each byte
abbrev pub sums_with : ℕ × ℕ → ℕ → ℕ × ℕ
sums_with sums byte = ((sums.0 + byte) % 2 ^ 64, (sums.1 + (sums.0 + byte) % 2 ^ 64) % 2 ^ 64)

unfoldable pub sums_behind : ℕ × ℕ → List ℕ → ℕ × ℕ
sums_behind sums [] = sums
sums_behind sums (byte ∷ bytes) = sums_behind (sums_with sums byte) bytes

abbrev pub sums_of : List ℕ → ℕ × ℕ
sums_of bytes = sums_behind (0, 0) bytes

abbrev pub sums_bytes : ℕ × ℕ → List ℕ
sums_bytes sums = wide sums.0 ++ wide sums.1

-- the sums are those of all bytes before them
abbrev pub part_bytes : PartView → List ℕ
part_bytes part = front_bytes part ++ sums_bytes (sums_of (front_bytes part))

-- ---- reading

abbrev pub counts_at : Reader (ℕ × (ℕ × ℕ))
counts_at = both pair wide_at (both pair wide_at wide_at)

abbrev pub head_with : ℕ → ℕ × (ℕ × ℕ) → Head
head_with actor counts = record { actor = actor; before = counts.0; count = counts.1.0; size = counts.1.1 }

unfoldable pub head_at : Reader Head
head_at bytes = both head_with byte_at counts_at bytes

-- so many notes
unfoldable pub notes_at : ℕ → Reader (List (Note ℕ))
notes_at zero bytes = Some ([], bytes)
notes_at (suc more) bytes = both ◌∷◌ note_at (notes_at more) bytes

-- bytes that are no notes
abbrev pub or_notes : {Y : Type 0} → Option Y → Result Y PartCause
or_notes None = Err cause.Notes
or_notes (Some found) = Ok found

-- the notes are as many as the head says, and have as many bytes
abbrev pub noted : Head → List ℕ → Result (List (Note ℕ) × List ℕ) PartCause → Result (PartView × List ℕ) PartCause
noted head rest (Err told) = Err told
noted head rest (Ok found) = if nat_lt 0 (length found.1) then Err cause.Notes else Ok (record { actor = head.actor; before = head.before; notes = found.0 }, rest)

abbrev pub sums_at : Reader (ℕ × ℕ)
sums_at = both pair wide_at wide_at

-- the sums are those of the bytes before them
abbrev pub summed : ℕ × ℕ → Head → List ℕ → Option ((ℕ × ℕ) × List ℕ) → Result (PartView × List ℕ) PartCause
summed sums head body None = Err cause.Cut
summed sums head body (Some found) =
    if found.0.0 == sums.0 && found.0.1 == sums.1 then noted head found.1 (or_notes (notes_at head.count body)) else Err cause.Sum

-- the sums have 16 bytes
abbrev pub bodied : ℕ × ℕ → Head → List ℕ → Result (PartView × List ℕ) PartCause
bodied sums head bytes =
    if nat_lt (length bytes) (head.size + 16) then Err cause.Cut
    else summed (sums_behind sums (take head.size bytes)) head (take head.size bytes) (sums_at (drop head.size bytes))

abbrev pub headed : ℕ × ℕ → Option (Head × List ℕ) → Result (PartView × List ℕ) PartCause
headed sums None = Err cause.Cut
headed sums (Some found) = bodied sums found.0 found.1

-- the part at the front, and the bytes behind it; or what is wrong with it; mark and head have 29 bytes
unfoldable pub part_at : List ℕ → Result (PartView × List ℕ) PartCause
part_at bytes =
    if nat_lt (length bytes) 29 then Err cause.Cut
    else (if bytes_eq (take 4 bytes) mark then headed (sums_of (take 29 bytes)) (head_at (drop 4 bytes)) else Err cause.Form)

-- ---- what a function of the code returned is what was read, unless there is no memory

abbrev pub part_seen : Part → PartView
part_seen part = record { actor = part.actor; before = part.before; notes = part.notes.items }

abbrev pub Fails : {Y : Type 0} → PartError → Result Y PartCause → Type 0
Fails errors.Memory read = Unit {0}
Fails (errors.Faulty told) read = read ≡ Err told

abbrev pub GivesPart : {X Y : Type 0} → (X → Y) → Result X PartError → Result Y PartCause → Type 0
GivesPart view (Ok found) read = read ≡ Ok (view found)
GivesPart view (Err error) read = Fails error read
