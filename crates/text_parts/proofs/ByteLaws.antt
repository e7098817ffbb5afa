-- Notes, parts and their bytes are one.
use Rattle.std.proofs.Common.{◌≡◌, ℕ, zero, suc, ◌+◌, ◌-◌, ◌%◌, ◌^◌, ◌<◌, ◌≤◌, List, [], ◌∷◌, ◌++◌, Option, Some, None, refl, sym, ap, ◌∙◌, append_assoc, arith}
use Rattle.std.specs.List.{AllByRecursion}
use Rattle.std.proofs.lemmas.List.{append-nil}
use Rattle.std.specs.Prelude.{Result, Ok, Err, IfOk}
use Rattle.base_words.specs.declared.note.Note.{Note}
use Rattle.text_parts.specs.BadParts.{BadPartsAreRefused}
use Rattle.text_journal.specs.Fields.{◌>>=◌}
use Rattle.text_parts.specs.NoteBytes.{wide, short}
use Rattle.text_parts.specs.ByteNotes.{mode_at, note_at, wide_at, short_at}
use Rattle.text_parts.specs.declared.part.PartError.{PartError}
use Rattle.text_parts.specs.Parts.{PartView, sums_with, sums_behind, sums_of, head_at, notes_at, part_at, part_bytes, GivesPart}
use Rattle.text_parts.specs.PartLaws.{NoteIsReadBack, OnlyNotesAreRead, PartIsReadBack, OnlyPartsAreRead, SumsTellBytes}
use Rattle.text_parts.proofs.ByteFields.{IsBytes}
use Rattle.text_parts.proofs.ByteNotes.{note_taken, note_again}
use Rattle.text_parts.proofs.ByteParts.{part_taken, part_again, sums-append}

pub bytes_are : (bytes : List ℕ) → AllByRecursion (λ byte. byte < 256) bytes → IsBytes bytes
bytes_are [] all i = omega arith
bytes_are (byte ∷ bytes) all zero = all.0
bytes_are (byte ∷ bytes) all (suc i) = bytes_are bytes all.1 i

pub read_back : NoteIsReadBack
read_back terms note rest spelled holds = note_again terms note rest spelled holds

pub only_read : OnlyNotesAreRead
only_read bytes rest note all e = (note_taken bytes (note, rest) (bytes_are bytes all) e).parts

pub part_read_back : PartIsReadBack
part_read_back terms part rest has = part_again terms part rest has

pub only_parts : OnlyPartsAreRead
only_parts bytes rest part all e = part_taken bytes (part, rest) (bytes_are bytes all) e

-- what was added to is told by the sum
added : (a b x : ℕ) → a < 2 ^ 64 → b < 2 ^ 64 → (a + x) % 2 ^ 64 ≡ (b + x) % 2 ^ 64 → a ≡ b
added a b x h k e = omega arith

-- what was added is told by the sum
byte_added : (a one other : ℕ) → one < 256 → other < 256 → (a + one) % 2 ^ 64 ≡ (a + other) % 2 ^ 64 → one ≡ other
byte_added a one other h k e = omega arith

record AreBelow (sums : ℕ × ℕ) : Type 0 where
  first : sums.0 < 2 ^ 64
  second : sums.1 < 2 ^ 64

with_below : (sums : ℕ × ℕ) (byte : ℕ) → AreBelow (sums_with sums byte)
with_below sums byte = record { first = omega arith; second = omega arith }

state_told : (s t : ℕ × ℕ) (bytes : List ℕ) → AreBelow s → AreBelow t → sums_behind s bytes ≡ sums_behind t bytes → (s.0 ≡ t.0) × (s.1 ≡ t.1)
unfolding sums_behind
state_told s t [] h k e = (ap (λ (p : ℕ × ℕ). p.0) e, ap (λ (p : ℕ × ℕ). p.1) e)
state_told s t (byte ∷ bytes) h k e =
    let told = state_told (sums_with s byte) (sums_with t byte) bytes (with_below s byte) (with_below t byte) e in
    let first : s.0 ≡ t.0 = added s.0 t.0 byte h.first k.first told.0 in
    let second : (s.1 + (t.0 + byte) % 2 ^ 64) % 2 ^ 64 ≡ (t.1 + (t.0 + byte) % 2 ^ 64) % 2 ^ 64 = ap (λ (n : ℕ). (s.1 + (n + byte) % 2 ^ 64) % 2 ^ 64) (sym first) ∙ told.1 in
    (first, added s.1 t.1 ((t.0 + byte) % 2 ^ 64) h.second k.second second)

pub sums_tell : SumsTellBytes
unfolding sums_behind
sums_tell front rest one other h k e =
    let s = sums_of front in
    let told = state_told (sums_with s one) (sums_with s other) rest (with_below s one) (with_below s other) (sym (sums-append (0, 0) front (one ∷ rest)) ∙ e ∙ sums-append (0, 0) front (other ∷ rest)) in
    byte_added s.0 one other h k told.0

-- ---- the small cases are refused: each computes

pub refused : BadPartsAreRefused
unfolding wide short wide_at short_at sums_behind head_at note_at mode_at notes_at part_at
refused = record {
  last_note_lost = refl;
  last_note_and_bytes_lost = refl;
  note_twice = refl;
  no_note = refl;
  other_note = refl;
  other_actor = refl;
  cut_in_sums = refl;
  cut_in_head = refl;
  empty = refl;
  other_version = refl;
}

-- ---- reading notes one behind the other, as a loop does

-- what was read before, and what is still read
abbrev pub with_front : List (Note ℕ) → Option (List (Note ℕ) × List ℕ) → Option (List (Note ℕ) × List ℕ)
with_front front read = read >>= λ x. Some (front ++ x.0, x.1)

regroup : (front : List (Note ℕ)) (n : Note ℕ) (read : Option (List (Note ℕ) × List ℕ)) → with_front front (read >>= λ x. Some (n ∷ x.0, x.1)) ≡ with_front (front ++ n ∷ []) read
regroup front n (Some x) = ap (λ (ns : List (Note ℕ)). Some (ns, x.1)) (sym (append_assoc front (n ∷ []) x.0))
regroup front n None = refl

pub goes_on : (front : List (Note ℕ)) (count i : ℕ) (bytes : List ℕ) (n : Note ℕ) (after : List ℕ) (total : Option (List (Note ℕ) × List ℕ)) → i < count → note_at bytes ≡ Some (n, after)
    → with_front front (notes_at (count - i) bytes) ≡ total → with_front (front ++ n ∷ []) (notes_at (count - (i + 1)) after) ≡ total
unfolding notes_at
goes_on front count i bytes n after total lt h so_far =
    let k : count - i ≡ suc (count - (i + 1)) = omega arith in
    let one : notes_at (suc (count - (i + 1))) bytes ≡ (notes_at (count - (i + 1)) after >>= λ x. Some (n ∷ x.0, x.1)) =
    ap (λ (o : Option (Note ℕ × List ℕ)). o >>= λ a. notes_at (count - (i + 1)) a.1 >>= λ x. Some (a.0 ∷ x.0, x.1)) h in
    sym (regroup front n (notes_at (count - (i + 1)) after)) ∙ ap (with_front front) (sym one) ∙ ap (λ (m : ℕ). with_front front (notes_at m bytes)) (sym k) ∙ so_far

pub ends : (front : List (Note ℕ)) (count i : ℕ) (bytes : List ℕ) (total : Option (List (Note ℕ) × List ℕ)) → i < count → note_at bytes ≡ None
    → with_front front (notes_at (count - i) bytes) ≡ total → total ≡ None
unfolding notes_at
ends front count i bytes total lt h so_far =
    let k : count - i ≡ suc (count - (i + 1)) = omega arith in
    sym so_far ∙ ap (λ (m : ℕ). with_front front (notes_at m bytes)) k ∙ ap (λ (o : Option (Note ℕ × List ℕ)). with_front front (o >>= λ a. notes_at (count - (i + 1)) a.1 >>= λ x. Some (a.0 ∷ x.0, x.1))) h

pub is_done : (front : List (Note ℕ)) (count i : ℕ) (bytes : List ℕ) (total : Option (List (Note ℕ) × List ℕ)) → count ≤ i → with_front front (notes_at (count - i) bytes) ≡ total → total ≡ Some (front, bytes)
unfolding notes_at
is_done front count i bytes total le so_far =
    let k : count - i ≡ 0 = omega arith in
    sym so_far ∙ ap (λ (m : ℕ). with_front front (notes_at m bytes)) k ∙ ap (λ (ns : List (Note ℕ)). Some (ns, bytes)) (append-nil front)

-- ---- parts one behind the other

pub part_found : {X : Type 0} (view : X → PartView × List ℕ) (bytes : List ℕ) (read : Result X PartError) → IsBytes bytes → GivesPart view read (part_at bytes)
    → IfOk read (λ x. bytes ≡ part_bytes (view x).0 ++ (view x).1)
part_found view bytes (Ok x) fits given = part_taken bytes (view x) fits given
part_found view bytes (Err error) fits given = tt
