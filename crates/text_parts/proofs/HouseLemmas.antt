-- Journals of a house as bytes: what parts make of a draft is spelled, and bytes at fault are no journals.
use Rattle.std.proofs.Common.{◌≡◌, ℕ, ◌+◌, ◌-◌, ◌<◌, ◌≤◌, Bool, true, false, cond, ltb, List, [], ◌∷◌, ◌++◌, length, get_or, take, drop, reverse, add-one, Option, Some, None, Ok, refl, sym, ap, subst, ◌∙◌, append_assoc, arith}
use Rattle.std.specs.Prelude.{All}
use Rattle.std.proofs.Math.Seq.{take-suc}
use Rattle.std.specs.Str.{bytes_eq}
use Rattle.std.proofs.lemmas.Bool.{le-ltb}
use Rattle.std.proofs.lemmas.List.{length-append, reverse-append, take-append-drop}
use Rattle.std.proofs.lemmas.List.Elements.{All-head, All-tail}
use Rattle.base_words.specs.Assembly.{Assembly}
use Rattle.base_words.specs.Spelled.{IsSpelled, IsSpelledNote}
use Rattle.base_words.specs.declared.note.Note.{Note}
use Rattle.text_parts.specs.declared.parts.HouseNumbers.{HouseNumbers}
use Rattle.text_journal.specs.Handed.{Handed, IsBegun, assembly_handed, handed_on}
use Rattle.text_parts.specs.Houses.{house_mark, house_bytes, house_with, house_at, house_draft, with_notes, with_part, IsHouse, IsNext, MakeDraft, MakeHouse, AreJournals, MakesParts}
use Rattle.text_parts.specs.NoteBytes.{short}
use Rattle.text_parts.specs.ByteNotes.{both, pair, byte_at, short_at}
use Rattle.text_parts.specs.Parts.{PartView, part_at}
use Rattle.text_journal.specs.Passing.{with_handed}
use Rattle.text_journal.specs.Raised.{Drafted, raised_to}
use Rattle.text_parts.proofs.ByteFields.{IsBytes, IsBytes-drop, IsTaken, both_taken, pair_taken, byte_taken, short_taken, both_again, short_again}
use Rattle.text_journal.proofs.DraftLemmas.{passed_count, raised_is}
use Rattle.text_journal.proofs.OnlyTexts.{assembly_passed, assembly_spelled}
use Rattle.text_journal.proofs.Options.{same_bytes}
use Rattle.text_journal.proofs.SoFar.{terms_at, IsFair, raised_fair, noted_fair}

-- ---- the numbers

numbers_bytes : HouseNumbers → List ℕ
numbers_bytes house = house.cores ∷ house.burst ∷ short house.cap

numbers_taken : IsTaken numbers_bytes (both house_with byte_at (both pair byte_at short_at))
unfolding numbers_bytes
numbers_taken = both_taken [] house_with byte_at (both pair byte_at short_at) (λ (byte : ℕ). byte ∷ []) (λ (p : ℕ × ℕ). (p.0 ∷ []) ++ short p.1) numbers_bytes byte_taken
    (pair_taken byte_at short_at (λ (byte : ℕ). byte ∷ []) short byte_taken short_taken) (λ cores others. refl)

abbrev found : {A : Type 0} → A → Option A
found x = Some x

past : {A : Type 0} (b : Bool) (read : Option A) (y : A) → cond b None read ≡ found y → read ≡ found y
past true read y e = absurd cc
past false read y e = e

kept : {A : Type 0} (b : Bool) (read : Option A) (y : A) → cond b read None ≡ found y → (b ≡ true) × (read ≡ found y)
kept true read y e = (refl, e)
kept false read y e = absurd cc

pub house_taken : IsTaken house_bytes house_at
unfolding house_at numbers_bytes
house_taken bytes x fits e =
    let read = both house_with byte_at (both pair byte_at short_at) (drop 4 bytes) in
    let k = kept (bytes_eq (take 4 bytes) house_mark) read x (past (ltb (length bytes) 4) (cond (bytes_eq (take 4 bytes) house_mark) read None) x e) in
    let t = numbers_taken (drop 4 bytes) x (IsBytes-drop 4 bytes fits) k.1 in
    record {
      parts = sym (take-append-drop 4 bytes) ∙ ap (λ (front : List ℕ). front ++ drop 4 bytes) (same_bytes _ _ k.0) ∙ ap (λ (rest : List ℕ). house_mark ++ rest) t.parts;
      rest_fits = t.rest_fits;
    }

pub house_again : (house : HouseNumbers) (rest : List ℕ) → IsHouse house → house_at (house_bytes house ++ rest) ≡ Some (house, rest)
unfolding house_at
house_again house rest limits =
    let few = limits.few_places in
    let bytes = house_bytes house ++ rest in
    let behind = house.burst ∷ (short house.cap ++ rest) in
    let read = both house_with byte_at (both pair byte_at short_at) in
    let enough : ltb (length bytes) 4 ≡ false = le-ltb _ _ (omega (arith, length-append (house_bytes house) rest, length-append house_mark (house.cores ∷ house.burst ∷ short house.cap))) in
    ap (λ (b : Bool). cond b None (cond (bytes_eq (take 4 bytes) house_mark) (read (drop 4 bytes)) None)) enough
    ∙ both_again house_with byte_at (both pair byte_at short_at) (house.cores ∷ behind) house.cores behind (house.burst, house.cap) rest refl
    (both_again pair byte_at short_at behind house.burst (short house.cap ++ rest) house.cap rest refl (short_again house.cap rest (omega (arith, few))))

pub numbers_short : (bytes rest : List ℕ) (house : HouseNumbers) → IsBytes bytes → house_at bytes ≡ Some (house, rest) → length rest ≤ length bytes
numbers_short bytes rest house fits e =
    let t = house_taken bytes (house, rest) fits e in
    omega (arith, ap length t.parts, length-append (house_bytes house) rest)

-- ---- parts

-- a part more
pub makes_more : (parts : List PartView) (draft made : Drafted) (bytes rest behind : List ℕ) (part : PartView) → MakeDraft parts draft bytes made rest → part_at rest ≡ Ok (part, behind) → IsNext made part
    → MakeDraft (parts ++ part ∷ []) draft bytes (with_part part made) behind
makes_more [] draft made bytes rest behind part makes read next =
    (behind, subst (λ (r : List ℕ). part_at r ≡ Ok (part, behind)) makes.1 read, subst (λ (d : Drafted). IsNext d part) makes.0 next, (ap (with_part part) makes.0, refl))
makes_more (first ∷ parts) draft made bytes rest behind part makes read next =
    (makes.0, makes.1, makes.2, makes_more parts (with_part first draft) made makes.0 rest behind part makes.3 read next)

pub part_begun : (draft : Drafted) (part : PartView) → IsBegun draft.part → IsBegun (with_part part draft).part
part_begun draft part begun =
    let kept = raised_is (part.actor - length draft.earlier) draft in
    subst IsBegun (sym kept.part) begun

-- a note in front of others is behind those before
pub notes_behind : (note : Note ℕ) (notes before : List (Note ℕ)) → reverse (note ∷ notes) ++ before ≡ reverse notes ++ note ∷ before
notes_behind note notes before = ap (λ (x : List (Note ℕ)). x ++ before) (reverse-append (note ∷ []) notes) ∙ append_assoc (reverse notes) (note ∷ []) before

abbrev with_journal : Drafted → List (Note ℕ) → Drafted
with_journal draft notes = record { part = draft.part; cores = draft.cores; cap = draft.cap; burst = draft.burst; earlier = draft.earlier; notes = notes }

-- one more of the notes is handed on
pub handed_more : (draft : Drafted) (notes : List (Note ℕ)) (i : ℕ) (note : Note ℕ) → i < length notes → with_handed (get_or notes i note) (with_notes (take i notes) draft) ≡ with_notes (take (i + 1) notes) draft
handed_more draft notes i note lt =
    let one : reverse (take (i + 1) notes) ++ draft.notes ≡ get_or notes i note ∷ (reverse (take i notes) ++ draft.notes) =
    ap (λ (n : ℕ). reverse (take n notes) ++ draft.notes) (add-one i) ∙ ap (λ (ns : List (Note ℕ)). reverse ns ++ draft.notes) (take-suc notes i note lt)
    ∙ ap (λ (ns : List (Note ℕ)). ns ++ draft.notes) (reverse-append (take i notes) (get_or notes i note ∷ [])) in
    ap (with_journal draft) (sym one)

-- ---- what parts make is spelled

notes_fair : (notes : List (Note ℕ)) (draft : Drafted) → IsFair draft → All (IsSpelledNote (terms_at (length draft.earlier) draft)) notes → IsFair (with_notes notes draft)
notes_fair [] draft fair all = fair
notes_fair (note ∷ notes) draft fair all =
    let P = IsSpelledNote {T = ℕ} (terms_at (length draft.earlier) draft) in
    let one = noted_fair draft note fair (All-head P note notes all) in
    subst (λ (journal : List (Note ℕ)). IsFair (with_journal draft journal)) (sym (notes_behind note notes draft.notes)) (notes_fair notes (with_handed note draft) one.0 (All-tail P note notes all))

part_fair : (draft : Drafted) (part : PartView) → IsFair draft → IsNext draft part → IsFair (with_part part draft)
part_fair draft part fair next =
    let passed = raised_to part.actor draft in
    let count = part.actor - length draft.earlier in
    let kept = raised_is count draft in
    let longer = kept.earlier in
    let first = next.0.0 in
    let last = next.0.1 in
    let raised = raised_fair count draft fair (omega arith) in
    let place : part.actor ≡ length passed.earlier = omega arith in
    notes_fair part.notes passed raised.0 (subst (λ (n : ℕ). All (IsSpelledNote (terms_at n passed)) part.notes) place next.1.spelled)

make_fair : (parts : List PartView) (draft made : Drafted) (bytes rest : List ℕ) → IsFair draft → MakeDraft parts draft bytes made rest → IsFair made
make_fair [] draft made bytes rest fair makes = subst IsFair (sym makes.0) fair
make_fair (part ∷ parts) draft made bytes rest fair makes = make_fair parts (with_part part draft) made makes.0 rest (part_fair draft part fair makes.2) makes.3

pub house_fair : (bytes rest : List ℕ) (draft : Drafted) → MakeHouse bytes draft rest → IsFair draft
house_fair bytes rest draft makes =
    make_fair makes.parts (house_draft makes.house) draft makes.behind rest (record { limits = makes.limits; actors = omega arith; before = tt; here = tt }) makes.made

pub journals_spelled : (bytes : List ℕ) (assembly : Assembly ℕ) → AreJournals bytes assembly → IsSpelled assembly
journals_spelled bytes assembly (draft, makes, is) = subst IsSpelled (sym is) (assembly_spelled draft (house_fair bytes [] draft makes))

-- what was handed on of journals
pub made_parts : {W : Type 0} (makes : W → Handed → Type 0) (whole : W) (bytes : List ℕ) (draft : Drafted) → MakeHouse bytes draft [] → makes whole (handed_on (raised_to draft.cores draft)) → MakesParts makes whole bytes
made_parts makes whole bytes draft house made =
    let fair = house_fair bytes [] draft house in
    let kept = raised_is (draft.cores - length draft.earlier) draft in (
      handed_on (raised_to draft.cores draft),
      passed_count draft fair.actors ∙ sym kept.cores,
      subst IsSpelled (assembly_passed draft) (assembly_spelled draft fair),
      (draft, house, sym (assembly_passed draft)),
      made,
    )

-- the journals that a taker kept
pub kept_parts : (bytes : List ℕ) (assembly : Assembly ℕ) → MakesParts (λ kept handed. kept ≡ assembly_handed handed) assembly bytes → IsSpelled assembly × AreJournals bytes assembly
kept_parts bytes assembly (handed, last, spelled, are, made) = (subst IsSpelled (sym made) spelled, subst (AreJournals bytes) (sym made) are)
