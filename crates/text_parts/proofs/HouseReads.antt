-- Bytes are read as no journals but those that their numbers and parts tell.
use Rattle.std.proofs.Common.{◌≡◌, ℕ, zero, suc, ◌+◌, ◌-◌, List, [], ◌∷◌, ◌++◌, length, reverse, refl, sym, ap, subst, ◌∙◌, append_assoc, append-nil, arith}
use Rattle.std.proofs.lemmas.List.{drop_at, length-append, length-reverse, reverse-append, reverse-reverse}
use Rattle.std.proofs.lemmas.List.Concat.{flat_map-cons}
use Rattle.base_words.specs.Journal.{Journal}
use Rattle.base_words.specs.declared.note.Note.{Note}
use Rattle.text_parts.specs.declared.parts.HouseNumbers.{HouseNumbers}
use Rattle.text_parts.specs.HouseLaws.{parts_bytes, TellNotes, TellJournals, house_of, OnlyJournalsAreRead}
use Rattle.text_parts.specs.Houses.{house_bytes, house_draft, with_part, IsNext, MakeDraft}
use Rattle.text_parts.specs.Parts.{PartView, part_bytes}
use Rattle.text_journal.specs.Raised.{Drafted, next_actor, raised, raised_to, all_journals}
use Rattle.text_parts.proofs.ByteFields.{IsBytes, IsBytes-drop}
use Rattle.text_parts.proofs.ByteLaws.{bytes_are}
use Rattle.text_parts.proofs.ByteParts.{part_taken}
use Rattle.text_journal.proofs.DraftLemmas.{raised_is}
use Rattle.text_parts.proofs.HouseLemmas.{house_taken, journals_spelled}

-- ---- the bytes are those of the parts

rest_fits : (bytes front rest : List ℕ) → bytes ≡ front ++ rest → IsBytes bytes → IsBytes rest
rest_fits bytes front rest same fits = subst IsBytes (drop_at front rest (length front) refl) (IsBytes-drop (length front) (front ++ rest) (subst IsBytes same fits))

parts_are : (parts : List PartView) (draft made : Drafted) (bytes rest : List ℕ) → IsBytes bytes → MakeDraft parts draft bytes made rest → bytes ≡ parts_bytes parts ++ rest
parts_are [] draft made bytes rest fits makes = sym makes.1
parts_are (part ∷ parts) draft made bytes rest fits makes =
    let behind = makes.0 in
    let front = part_taken bytes (part, behind) fits makes.1 in
    let more = parts_are parts (with_part part draft) made behind rest (rest_fits bytes (part_bytes part) behind front fits) makes.3 in
    front ∙ ap (λ (x : List ℕ). part_bytes part ++ x) more ∙ sym (append_assoc (part_bytes part) (parts_bytes parts) rest) ∙ ap (λ (x : List ℕ). x ++ rest) (sym (flat_map-cons part_bytes part parts))

-- the numbers of the house stay
same_house : (parts : List PartView) (draft made : Drafted) (bytes rest : List ℕ) → MakeDraft parts draft bytes made rest → (made.cores ≡ draft.cores) × (made.cap ≡ draft.cap) × (made.burst ≡ draft.burst)
same_house [] draft made bytes rest makes = (ap (λ (d : Drafted). d.cores) makes.0, ap (λ (d : Drafted). d.cap) makes.0, ap (λ (d : Drafted). d.burst) makes.0)
same_house (part ∷ parts) draft made bytes rest makes =
    let kept = raised_is (part.actor - length draft.earlier) draft in
    let more = same_house parts (with_part part draft) made makes.0 rest makes.3 in
    (more.0 ∙ kept.cores, more.1 ∙ kept.cap, more.2 ∙ kept.burst)

house_is : (house : HouseNumbers) (cores places burst : ℕ) → house.cores ≡ cores → house.cap ≡ places → house.burst ≡ burst → house ≡ record { cores = cores; cap = places; burst = burst }
house_is house cores places burst cores_are caps_are bursts_are = λ i. record { cores = cores_are i; cap = caps_are i; burst = bursts_are i }

-- ---- the parts tell the journals

pub notes_push : (actor before : ℕ) (notes : List (Note ℕ)) (parts : List PartView) (part : PartView) → TellNotes actor before notes parts → part.actor ≡ actor → part.before ≡ before + length notes
    → TellNotes actor before (notes ++ part.notes) (parts ++ part ∷ [])
notes_push actor before notes [] part tell mine place =
    let none = ap length tell in
    ([], mine, omega (arith, place, none), ap (λ (ns : List (Note ℕ)). ns ++ part.notes) tell ∙ sym (append-nil part.notes), refl)
notes_push actor before notes (first ∷ parts) part (rest, own, at, same, tell) mine place =
    let long = ap length same ∙ length-append first.notes rest in
    let here : part.before ≡ (before + length first.notes) + length rest = omega (arith, place, long) in
    (rest ++ part.notes, own, at, ap (λ (ns : List (Note ℕ)). ns ++ part.notes) same ∙ append_assoc first.notes rest part.notes, notes_push actor (before + length first.notes) rest parts part tell mine here)

journal_push : (actor : ℕ) (journals : List (Journal ℕ)) (journal : Journal ℕ) (front last : List PartView) → TellJournals actor journals front → TellNotes (actor + length journals) 0 (reverse journal) last
    → TellJournals actor (journals ++ journal ∷ []) (front ++ last)
journal_push actor [] journal front last tell notes =
    let here : actor + 0 ≡ actor = omega arith in
    (last, [], ap (λ (ps : List PartView). ps ++ last) tell ∙ sym (append-nil last), subst (λ (n : ℕ). TellNotes n 0 (reverse journal) last) here notes, refl)
journal_push actor (first ∷ journals) journal front last (parts, rest, cut, told, tell) notes =
    let here : actor + length (first ∷ journals) ≡ (actor + 1) + length journals = omega arith in
    (parts, rest ++ last, ap (λ (ps : List PartView). ps ++ last) cut ∙ append_assoc parts rest last, told, journal_push (actor + 1) journals journal rest last tell (subst (λ (n : ℕ). TellNotes n 0 (reverse journal) last) here notes))

-- parts tell a draft: the journals of the actors before, and the notes of the one whose notes come now
record Tell (draft : Drafted) (parts : List PartView) : Type 0 where
  before : List PartView
  now : List PartView
  cut : parts ≡ before ++ now
  earlier : TellJournals 0 draft.earlier before
  notes : TellNotes (length draft.earlier) 0 (reverse draft.notes) now

tell_all : (draft : Drafted) (parts : List PartView) → Tell draft parts → TellJournals 0 (all_journals draft) parts
tell_all draft parts tell =
    let here : length draft.earlier ≡ 0 + length draft.earlier = omega arith in
    subst (TellJournals 0 (all_journals draft)) (sym tell.cut)
    (journal_push 0 draft.earlier draft.notes tell.before tell.now tell.earlier (subst (λ (n : ℕ). TellNotes n 0 (reverse draft.notes) tell.now) here tell.notes))

tell_raised : (count : ℕ) (draft : Drafted) (parts : List PartView) → Tell draft parts → Tell (raised count draft) parts
tell_raised zero draft parts tell = tell
tell_raised (suc count) draft parts tell =
    tell_raised count (next_actor draft) parts (record { before = parts; now = []; cut = sym (append-nil parts); earlier = tell_all draft parts tell; notes = refl })

tell_part : (draft : Drafted) (parts : List PartView) (part : PartView) → Tell draft parts → IsNext draft part → Tell (with_part part draft) (parts ++ part ∷ [])
tell_part draft parts part old next =
    let passed = raised_to part.actor draft in
    let kept = raised_is (part.actor - length draft.earlier) draft in
    let longer = kept.earlier in
    let first = next.0.0 in
    let mine : part.actor ≡ length passed.earlier = omega arith in
    let tell = tell_raised (part.actor - length draft.earlier) draft parts old in
    let before = next.1.before in
    let place : part.before ≡ 0 + length (reverse passed.notes) = omega (arith, before, length-reverse passed.notes) in
    let whole : reverse passed.notes ++ part.notes ≡ reverse (reverse part.notes ++ passed.notes) =
    sym (reverse-append (reverse part.notes) passed.notes ∙ ap (λ (ns : List (Note ℕ)). reverse passed.notes ++ ns) (reverse-reverse part.notes)) in
    record {
      before = tell.before;
      now = tell.now ++ part ∷ [];
      cut = ap (λ (ps : List PartView). ps ++ part ∷ []) tell.cut ∙ append_assoc tell.before tell.now (part ∷ []);
      earlier = tell.earlier;
      notes =
          subst (λ (ns : List (Note ℕ)). TellNotes (length passed.earlier) 0 ns (tell.now ++ part ∷ [])) whole
          (notes_push (length passed.earlier) 0 (reverse passed.notes) tell.now part tell.notes mine place);
    }

tell_parts : (parts done : List PartView) (draft made : Drafted) (bytes rest : List ℕ) → Tell draft done → MakeDraft parts draft bytes made rest → Tell made (done ++ parts)
tell_parts [] done draft made bytes rest tell makes = subst (λ (d : Drafted). Tell d (done ++ [])) (sym makes.0) (subst (Tell draft) (sym (append-nil done)) tell)
tell_parts (part ∷ parts) done draft made bytes rest tell makes =
    subst (Tell made) (append_assoc done (part ∷ []) parts) (tell_parts parts (done ++ part ∷ []) (with_part part draft) made makes.0 rest (tell_part draft done part tell makes.2) makes.3)

pub only_read : OnlyJournalsAreRead
only_read bytes assembly all (draft, makes, is) =
    let fits = bytes_are bytes all in
    let house = makes.house in
    let numbers = house_taken bytes (house, makes.behind) fits makes.numbers in
    let parts = parts_are makes.parts (house_draft house) draft makes.behind [] numbers.rest_fits makes.made in
    let same = same_house makes.parts (house_draft house) draft makes.behind [] makes.made in
    let mine : house ≡ house_of assembly = house_is house assembly.cores assembly.cap assembly.burst (sym (ap (λ a. a.cores) is ∙ same.0)) (sym (ap (λ a. a.cap) is ∙ same.1)) (sym (ap (λ a. a.burst) is ∙ same.2)) in
    let tell = tell_parts makes.parts [] (house_draft house) draft makes.behind [] (record { before = []; now = []; cut = refl; earlier = refl; notes = refl }) makes.made in
    let passed = tell_raised (draft.cores - length draft.earlier) draft makes.parts tell in (
      journals_spelled bytes assembly (draft, makes, is),
      makes.parts,
      numbers.parts ∙ ap (λ (h : HouseNumbers). house_bytes h ++ makes.behind) mine ∙ ap (λ (x : List ℕ). house_bytes (house_of assembly) ++ x) (parts ∙ append-nil (parts_bytes makes.parts)),
      subst (λ (js : List (Journal ℕ)). TellJournals 0 js makes.parts) (sym (ap (λ a. a.journals) is)) (tell_all (raised_to draft.cores draft) makes.parts passed),
    )
