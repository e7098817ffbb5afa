-- Journals of a house and their bytes are one.
use Rattle.std.proofs.Common.{◌≡◌, ℕ, ◌+◌, ◌-◌, ◌≤◌, List, [], ◌∷◌, ◌++◌, length, reverse, Result, Ok, Err, refl, sym, ap, subst, ◌∙◌, append_assoc, append-nil, arith}
use Rattle.std.specs.Prelude.{All}
use Rattle.std.specs.List.{AllByRecursion}
use Rattle.std.proofs.lemmas.List.{length-append, length-reverse, reverse-append, reverse-reverse}
use Rattle.std.proofs.lemmas.List.Concat.{flat_map-cons}
use Rattle.std.proofs.lemmas.List.Elements.{All-nil, All-cons}
use Rattle.std.proofs.lemmas.Grind.{flat_map-append}
use Rattle.base_words.specs.Assembly.{Assembly}
use Rattle.base_words.specs.Journal.{Journal, EachNote}
use Rattle.base_words.specs.Limits.{most_notes}
use Rattle.base_words.specs.Spelled.{AreSpelledNotes, IsSpelledNote}
use Rattle.base_words.specs.Terms.{Terms}
use Rattle.base_words.specs.declared.note.Note.{Note}
use Rattle.text_parts.specs.declared.part.PartCause.{PartCause}
use Rattle.text_parts.specs.declared.part.PartCause.TheVariants as part
use Rattle.text_parts.specs.declared.parts.HouseNumbers.{HouseNumbers}
use Rattle.text_parts.specs.declared.parts.PartsCause.{PartsCause}
use Rattle.text_parts.specs.declared.parts.PartsCause.TheVariants as cause
use Rattle.text_parts.specs.HouseLaws.{parts_bytes, TellNotes, TellJournals, HaveHeads, house_of, JournalsAreReadBack, FaultyAreNoJournals}
use Rattle.text_parts.specs.Houses.{house_draft, with_notes, with_part, Fits, IsUnfit, IsNext, IsNotNext, IsWrong, MakeDraft, MakeHouse, AreJournals}
use Rattle.text_journal.specs.Laws.{HoldsTimes}
use Rattle.text_parts.specs.PartLaws.{HasHead}
use Rattle.text_parts.specs.Parts.{PartView, head_of, part_at, part_bytes}
use Rattle.text_journal.specs.Raised.{Drafted, all_journals, assembly_of, raised_to}
use Rattle.text_parts.proofs.ByteFields.{some_is}
use Rattle.text_parts.proofs.ByteParts.{part_again}
use Rattle.text_parts.proofs.HouseLemmas.{house_again}
use Rattle.text_journal.proofs.Raising.{drafted, StandsFor, stands_cores, stands_cap, stands_burst, stands_itself, stands_next, stands_whole, raised_closed}
use Rattle.text_journal.proofs.ReadBack.{AreReadable, all_readable, same_parts}

-- ---- what was written is read

-- a note that may be written by an actor with these terms
abbrev IsGood : Terms → Note ℕ → Type 0
IsGood terms note = IsSpelledNote terms note × HoldsTimes note

split : {X : Type 0} (P : X → Type 0) (xs ys : List X) → AllByRecursion P (xs ++ ys) → AllByRecursion P xs × AllByRecursion P ys
split P [] ys all = (tt, all)
split P (x ∷ xs) ys all = let rest = split P xs ys all.1 in ((all.0, rest.0), rest.1)

spelled_all : (terms : Terms) (notes : List (Note ℕ)) → AllByRecursion (IsGood terms) notes → All (IsSpelledNote terms) notes
spelled_all terms [] all = All-nil (IsSpelledNote terms)
spelled_all terms (note ∷ notes) all = All-cons (IsSpelledNote terms) note notes all.0.0 (spelled_all terms notes all.1)

join : {X : Type 0} (P : X → Type 0) (xs ys : List X) → AllByRecursion P xs → AllByRecursion P ys → AllByRecursion P (xs ++ ys)
join P [] ys front rest = rest
join P (x ∷ xs) ys front rest = (front.0, join P xs ys front.1 rest)

all_reverse : (P : Note ℕ → Type 0) (journal : Journal ℕ) → EachNote (λ note before. P note) journal → AllByRecursion P (reverse journal)
all_reverse P [] each = tt
all_reverse P (note ∷ before) each = subst (AllByRecursion P) (sym (reverse-append (note ∷ []) before)) (join P (reverse before) (note ∷ []) (all_reverse P before each.1) (each.0, tt))

good_each : (terms : Terms) (journal : Journal ℕ) → AreSpelledNotes terms journal → EachNote (λ note before. HoldsTimes note) journal → EachNote (λ note before. IsGood terms note) journal
good_each terms [] spelled times = tt
good_each terms (note ∷ before) spelled times = ((spelled.0, times.0), good_each terms before spelled.1 times.1)

abbrev terms_in : ℕ → ℕ → ℕ → ℕ → Terms
terms_in actor cores places burst = record { actor = actor; cores = cores; cap = places; burst = burst }

module _ (cores places burst : ℕ) where
  -- one part
  part_next : (earlier : List (Journal ℕ)) (notes : Journal ℕ) (draft : Drafted) (part : PartView) → length earlier ≤ cores → StandsFor cores places burst earlier notes draft →
      part.actor ≡ length earlier → part.before ≡ length notes → length notes + length part.notes ≤ most_notes → All (IsSpelledNote (terms_in (length earlier) cores places burst)) part.notes →
      IsNext draft part × StandsFor cores places burst earlier (reverse part.notes ++ notes) (with_part part draft)
  part_next earlier notes draft part within stands actor before few spelled =
      let passed : raised_to part.actor draft ≡ drafted cores places burst earlier notes = ap (λ (n : ℕ). raised_to n draft) actor ∙ stands.same in
      let actors = stands.actors in
      let here = stands_cores stands in
      let count : length (raised_to part.actor draft).notes ≡ length notes = ap (λ (d : Drafted). length d.notes) passed in
      let fits : Fits (raised_to part.actor draft) part = record {
        before = before ∙ sym count;
        few = omega (arith, count, few);
        spelled =
            subst (λ (d : Drafted). All (IsSpelledNote (terms_in part.actor d.cores d.cap d.burst)) part.notes) (sym passed)
            (subst (λ (n : ℕ). All (IsSpelledNote (terms_in n cores places burst)) part.notes) (sym actor) spelled);
      } in (
        ((omega (arith, actor, actors), omega (arith, actor, here, within)), fits),
        subst (StandsFor cores places burst earlier (reverse part.notes ++ notes)) (sym (ap (with_notes part.notes) passed)) (stands_itself cores places burst earlier (reverse part.notes ++ notes) within),
      )

  abbrev Comes : Drafted → List PartView → List ℕ → List (Journal ℕ) → Journal ℕ → Type 0
  Comes draft parts rest earlier notes = (final : Drafted) × MakeDraft parts draft (parts_bytes parts ++ rest) final rest × StandsFor cores places burst earlier notes final

  -- the parts of one actor
  notes_told : (earlier : List (Journal ℕ)) (before : Journal ℕ) (draft : Drafted) (notes : List (Note ℕ)) (parts : List PartView) (rest : List ℕ) → length earlier ≤ cores →
      StandsFor cores places burst earlier before draft → TellNotes (length earlier) (length before) notes parts → HaveHeads parts →
      AllByRecursion (IsGood (terms_in (length earlier) cores places burst)) notes → length before + length notes ≤ most_notes → Comes draft parts rest earlier (reverse notes ++ before)
  notes_told earlier before draft notes [] rest within stands tell heads good few =
      (draft, (refl, refl), subst (λ (ns : List (Note ℕ)). StandsFor cores places burst earlier (reverse ns ++ before) draft) (sym tell) stands)
  notes_told earlier before draft notes (part ∷ parts) rest within stands (more, actor, place, same, tell) heads good few =
      let terms = terms_in (length earlier) cores places burst in
      let all = split (IsGood terms) part.notes more (subst (AllByRecursion (IsGood terms)) same good) in
      let long = ap length same ∙ length-append part.notes more in
      let one = part_next earlier before draft part within stands actor place (omega (arith, long, few)) (spelled_all terms part.notes all.0) in
      let behind = parts_bytes parts ++ rest in
      let regrouped : parts_bytes (part ∷ parts) ++ rest ≡ part_bytes part ++ behind = ap (λ (x : List ℕ). x ++ rest) (flat_map-cons part_bytes part parts) ∙ append_assoc (part_bytes part) (parts_bytes parts) rest in
      let read : part_at (parts_bytes (part ∷ parts) ++ rest) ≡ Ok (part, behind) = ap part_at regrouped ∙ part_again terms part behind (record { notes = all.0; head = heads.0 }) in
      let now = reverse part.notes ++ before in
      let count : length before + length part.notes ≡ length now = omega (arith, length-append (reverse part.notes) before, length-reverse part.notes) in
      let others = notes_told earlier now (with_part part draft) more parts rest within one.1 (subst (λ (n : ℕ). TellNotes (length earlier) n more parts) count tell) heads.1 all.1 (omega (arith, long, few, count)) in
      let whole : reverse more ++ now ≡ reverse notes ++ before =
      sym (append_assoc (reverse more) (reverse part.notes) before) ∙ ap (λ (ns : List (Note ℕ)). ns ++ before) (sym (reverse-append part.notes more) ∙ ap reverse (sym same)) in
      (others.0, (behind, read, one.0, others.1), subst (λ (js : List (Note ℕ)). StandsFor cores places burst earlier js others.0) whole others.2)

  makes_then : (one two : List PartView) (draft middle final : Drafted) (bytes between rest : List ℕ) → MakeDraft one draft bytes middle between → MakeDraft two middle between final rest → MakeDraft (one ++ two) draft bytes final rest
  makes_then [] two draft middle final bytes between rest first more = subst (λ (d : Drafted). MakeDraft two d bytes final rest) first.0 (subst (λ (b : List ℕ). MakeDraft two middle b final rest) first.1 more)
  makes_then (part ∷ one) two draft middle final bytes between rest first more = (first.0, first.1, first.2, makes_then one two (with_part part draft) middle final first.0 between rest first.3 more)

  -- the parts of all actors from one on
  journals_told : (earlier : List (Journal ℕ)) (draft : Drafted) (journals : List (Journal ℕ)) (parts : List PartView) (rest : List ℕ) → length earlier + length journals ≤ cores + 1 →
      StandsFor cores places burst earlier [] draft → TellJournals (length earlier) journals parts → HaveHeads parts → AreReadable (length earlier) cores places burst journals → Comes draft parts rest (earlier ++ journals) []
  journals_told earlier draft [] parts rest within stands tell heads readable =
      subst (λ (ps : List PartView). Comes draft ps rest (earlier ++ []) []) (sym tell) (draft, (refl, refl), subst (λ (js : List (Journal ℕ)). StandsFor cores places burst js [] draft) (sym (append-nil earlier)) stands)
  journals_told earlier draft (journal ∷ journals) parts rest within stands (front, others, cut, tell, more) heads readable =
      let terms = terms_in (length earlier) cores places burst in
      let has = split (λ (part : PartView). HasHead (head_of part)) front others (subst HaveHeads cut heads) in
      let good = all_reverse (IsGood terms) journal (good_each terms journal readable.0.spelled readable.0.times) in
      let few = readable.0.few in
      let one = notes_told earlier [] draft (reverse journal) front (parts_bytes others ++ rest) (omega (arith, within)) stands tell has.0 good (omega (arith, few, length-reverse journal)) in
      let mine : reverse (reverse journal) ++ [] ≡ journal = append-nil (reverse (reverse journal)) ∙ reverse-reverse journal in
      let here = subst (λ (js : Journal ℕ). StandsFor cores places burst earlier js one.0) mine one.2 in
      let longer : length (earlier ++ journal ∷ []) ≡ length earlier + 1 = omega (arith, length-append earlier (journal ∷ [])) in
      let last = journals_told (earlier ++ journal ∷ []) one.0 journals others rest (omega (arith, within, longer)) (stands_next cores places burst earlier journal one.0 here)
      (subst (λ (n : ℕ). TellJournals n journals others) (sym longer) more) has.1 (subst (λ (n : ℕ). AreReadable n cores places burst journals) (sym longer) readable.1) in
      let bytes : parts_bytes front ++ (parts_bytes others ++ rest) ≡ parts_bytes (front ++ others) ++ rest =
      sym (append_assoc (parts_bytes front) (parts_bytes others) rest) ∙ ap (λ (x : List ℕ). x ++ rest) (sym (flat_map-append part_bytes front others)) in
      let makes = subst (λ (b : List ℕ). MakeDraft (front ++ others) draft b last.0 rest) bytes (makes_then front others draft one.0 last.0 (parts_bytes front ++ (parts_bytes others ++ rest)) (parts_bytes others ++ rest) rest one.1 last.1) in
      subst (λ (ps : List PartView). Comes draft ps rest (earlier ++ journal ∷ journals) []) (sym cut)
      (last.0, makes, subst (λ (js : List (Journal ℕ)). StandsFor cores places burst js [] last.0) (append_assoc earlier (journal ∷ []) journals) last.2)

pub read_back : JournalsAreReadBack
read_back assembly parts spelled tellable tell heads =
    let cores = assembly.cores in
    let places = assembly.cap in
    let burst = assembly.burst in
    let journals = assembly.journals in
    let count = spelled.journals in
    let body = journals_told cores places burst [] (drafted cores places burst [] []) journals parts [] (omega (arith, count)) (stands_itself cores places burst [] [] (omega arith)) tell heads (all_readable assembly spelled tellable) in
    let final = body.0 in
    let all : all_journals (raised_to final.cores final) ≡ journals =
    sym (ap all_journals (raised_closed (final.cores - length final.earlier) final)) ∙ stands_whole cores places burst journals final count body.2 in (
      final,
      record {
        house = house_of assembly;
        behind = parts_bytes parts;
        numbers = house_again (house_of assembly) (parts_bytes parts) spelled.limits;
        limits = spelled.limits;
        parts = parts;
        made = subst (λ (b : List ℕ). MakeDraft parts (house_draft (house_of assembly)) b final []) (append-nil (parts_bytes parts)) body.1;
      },
      sym (same_parts (assembly_of final) assembly (stands_cores body.2) (stands_cap body.2) (stands_burst body.2) all),
    )

-- ---- bytes with a fault are no journals

unfit_not : (why : PartsCause) (draft : Drafted) (part : PartView) → IsUnfit why draft part → Fits draft part → ⊥
unfit_not cause.House draft part unfit fits = unfit
unfit_not (cause.Part told) draft part unfit fits = unfit
unfit_not cause.Actor draft part unfit fits = unfit
unfit_not cause.Before draft part unfit fits = unfit fits.before
unfit_not cause.TooMany draft part unfit fits = let few = fits.few in absurd (omega (arith, unfit.1, few))
unfit_not cause.Note draft part unfit fits = unfit.2 fits.spelled

-- two readings of the same bytes
abbrev read_as : {A : Type 0} → A → Result A PartCause
read_as x = Ok x

read_is : {A : Type 0} (x y : A) → read_as x ≡ read_as y → x ≡ y
read_is x y e = cc

not_next : (why : PartsCause) (draft : Drafted) (part : PartView) → IsNotNext why draft part → IsNext draft part → ⊥
not_next cause.House draft part bad next = unfit_not cause.House (raised_to part.actor draft) part bad.1 next.1
not_next (cause.Part told) draft part bad next = unfit_not (cause.Part told) (raised_to part.actor draft) part bad.1 next.1
not_next cause.Actor draft part bad next = bad next.0
not_next cause.Before draft part bad next = unfit_not cause.Before (raised_to part.actor draft) part bad.1 next.1
not_next cause.TooMany draft part bad next = unfit_not cause.TooMany (raised_to part.actor draft) part bad.1 next.1
not_next cause.Note draft part bad next = unfit_not cause.Note (raised_to part.actor draft) part bad.1 next.1

nothing_read : part_at [] ≡ Err part.Cut
unfolding part_at
nothing_read = refl

-- what is wrong with bytes, by the part that is read in front
abbrev IsBad : PartsCause → Drafted → List ℕ → Type 0
IsBad why draft bytes = (part : PartView) × (rest : List ℕ) × (part_at bytes ≡ Ok (part, rest)) × IsNotNext why draft part

bad_part : (why : PartsCause) (draft : Drafted) (bytes behind : List ℕ) (part : PartView) → IsBad why draft bytes → part_at bytes ≡ Ok (part, behind) → IsNext draft part → ⊥
bad_part why draft bytes behind part (first, rest, read, bad) right next =
    let same = ap (λ (p : PartView × List ℕ). p.0) (read_is (first, rest) (part, behind) (sym read ∙ right)) in
    not_next why draft part (subst (IsNotNext why draft) same bad) next

wrong_part : (why : PartsCause) (draft : Drafted) (bytes behind : List ℕ) (part : PartView) → IsWrong why draft bytes → part_at bytes ≡ Ok (part, behind) → IsNext draft part → ⊥
wrong_part cause.House draft bytes behind part wrong right next = bad_part cause.House draft bytes behind part wrong right next
wrong_part (cause.Part told) draft bytes behind part wrong right next = cc (wrong.1, right)
wrong_part cause.Actor draft bytes behind part wrong right next = bad_part cause.Actor draft bytes behind part wrong right next
wrong_part cause.Before draft bytes behind part wrong right next = bad_part cause.Before draft bytes behind part wrong right next
wrong_part cause.TooMany draft bytes behind part wrong right next = bad_part cause.TooMany draft bytes behind part wrong right next
wrong_part cause.Note draft bytes behind part wrong right next = bad_part cause.Note draft bytes behind part wrong right next

wrong_nothing : (why : PartsCause) (draft : Drafted) → IsWrong why draft [] → ⊥
wrong_nothing cause.House draft wrong = cc (wrong.2, nothing_read)
wrong_nothing (cause.Part told) draft wrong = absurd (omega (arith, wrong.0))
wrong_nothing cause.Actor draft wrong = cc (wrong.2, nothing_read)
wrong_nothing cause.Before draft wrong = cc (wrong.2, nothing_read)
wrong_nothing cause.TooMany draft wrong = cc (wrong.2, nothing_read)
wrong_nothing cause.Note draft wrong = cc (wrong.2, nothing_read)

excluded : (one two : List PartView) (draft made whole : Drafted) (bytes rest : List ℕ) (why : PartsCause) → MakeDraft one draft bytes made rest → IsWrong why made rest → MakeDraft two draft bytes whole [] → ⊥
excluded [] [] draft made whole bytes rest why makes wrong all = wrong_nothing why made (subst (IsWrong why made) (makes.1 ∙ sym all.1) wrong)
excluded [] (part ∷ two) draft made whole bytes rest why makes wrong all =
    wrong_part why draft bytes all.0 part (subst (λ (d : Drafted). IsWrong why d bytes) makes.0 (subst (IsWrong why made) makes.1 wrong)) all.1 all.2
excluded (part ∷ one) [] draft made whole bytes rest why makes wrong all = cc (makes.1, ap part_at (sym all.1), nothing_read)
excluded (part ∷ one) (other ∷ two) draft made whole bytes rest why makes wrong all =
    let both = read_is (other, all.0) (part, makes.0) (sym all.1 ∙ makes.1) in
    let same = ap (λ (p : PartView × List ℕ). p.0) both in
    let behind = ap (λ (p : PartView × List ℕ). p.1) both in
    excluded one two (with_part part draft) made whole makes.0 rest why makes.3 wrong
    (subst (λ (p : PartView). MakeDraft two (with_part p draft) makes.0 whole []) same (subst (λ (b : List ℕ). MakeDraft two (with_part other draft) b whole []) behind all.3))

house_excluded : (bytes rest : List ℕ) (why : PartsCause) (made whole : Drafted) → MakeHouse bytes made rest → IsWrong why made rest → MakeHouse bytes whole [] → ⊥
house_excluded bytes rest why made whole one wrong two =
    let both = some_is (two.house, two.behind) (one.house, one.behind) (sym two.numbers ∙ one.numbers) in
    let same = ap (λ (p : HouseNumbers × List ℕ). p.0) both in
    let behind = ap (λ (p : HouseNumbers × List ℕ). p.1) both in
    excluded one.parts two.parts (house_draft one.house) made whole one.behind rest why one.made wrong
    (subst (λ (h : HouseNumbers). MakeDraft two.parts (house_draft h) one.behind whole []) same (subst (λ (b : List ℕ). MakeDraft two.parts (house_draft two.house) b whole []) behind two.made))

abbrev IsFaultBehind : List ℕ → ℕ → PartsCause → Type 0
IsFaultBehind bytes place why = (draft : Drafted) × (rest : List ℕ) × MakeHouse bytes draft rest × (place + length rest ≡ length bytes) × IsWrong why draft rest

fault_behind : (bytes : List ℕ) (place : ℕ) (why : PartsCause) (assembly : Assembly ℕ) → IsFaultBehind bytes place why → AreJournals bytes assembly → ⊥
fault_behind bytes place why assembly fault are = house_excluded bytes fault.1 why fault.0 are.0 fault.2 fault.4 are.1

pub faulty_are_none : FaultyAreNoJournals
faulty_are_none bytes place cause.House assembly fault are = fault.1 are.1.house are.1.behind are.1.numbers are.1.limits
faulty_are_none bytes place (cause.Part told) assembly fault are = fault_behind bytes place (cause.Part told) assembly fault are
faulty_are_none bytes place cause.Actor assembly fault are = fault_behind bytes place cause.Actor assembly fault are
faulty_are_none bytes place cause.Before assembly fault are = fault_behind bytes place cause.Before assembly fault are
faulty_are_none bytes place cause.TooMany assembly fault are = fault_behind bytes place cause.TooMany assembly fault are
faulty_are_none bytes place cause.Note assembly fault are = fault_behind bytes place cause.Note assembly fault are
