-- The text of journals tells these journals.
use Rattle.std.proofs.Common.{◌≡◌, ℕ, suc, ◌+◌, ◌^◌, ◌<◌, ◌≤◌, ◌==◌, Bool, true, false, cond, ltb, inr, List, [], ◌∷◌, ◌++◌, length, Some, Ok, Err, unwrap_or, refl, sym, ap, ◌∙◌, subst, arith, append_assoc, append-nil, codes, decimal, length-append}
use Rattle.std.specs.Prelude.{slice_get}
use Rattle.std.specs.List.{slice_split}
use Rattle.std.specs.Str.{bytes_eq}
use Rattle.std.proofs.lemmas.Bool.Decides.{nat_tests}
use Rattle.std.proofs.lemmas.List.Elements.{All-head}
use Rattle.std.proofs.lemmas.List.Splits.{slice_split_at}
use Rattle.base_words.specs.declared.note.Note.{Note}
use Rattle.base_words.specs.Assembly.{Assembly}
use Rattle.base_words.specs.Journal.{Journal, EachNote}
use Rattle.base_words.specs.Limits.{most_cores, most_notes}
use Rattle.base_words.specs.Spelled.{IsSpelled, IsSpelledNote, AreSpelledNotes}
use Rattle.base_words.specs.Terms.{Terms}
use Rattle.text_words.specs.Notes.{note_line}
use Rattle.text_words.specs.Words.{words, first, others}
use Rattle.text_journal.specs.Fields.{number_in}
use Rattle.text_journal.specs.Laws.{HoldsTimes, IsActor}
use Rattle.text_journal.specs.NoteWords.{note_of}
use Rattle.text_journal.proofs.Decimals.{number_in_text, no_sign}
use Rattle.text_journal.proofs.LineShapes.{line_short, line_feedless}
use Rattle.text_journal.proofs.LineTexts.{line_tells}
use Rattle.text_journal.proofs.Options.{same_bytes}
use Rattle.text_journal.proofs.WholeWords.{HasNo, whole_word}
use Rattle.text_journal.specs.Texts.{end_line, actor_lines, journal_lines, assembly_lines, text_of, journal_text}
use Rattle.text_journal.specs.declared.draft.Part.TheVariants as part
use Rattle.text_journal.specs.declared.fault.JournalCause.TheVariants as cause
use Rattle.text_journal.specs.Drafts.{Drafted, empty_draft, with_text, judged, assembly_of}
use Rattle.text_bytes.specs.Texts.{go_on, judged_from}
use Rattle.text_journal.specs.JournalTexts.{whole, judge}
use Rattle.text_journal.specs.ReadLaws.{IsTellable, TextIsReadBack}
use Rattle.text_journal.proofs.DraftLemmas.{line_read}
use Rattle.text_journal.proofs.HeadLines.{judged_short, least_burst, form_taken, size_taken, head_feedless}
use Rattle.text_journal.proofs.Raising.{drafted, StandsFor, stands_part, stands_cores, stands_cap, stands_burst, stands_itself, stands_next, closed, stands_whole}
use Rattle.text_journal.proofs.ReadTexts.{sized}
use Rattle.text_journal.proofs.SoFar.{actor_lines-more}

-- the lines are taken one after another, and leave this draft
abbrev pub Takes : Drafted → List (List ℕ) → Drafted → Type 0
Takes draft [] final = draft ≡ final
Takes draft (line ∷ lines) final = (taken : Drafted) × (judged draft line ≡ Ok taken) × Takes taken lines final

takes_then : (draft middle final : Drafted) (one two : List (List ℕ)) → Takes draft one middle → Takes middle two final → Takes draft (one ++ two) final
takes_then draft middle final [] two first rest = subst (λ d. Takes d two final) (sym first) rest
takes_then draft middle final (line ∷ one) two first rest = (first.0, first.1, takes_then first.0 middle final one two first.2 rest)

-- lines that are taken, up to the end of the text
takes_judged : (number : ℕ) (draft final : Drafted) (lines : List (List ℕ)) → final.part ≡ part.After → Takes draft lines final → judged_from judge number draft (lines ++ [] ∷ []) ≡ Ok final
takes_judged number draft final [] after takes = ap (λ d. whole number d d.part) takes ∙ ap (whole number final) after
takes_judged number draft final (line ∷ []) after takes =
    ap (λ r. go_on number r (λ taken. judged_from judge (number + 1) taken ([] ∷ []))) takes.1
    ∙ takes_judged (number + 1) takes.0 final [] after takes.2
takes_judged number draft final (line ∷ next ∷ lines) after takes =
    ap (λ r. go_on number r (λ taken. judged_from judge (number + 1) taken (next ∷ (lines ++ [] ∷ [])))) takes.1
    ∙ takes_judged (number + 1) takes.0 final (next ∷ lines) after takes.2

-- no line has a line feed
abbrev pub AreFeedless : List (List ℕ) → Type 0
AreFeedless [] = Unit {0}
AreFeedless (line ∷ lines) = HasNo 10 line × AreFeedless lines

feedless_then : (one two : List (List ℕ)) → AreFeedless one → AreFeedless two → AreFeedless (one ++ two)
feedless_then [] two first rest = rest
feedless_then (line ∷ one) two first rest = (first.0, feedless_then one two first.1 rest)

pub split_lines : (lines : List (List ℕ)) → AreFeedless lines → slice_split (λ byte. byte == 10) (text_of lines) ≡ lines ++ [] ∷ []
split_lines [] are = refl
split_lines (line ∷ lines) are =
    ap (slice_split (λ byte. byte == 10)) (append_assoc line (codes "\n") (text_of lines))
    ∙ slice_split_at (λ byte. byte == 10) line 10 (text_of lines) are.0 refl
    ∙ ap (λ parts. line ∷ parts) (split_lines lines are.1)

-- the line of a note isn't `end`, since a number comes first
not_end : (actor : ℕ) (line : List ℕ) (ws : List (List ℕ)) → actor < 10 ^ 64 → words line ≡ decimal actor ∷ ws → bytes_eq line (codes "end") ≡ false
not_end actor line ws small read = of_test (bytes_eq line (codes "end")) refl
  where
    letters : decimal actor ≡ codes "end" → ⊥
    letters same =
        let none = subst (HasNo 101) same (no_sign 101 actor small (inr (omega arith))) in
        let bad : true ≡ false = All-head (λ byte. (byte == 101) ≡ false) 101 (110 ∷ 100 ∷ []) none in
        cc

    of_test : (b : Bool) → bytes_eq line (codes "end") ≡ b → bytes_eq line (codes "end") ≡ false
    of_test false e = e
    of_test true e = absurd (letters (ap first (sym read ∙ ap words (same_bytes line (codes "end") e))))

-- what an actor's journal has to be for its lines to be read
pub record IsReadable (terms : Terms) (journal : Journal ℕ) : Type 0 where
  pub spelled : AreSpelledNotes terms journal
  pub times : EachNote (λ note before. HoldsTimes note) journal
  pub few : length journal ≤ most_notes

abbrev pub AreReadable : ℕ → ℕ → ℕ → ℕ → List (Journal ℕ) → Type 0
AreReadable actor cores places burst [] = Unit {0}
AreReadable actor cores places burst (journal ∷ journals) = IsReadable (record { actor = actor; cores = cores; cap = places; burst = burst }) journal × AreReadable (actor + 1) cores places burst journals

-- one note
note_taken : (cores places burst : ℕ) (earlier : List (Journal ℕ)) (before : Journal ℕ) (draft : Drafted) (note : Note ℕ) → 1 ≤ cores → cores ≤ most_cores → length earlier ≤ cores → length before < most_notes →
    IsSpelledNote (record { actor = length earlier; cores = cores; cap = places; burst = burst }) note → HoldsTimes note → StandsFor cores places burst earlier before draft →
    judged draft (note_line (length earlier) note) ≡ Ok (drafted cores places burst earlier (note ∷ before))
note_taken cores places burst earlier before draft note some few within room spelled times stands =
    let terms : Terms = record { actor = length earlier; cores = cores; cap = places; burst = burst } in
    let line = note_line (length earlier) note in
    let here : IsActor terms = (some, few, within) in
    let told = line_tells terms note here spelled times in
    let actors = stands.actors in
    let cores_is = stands_cores stands in
    let burst_is = stands_burst stands in
    let number : number_in (length draft.earlier) draft.cores (first (words line)) ≡ Some (length earlier) =
    ap (λ ws. number_in (length draft.earlier) draft.cores (first ws)) told.1 ∙ number_in_text (length draft.earlier) draft.cores (length earlier) actors (omega arith) (omega arith) in
    let read : Some note ≡ note_of (length earlier) draft.cores draft.burst (others (words line)) =
    sym (ap (λ ws. note_of (length earlier) draft.cores draft.burst (others ws)) told.1 ∙ ap (λ n. note_of (length earlier) n draft.burst told.0) cores_is ∙ ap (λ n. note_of (length earlier) cores n told.0) burst_is ∙ told.2) in
    let test : ltb (length before) most_notes ≡ true = grind (arith, nat_tests, room) in
    judged_short draft line (line_short terms note here spelled times)
    ∙ ap (λ p. with_text p draft line) (stands_part stands)
    ∙ line_read draft (drafted cores places burst earlier before) line (length earlier) (Some note) (not_end (length earlier) line told.0 (omega arith) told.1) number (sym stands.same) read
    ∙ ap (λ b. cond b (Ok (drafted cores places burst earlier (note ∷ before))) (Err cause.TooMany)) test

-- the notes of one actor
abbrev Comes : ℕ → ℕ → ℕ → Drafted → List (List ℕ) → List (Journal ℕ) → Journal ℕ → Type 0
Comes cores places burst draft lines earlier notes = (final : Drafted) × Takes draft lines final × StandsFor cores places burst earlier notes final

notes_taken : (cores places burst : ℕ) (earlier : List (Journal ℕ)) (draft : Drafted) → 1 ≤ cores → cores ≤ most_cores → length earlier ≤ cores → StandsFor cores places burst earlier [] draft →
    (journal : Journal ℕ) → IsReadable (record { actor = length earlier; cores = cores; cap = places; burst = burst }) journal → Comes cores places burst draft (actor_lines (length earlier) journal) earlier journal
notes_taken cores places burst earlier draft some few within stands [] readable = (draft, refl, stands)
notes_taken cores places burst earlier draft some few within stands (note ∷ before) readable =
    let short = readable.few in
    let rest = notes_taken cores places burst earlier draft some few within stands before (record { spelled = readable.spelled.1; times = readable.times.1; few = omega (arith, short) }) in
    let last = note_taken cores places burst earlier before rest.0 note some few within (omega (arith, short)) readable.spelled.0 readable.times.0 rest.2 in
    let next : Drafted = drafted cores places burst earlier (note ∷ before) in (
      next,
      subst (λ lines. Takes draft lines next) (sym (actor_lines-more (length earlier) note before))
          (takes_then draft rest.0 next (actor_lines (length earlier) before) (note_line (length earlier) note ∷ []) rest.1 (next, last, refl)),
      stands_itself cores places burst earlier (note ∷ before) within,
    )

-- the notes of all actors from one on
journals_taken : (cores places burst : ℕ) (earlier : List (Journal ℕ)) (draft : Drafted) → 1 ≤ cores → cores ≤ most_cores → (journals : List (Journal ℕ)) → length earlier + length journals ≤ cores + 1 → StandsFor cores places burst earlier [] draft →
    AreReadable (length earlier) cores places burst journals → Comes cores places burst draft (journal_lines (length earlier) journals) (earlier ++ journals) []
journals_taken cores places burst earlier draft some few [] within stands readable =
    (draft, refl, subst (λ js. StandsFor cores places burst js [] draft) (sym (append-nil earlier)) stands)
journals_taken cores places burst earlier draft some few (journal ∷ journals) within stands readable =
    let one = notes_taken cores places burst earlier draft some few (omega (arith, within)) stands journal readable.0 in
    let longer : length (earlier ++ journal ∷ []) ≡ length earlier + 1 = omega (arith, length-append earlier (journal ∷ [])) in
    let rest = journals_taken cores places burst (earlier ++ journal ∷ []) one.0 some few journals (omega (arith, within, longer)) (stands_next cores places burst earlier journal one.0 one.2)
    (subst (λ n. AreReadable n cores places burst journals) (sym longer) readable.1) in (
      rest.0,
      takes_then draft one.0 rest.0 (actor_lines (length earlier) journal) (journal_lines (length earlier + 1) journals) one.1
          (subst (λ n. Takes one.0 (journal_lines n journals) rest.0) longer rest.1),
      subst (λ js. StandsFor cores places burst js [] rest.0) (append_assoc earlier (journal ∷ []) journals) rest.2,
    )

feedless_notes : (terms : Terms) (journal : Journal ℕ) → IsActor terms → IsReadable terms journal → AreFeedless (actor_lines terms.actor journal)
feedless_notes terms [] here readable = tt
feedless_notes terms (note ∷ before) here readable =
    let short = readable.few in
    subst AreFeedless (sym (actor_lines-more terms.actor note before))
    (feedless_then (actor_lines terms.actor before) (note_line terms.actor note ∷ [])
    (feedless_notes terms before here (record { spelled = readable.spelled.1; times = readable.times.1; few = omega (arith, short) }))
    (line_feedless terms note here readable.spelled.0 readable.times.0, tt))

feedless_journals : (actor cores places burst : ℕ) (journals : List (Journal ℕ)) → 1 ≤ cores → cores ≤ most_cores → actor + length journals ≤ cores + 1 → AreReadable actor cores places burst journals → AreFeedless (journal_lines actor journals)
feedless_journals actor cores places burst [] some few within readable = tt
feedless_journals actor cores places burst (journal ∷ journals) some few within readable =
    feedless_then (actor_lines actor journal) (journal_lines (actor + 1) journals)
    (feedless_notes (record { actor = actor; cores = cores; cap = places; burst = burst }) journal (some, few, omega (arith, within)) readable.0)
    (feedless_journals (actor + 1) cores places burst journals some few (omega (arith, within)) readable.1)

-- each journal by its place
readable_from : (actor cores places burst : ℕ) (journals : List (Journal ℕ)) →
    ((place : ℕ) → place < length journals → IsReadable (record { actor = actor + place; cores = cores; cap = places; burst = burst }) (unwrap_or (slice_get journals place) [])) → AreReadable actor cores places burst journals
readable_from actor cores places burst [] each = tt
readable_from actor cores places burst (journal ∷ journals) each =
    let here : actor + 0 ≡ actor = omega arith in (
      subst (λ n. IsReadable (record { actor = n; cores = cores; cap = places; burst = burst }) journal) here (each 0 (omega arith)),
      readable_from (actor + 1) cores places burst journals (λ place within.
          let next : actor + suc place ≡ (actor + 1) + place = omega arith in
          subst (λ n. IsReadable (record { actor = n; cores = cores; cap = places; burst = burst }) (unwrap_or (slice_get journals place) [])) next (each (suc place) (omega (arith, within)))),
    )

end_taken : (draft : Drafted) → draft.part ≡ part.Notes → judged draft end_line ≡ Ok (closed draft)
end_taken draft at = ap (λ p. with_text p draft end_line) at

pub same_parts : (one two : Assembly ℕ) → one.cores ≡ two.cores → one.cap ≡ two.cap → one.burst ≡ two.burst → one.journals ≡ two.journals → one ≡ two
same_parts one two cores_are caps_are bursts_are journals_are = λ i. record { cores = cores_are i; cap = caps_are i; burst = bursts_are i; journals = journals_are i }

pub all_readable : (assembly : Assembly ℕ) → IsSpelled assembly → IsTellable assembly → AreReadable 0 assembly.cores assembly.cap assembly.burst assembly.journals
all_readable assembly spelled tellable = readable_from 0 assembly.cores assembly.cap assembly.burst assembly.journals (λ place within.
    let count = spelled.journals in
    let here : 0 + place ≡ place = omega arith in
    let actor : place ≤ assembly.cores = omega (arith, within, count) in
    subst (λ n. IsReadable (record { actor = n; cores = assembly.cores; cap = assembly.cap; burst = assembly.burst }) (unwrap_or (slice_get assembly.journals place) [])) (sym here)
    (record { spelled = spelled.notes place actor; times = tellable.times place actor; few = tellable.few place actor }))

pub read_back : TextIsReadBack
unfolding journal_text
read_back assembly spelled tellable =
    let cores = assembly.cores in
    let places = assembly.cap in
    let burst = assembly.burst in
    let journals = assembly.journals in
    let limits = spelled.limits in
    let some = limits.some_core in
    let few = limits.few_cores in
    let count = spelled.journals in
    let each = all_readable assembly spelled tellable in
    let body = journals_taken cores places burst [] (drafted cores places burst [] []) some few journals (omega (arith, count)) (stands_itself cores places burst [] [] (omega arith)) each in
    let final = closed body.0 in
    let at = stands_part body.2 in
    let takes : Takes empty_draft (assembly_lines assembly) final = (
      sized (least_burst burst),
      form_taken burst,
      (
        drafted cores places burst [] [],
        size_taken cores places burst limits,
        takes_then (drafted cores places burst [] []) body.0 final (journal_lines 0 journals) (end_line ∷ []) body.1 (final, end_taken body.0 at, refl),
      ),
    ) in
    let heads = head_feedless cores places burst limits in
    let feedless : AreFeedless (assembly_lines assembly) =
    (heads.0, (heads.1, feedless_then (journal_lines 0 journals) (end_line ∷ []) (feedless_journals 0 cores places burst journals some few (omega (arith, count)) each) (whole_word 10 (omega arith) end_line refl, tt))) in (
      final,
      ap (judged_from judge 1 empty_draft) (split_lines (assembly_lines assembly) feedless) ∙ takes_judged 1 empty_draft final (assembly_lines assembly) refl takes,
      same_parts (assembly_of final) assembly (stands_cores body.2) (stands_cap body.2) (stands_burst body.2) (stands_whole cores places burst journals body.0 count body.2),
    )
