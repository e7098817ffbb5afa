-- Only the text of spelled journals is read.
use Rattle.std.proofs.Common.{◌≡◌, ℕ, zero, suc, ◌+◌, ◌-◌, ◌<◌, ◌==◌, List, [], ◌∷◌, ◌++◌, length, Option, Some, None, Ok, IfSome, unwrap_or, refl, sym, ap, ◌∙◌, subst, arith, length-append}
use Rattle.std.specs.Prelude.{slice_get}
use Rattle.std.specs.List.{slice_split}
use Rattle.std.proofs.lemmas.List.Splits.{join_with_byte-slice_split}
use Rattle.base_words.specs.Assembly.{Assembly}
use Rattle.base_words.specs.Journal.{Journal}
use Rattle.base_words.specs.Spelled.{AreSpelledNotes, IsSpelled}
use Rattle.text_journal.specs.Texts.{form_line, size_line, journal_lines, end_line, text_of, journal_text}
use Rattle.text_journal.specs.Drafts.{Drafted, empty_draft, raised_to, all_journals, assembly_of}
use Rattle.text_journal.specs.Handed.{Handed, assembly_handed, handed_on}
use Rattle.text_journal.specs.JournalTexts.{journals_of}
use Rattle.text_journal.specs.ReadLaws.{OnlyTextsAreRead}
use Rattle.text_journal.specs.Passing.{MakesText}
use Rattle.text_journal.proofs.DraftLemmas.{assembled, passed_count, raised_is}
use Rattle.text_journal.proofs.ReadTexts.{read_from}
use Rattle.text_journal.proofs.SoFar.{terms_at, IsFair, SpelledFrom, spelled_push, body_lines, raised_fair}

spelled_index : (first cores cap burst : ℕ) (journals : List (Journal ℕ)) (place : ℕ) → SpelledFrom first cores cap burst journals → place < length journals → AreSpelledNotes (record { actor = first + place; cores = cores; cap = cap; burst = burst }) (unwrap_or (slice_get journals place) [])
spelled_index first cores cap burst [] place spelled within = absurd (omega arith)
spelled_index first cores cap burst (journal ∷ journals) zero spelled within =
    let here : first ≡ first + 0 = omega arith in
    subst (λ n. AreSpelledNotes (record { actor = n; cores = cores; cap = cap; burst = burst }) journal) here spelled.0
spelled_index first cores cap burst (journal ∷ journals) (suc place) spelled within =
    let next : (first + 1) + place ≡ first + suc place = omega arith in
    subst (λ n. AreSpelledNotes (record { actor = n; cores = cores; cap = cap; burst = burst }) (unwrap_or (slice_get journals place) [])) next
    (spelled_index (first + 1) cores cap burst journals place spelled.1 (omega arith))

-- all journals of a draft that is whole
all_spelled : (draft : Drafted) → IsFair draft → SpelledFrom 0 draft.cores draft.cap draft.burst (all_journals draft)
all_spelled draft fair =
    let here : length draft.earlier ≡ 0 + length draft.earlier = omega arith in
    spelled_push 0 draft.cores draft.cap draft.burst draft.earlier draft.notes fair.before (subst (λ n. AreSpelledNotes (terms_at n draft) draft.notes) here fair.here)

pub assembly_spelled : (draft : Drafted) → IsFair draft → IsSpelled (assembly_of draft)
assembly_spelled draft fair =
    let actors = fair.actors in
    let passed = raised_to draft.cores draft in
    let kept = raised_is (draft.cores - length draft.earlier) draft in
    let rest = raised_fair (draft.cores - length draft.earlier) draft fair (omega arith) in
    let longer = kept.earlier in
    let count : length (all_journals passed) ≡ draft.cores + 1 = omega (arith, length-append passed.earlier (passed.notes ∷ [])) in
    let each : SpelledFrom 0 draft.cores draft.cap draft.burst (all_journals passed) =
    subst (λ n. SpelledFrom 0 n draft.cap draft.burst (all_journals passed)) kept.cores
    (subst (λ n. SpelledFrom 0 passed.cores n draft.burst (all_journals passed)) kept.cap
    (subst (λ n. SpelledFrom 0 passed.cores passed.cap n (all_journals passed)) kept.burst (all_spelled passed rest.0))) in
    record {
      limits = fair.limits;
      journals = count;
      notes = λ actor within.
          let place : 0 + actor ≡ actor = omega arith in
          subst (λ n. AreSpelledNotes (record { actor = n; cores = draft.cores; cap = draft.cap; burst = draft.burst }) (unwrap_or (slice_get (all_journals passed) actor) [])) place
          (spelled_index 0 draft.cores draft.cap draft.burst (all_journals passed) actor each (omega arith));
    }

-- the lines of a draft are those of its journals
assembly_text : (draft : Drafted) → IsFair draft → text_of (body_lines draft ++ end_line ∷ []) ≡ journal_text (assembly_of draft)
unfolding journal_text
assembly_text draft fair =
    let actors = fair.actors in
    let passed = raised_to draft.cores draft in
    let kept = raised_is (draft.cores - length draft.earlier) draft in
    let rest = raised_fair (draft.cores - length draft.earlier) draft fair (omega arith) in
    ap (λ body. text_of (body ++ end_line ∷ [])) (
    sym rest.1
    ∙ ap (λ n. form_line passed.burst ∷ size_line n passed.cap passed.burst ∷ journal_lines 0 (all_journals passed)) kept.cores
    ∙ ap (λ n. form_line passed.burst ∷ size_line draft.cores n passed.burst ∷ journal_lines 0 (all_journals passed)) kept.cap
    ∙ ap (λ n. form_line n ∷ size_line draft.cores draft.cap n ∷ journal_lines 0 (all_journals passed)) kept.burst)

pub only_texts : OnlyTextsAreRead
only_texts text draft told =
    let read = read_from 1 empty_draft draft (slice_split (λ byte. byte == 10) text) refl told in
    (assembly_spelled draft read.0, sym (join_with_byte-slice_split 10 text) ∙ sym read.1 ∙ assembly_text draft read.0)

-- the journals that were handed on are those of the draft
pub assembly_passed : (draft : Drafted) → assembly_of draft ≡ assembly_handed (handed_on (raised_to draft.cores draft))
assembly_passed draft =
    let passed = raised_to draft.cores draft in
    sym (assembled draft passed passed.cores passed.cap passed.burst (passed.earlier ++ passed.notes ∷ []) passed.notes refl refl refl refl refl refl)

-- what was handed on of a text that is known
pub handed_text : {W : Type 0} (makes : W → Handed → Type 0) (whole : W) (known : Option (List ℕ)) →
    IfSome known (λ text. (draft : Drafted) × (journals_of text ≡ Ok draft) × makes whole (handed_on (raised_to draft.cores draft))) → IfSome known (MakesText makes whole)
handed_text makes whole None told = tt
handed_text makes whole (Some text) (draft, is, made) =
    let read = read_from 1 empty_draft draft (slice_split (λ byte. byte == 10) text) refl is in
    let fair : IsFair draft = read.0 in
    let kept = raised_is (draft.cores - length draft.earlier) draft in
    let texts = only_texts text draft is in (
      handed_on (raised_to draft.cores draft),
      passed_count draft fair.actors ∙ sym kept.cores,
      subst IsSpelled (assembly_passed draft) texts.0,
      texts.1 ∙ ap journal_text (assembly_passed draft),
      made,
    )

-- the journals that a taker kept
pub kept_text : (known : Option (List ℕ)) (assembly : Assembly ℕ) → IfSome known (MakesText (λ kept handed. kept ≡ assembly_handed handed) assembly) →
    IfSome known (λ text. IsSpelled assembly × (text ≡ journal_text assembly))
kept_text None assembly told = tt
kept_text (Some text) assembly (handed, last, spelled, same, made) = (subst IsSpelled (sym made) spelled, same ∙ ap journal_text (sym made))
