-- The text of an outcome tells that outcome.
use Rattle.std.proofs.Common.{◌≡◌, ℕ, true, List, [], ◌∷◌, Some, None, refl, ap, ◌∙◌, subst, arith, decimal, codes}
use Rattle.std.specs.Option.{option_map}
use Rattle.std.specs.Str.{bytes_eq}
use Rattle.base_words.specs.declared.note.OutcomeNote.{OutcomeNote}
use Rattle.base_words.specs.declared.note.OutcomeNote.TheVariants as outcome
use Rattle.base_words.specs.Spelled.{IsSpelledOutcome}
use Rattle.text_words.specs.Notes.{reason_text}
use Rattle.text_words.specs.Words.{first, others, second}
use Rattle.text_journal.specs.Fields.{count_of, reason_of, back_reason_of, return_reason_of}
use Rattle.text_journal.specs.Phrases.{last, answer_of, outcome_of}
use Rattle.text_journal.specs.Laws.{HoldsOut}
use Rattle.text_journal.proofs.Decimals.{number_in_read, number_in_text, number_in-none}
use Rattle.text_journal.proofs.FieldTexts.{reason_read, reason_text_read}
use Rattle.text_journal.proofs.Options.{either, map_some, chosen, told, alone, keyed}
use Rattle.text_journal.proofs.PhraseTexts.{answer_words, answer_read, answer_text_read}

abbrev pub outcome_words : OutcomeNote ℕ → List (List ℕ)
outcome_words (outcome.Finished out) = codes "finished" ∷ decimal out ∷ []
outcome_words (outcome.Returned why) = codes "returned" ∷ reason_text why ∷ []
outcome_words (outcome.Answered told) = codes "answered" ∷ answer_words told

abbrev OutcomeIs : List (List ℕ) → OutcomeNote ℕ → Type 0
OutcomeIs ws told = (ws ≡ outcome_words told) × IsSpelledOutcome told

reason_of-none : reason_of [] ≡ None
unfolding reason_of back_reason_of return_reason_of
reason_of-none = refl

finished_read : (ws : List (List ℕ)) (o : OutcomeNote ℕ) → bytes_eq (first ws) (codes "finished") ≡ true → option_map outcome.Finished (last (count_of (second ws)) (others (others ws))) ≡ Some o → OutcomeIs ws o
finished_read ws o key is =
    let one = map_some outcome.Finished (last (count_of (second ws)) (others (others ws))) o is in
    let rest = alone count_of (others ws) one.0 (number_in-none 0 18446744073709551615) one.1 in
    let read = number_in_read 0 18446744073709551615 (second ws) one.0 (omega arith) rest.0 in
    subst (OutcomeIs ws) one.2
    (keyed (codes "finished") ws (omega arith) key ∙ ap (λ words. codes "finished" ∷ words) (rest.1 ∙ ap (λ word. word ∷ []) read.2), tt)

handed_read : (ws : List (List ℕ)) (o : OutcomeNote ℕ) → bytes_eq (first ws) (codes "returned") ≡ true → option_map outcome.Returned (last (reason_of (second ws)) (others (others ws))) ≡ Some o → OutcomeIs ws o
handed_read ws o key is =
    let one = map_some outcome.Returned (last (reason_of (second ws)) (others (others ws))) o is in
    let rest = alone reason_of (others ws) one.0 reason_of-none one.1 in
    subst (OutcomeIs ws) one.2
    (keyed (codes "returned") ws (omega arith) key ∙ ap (λ words. codes "returned" ∷ words) (rest.1 ∙ ap (λ word. word ∷ []) (reason_read (second ws) one.0 rest.0)), tt)

answered_read : (ws : List (List ℕ)) (o : OutcomeNote ℕ) → bytes_eq (first ws) (codes "answered") ≡ true → option_map outcome.Answered (answer_of (others ws)) ≡ Some o → OutcomeIs ws o
answered_read ws o key is =
    let one = map_some outcome.Answered (answer_of (others ws)) o is in
    let read = answer_read (others ws) one.0 one.1 in
    subst (OutcomeIs ws) one.2 (keyed (codes "answered") ws (omega arith) key ∙ ap (λ words. codes "answered" ∷ words) read.0, read.1)

pub outcome_read : (ws : List (List ℕ)) (o : OutcomeNote ℕ) → outcome_of ws ≡ Some o → OutcomeIs ws o
unfolding outcome_of
outcome_read ws o is =
    either (chosen (bytes_eq (first ws) (codes "finished")) _ _ o is) (λ h. finished_read ws o h.0 h.1)
    (λ more. either (chosen (bytes_eq (first ws) (codes "returned")) _ _ o more.1) (λ h. handed_read ws o h.0 h.1)
    (λ last. either (chosen (bytes_eq (first ws) (codes "answered")) _ _ o last.1) (λ h. answered_read ws o h.0 h.1) (λ none. cc)))

pub outcome_text_read : (o : OutcomeNote ℕ) → IsSpelledOutcome o → HoldsOut o → outcome_of (outcome_words o) ≡ Some o
unfolding outcome_of
outcome_text_read (outcome.Finished out) spelled fits = ap (option_map outcome.Finished) (number_in_text 0 18446744073709551615 out (omega arith) (omega arith) (omega arith))
outcome_text_read (outcome.Returned why) spelled fits = ap (option_map outcome.Returned) (reason_text_read why)
outcome_text_read (outcome.Answered told) spelled fits = ap (option_map outcome.Answered) (answer_text_read told spelled)
