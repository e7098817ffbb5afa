-- The first two lines of a text.
use Rattle.std.proofs.Common.{◌≡◌, ℕ, ◌≤◌, Bool, true, false, cond, ltb, List, [], ◌∷◌, length, Option, Some, Ok, Err, refl, ap, sym, ◌∙◌, subst, arith, codes, decimal}
use Rattle.std.proofs.lemmas.Bool.Decides.{nat_tests}
use Rattle.std.proofs.lemmas.Fmt.{length-decimal-le_wide}
use Rattle.base_words.specs.Bursts.{has_bursts}
use Rattle.base_words.specs.Spelled.{IsWithinLimits}
use Rattle.text_words.specs.Words.{words}
use Rattle.text_journal.specs.Fields.{◌>>=◌, number_in}
use Rattle.text_journal.proofs.Decimals.{number_in_text}
use Rattle.text_journal.proofs.LineShapes.{width, joined_none, joined_width}
use Rattle.text_journal.proofs.LineTexts.{words_joined}
use Rattle.text_journal.proofs.WholeWords.{HasNo, HaveNo, number_word, whole_word}
use Rattle.text_journal.specs.Texts.{form_line, size_line}
use Rattle.text_journal.specs.Drafts.{Drafted, empty_draft, form_of, with_size, burst_of, size_of, with_text, judged, too_long}
use Rattle.text_journal.proofs.Raising.{drafted}
use Rattle.text_journal.proofs.ReadTexts.{sized}
use Rattle.text_journal.proofs.SizeWords.{burst_words, size_words, size_joined}

-- a line that isn't too long
pub judged_short : (draft : Drafted) (line : List ℕ) → length line ≤ 128 → judged draft line ≡ with_text draft.part draft line
judged_short draft line short =
    let test : ltb 128 (length line) ≡ false = grind (arith, nat_tests) in
    ap (λ b. cond b (Err (too_long draft.part)) (with_text draft.part draft line)) test

-- the first line
first_line_said : (several : Bool) → judged empty_draft (cond several (codes "journal 2") (codes "journal 1")) ≡ Ok (sized (cond several 2 1))
unfolding form_of
first_line_said false = refl
first_line_said true = refl

-- the least burst of a form
abbrev pub least_burst : ℕ → ℕ
least_burst burst = cond (has_bursts burst) 2 1

pub form_taken : (burst : ℕ) → judged empty_draft (form_line burst) ≡ Ok (sized (least_burst burst))
form_taken burst = first_line_said (has_bursts burst)

-- the last words of the second line
end_have : (sign burst : ℕ) → sign ≤ 32 → burst ≤ 64 → (several : Bool) → HaveNo sign (cond several (codes "burst" ∷ decimal burst ∷ []) [])
end_have sign burst low few false = tt
end_have sign burst low few true = (whole_word sign low (codes "burst") refl, (number_word sign low burst (omega arith), tt))

end_short : (burst : ℕ) → burst ≤ 64 → (several : Bool) → width (cond several (codes "burst" ∷ decimal burst ∷ []) []) ≤ 9
end_short burst few false = omega arith
end_short burst few true = omega (arith, length-decimal-le_wide 2 burst (omega arith) (omega arith) (omega arith))

end_said : (burst : ℕ) → 1 ≤ burst → burst ≤ 64 → (several : Bool) → has_bursts burst ≡ several → burst_of (cond several 2 1) (cond several (codes "burst" ∷ decimal burst ∷ []) []) ≡ Some burst
unfolding burst_of
end_said burst some few false e = let single : 1 ≡ burst = grind (arith, nat_tests, e, some) in ap Some single
end_said burst some few true e = number_in_text 2 64 burst (grind (arith, nat_tests, e)) few (omega arith)

-- the second line
size_have : (sign cores places burst : ℕ) → sign ≤ 32 → IsWithinLimits cores places burst → HaveNo sign (size_words cores places burst)
size_have sign cores places burst low limits =
    let few = limits.few_cores in
    let most = limits.few_places in (
      whole_word sign low (codes "cores") refl,
      (
        number_word sign low cores (omega arith),
        (whole_word sign low (codes "cap") refl, (number_word sign low places (omega arith), end_have sign burst low limits.few_polls (has_bursts burst))),
      ),
    )

size_of_words : (cores places burst : ℕ) → IsWithinLimits cores places burst → size_of (least_burst burst) (size_words cores places burst) ≡ Some (cores, places, burst)
unfolding size_of
size_of_words cores places burst limits =
    let end = burst_of (least_burst burst) (burst_words burst) in
    ap (λ (o : Option ℕ). o >>= λ c. number_in 1 1024 (decimal places) >>= λ k. end >>= λ b. Some (c, k, b)) (number_in_text 1 16 cores limits.some_core limits.few_cores (omega arith))
    ∙ ap (λ (o : Option ℕ). o >>= λ k. end >>= λ b. Some (cores, k, b)) (number_in_text 1 1024 places limits.some_place limits.few_places (omega arith))
    ∙ ap (λ (o : Option ℕ). o >>= λ b. Some (cores, places, b)) (end_said burst limits.some_poll limits.few_polls (has_bursts burst) refl)

size_short : (cores places burst : ℕ) → IsWithinLimits cores places burst → length (size_line cores places burst) ≤ 128
size_short cores places burst limits =
    let few = limits.few_cores in
    let most = limits.few_places in
    omega (
      arith,
      ap length (size_joined cores places burst),
      joined_width (codes "cores") (decimal cores ∷ codes "cap" ∷ decimal places ∷ burst_words burst),
      length-decimal-le_wide 2 cores (omega arith) (omega arith) (omega arith),
      length-decimal-le_wide 4 places (omega arith) (omega arith) (omega arith),
      end_short burst limits.few_polls (has_bursts burst),
    )

pub size_taken : (cores places burst : ℕ) → IsWithinLimits cores places burst → judged (sized (least_burst burst)) (size_line cores places burst) ≡ Ok (drafted cores places burst [] [])
size_taken cores places burst limits =
    let form = least_burst burst in
    judged_short (sized form) (size_line cores places burst) (size_short cores places burst limits)
    ∙ ap (λ line. with_size (sized form) (size_of form (words line))) (size_joined cores places burst)
    ∙ ap (λ ws. with_size (sized form) (size_of form ws)) (words_joined (codes "cores") (decimal cores ∷ codes "cap" ∷ decimal places ∷ burst_words burst) (size_have 32 cores places burst (omega arith) limits))
    ∙ ap (with_size (sized form)) (size_of_words cores places burst limits)

-- no line feed stands in them
form_feedless : (several : Bool) → HasNo 10 (cond several (codes "journal 2") (codes "journal 1"))
form_feedless false = joined_none 10 (codes "journal") (codes "1" ∷ []) refl (whole_word 10 (omega arith) (codes "journal") refl, (whole_word 10 (omega arith) (codes "1") refl, tt))
form_feedless true = joined_none 10 (codes "journal") (codes "2" ∷ []) refl (whole_word 10 (omega arith) (codes "journal") refl, (whole_word 10 (omega arith) (codes "2") refl, tt))

pub head_feedless : (cores places burst : ℕ) → IsWithinLimits cores places burst → HasNo 10 (form_line burst) × HasNo 10 (size_line cores places burst)
head_feedless cores places burst limits = (
  form_feedless (has_bursts burst),
  subst (HasNo 10) (sym (size_joined cores places burst)) (joined_none 10 (codes "cores") (decimal cores ∷ codes "cap" ∷ decimal places ∷ burst_words burst) refl (size_have 10 cores places burst (omega arith) limits)),
)
