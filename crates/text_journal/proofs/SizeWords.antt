-- The second line as words.
use Rattle.std.proofs.Common.{◌≡◌, ℕ, Bool, true, false, cond, List, [], ◌∷◌, ◌++◌, ap, ◌∙◌, append_assoc, append-nil, codes, decimal}
use Rattle.base_words.specs.Bursts.{has_bursts}
use Rattle.text_journal.proofs.JoinedTexts.{joined}
use Rattle.text_journal.specs.Texts.{size_line}

-- its last words, which only the second form has
abbrev pub burst_words : ℕ → List (List ℕ)
burst_words burst = cond (has_bursts burst) (codes "burst" ∷ decimal burst ∷ []) []

abbrev pub size_words : ℕ → ℕ → ℕ → List (List ℕ)
size_words cores places burst = codes "cores" ∷ decimal cores ∷ codes "cap" ∷ decimal places ∷ burst_words burst

-- the line is its words, a space between two
pub size_joined : (cores places burst : ℕ) → size_line cores places burst ≡ joined (size_words cores places burst)
size_joined cores places burst = by_form (has_bursts burst)
  where
    by_form : (several : Bool) → codes "cores " ++ decimal cores ++ codes " cap " ++ decimal places ++ cond several (codes " burst " ++ decimal burst) []
        ≡ joined (codes "cores" ∷ decimal cores ∷ codes "cap" ∷ decimal places ∷ cond several (codes "burst" ∷ decimal burst ∷ []) [])
    by_form false =
        append-nil (codes "cores " ++ decimal cores ++ codes " cap " ++ decimal places)
        ∙ ap (λ text. codes "cores " ++ text) (append_assoc (decimal cores) (codes " cap ") (decimal places))
    by_form true =
        ap (λ text. codes "cores " ++ text)
        (append_assoc (decimal cores ++ codes " cap ") (decimal places) (codes " burst " ++ decimal burst)
        ∙ append_assoc (decimal cores) (codes " cap ") (decimal places ++ (codes " burst " ++ decimal burst)))
