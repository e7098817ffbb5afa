-- A text: what stands between its line feeds, judged part after part.
use Rattle.std.specs.Prelude.{ℕ, ◌+◌, ◌++◌, List, [], ◌∷◌, Result, Ok, Err}
use Rattle.std.specs.List.{slice_split}
use Rattle.text_bytes.specs.Feeds.{is_feed}

-- the most bytes of a line; what comes of a line that ends with a line feed, by its number from 1; what comes of the text if it ends with
-- these bytes behind its last line feed, or its first faulty line and the cause
pub record Judge (D C : Type 0) : Type 0 where
  pub longest : ℕ
  pub judged : D → ℕ → List ℕ → Result D C
  pub at_end : D → ℕ → List ℕ → Result D (ℕ × C)

-- what comes of a line, and then of those after it
abbrev pub go_on : {D C : Type 0} → ℕ → Result D C → (D → Result D (ℕ × C)) → Result D (ℕ × C)
go_on number (Ok draft) others = others draft
go_on number (Err cause) others = Err (number, cause)

-- what stands between the line feeds, from the line of this number on
abbrev pub judged_from : {D C : Type 0} → Judge D C → ℕ → D → List (List ℕ) → Result D (ℕ × C)
judged_from judge number draft [] = judge.at_end draft number []
judged_from judge number draft (rest ∷ []) = judge.at_end draft number rest
judged_from judge number draft (line ∷ next ∷ others) = go_on number (judge.judged draft number line) (λ taken. judged_from judge (number + 1) taken (next ∷ others))

-- what comes of a text, or its first faulty line
abbrev pub text_judged : {D C : Type 0} → Judge D C → D → List ℕ → Result D (ℕ × C)
text_judged judge draft text = judged_from judge 1 draft (slice_split is_feed text)

-- a text in the middle: the draft so far, the number of the line that is begun, and as much as is read of it
pub record Reading (D : Type 0) : Type 0 where
  pub draft : D
  pub number : ℕ
  pub line : List ℕ

-- what comes of a text whose rest is this
abbrev pub text_from : {D C : Type 0} → Judge D C → Reading D → List ℕ → Result D (ℕ × C)
text_from judge reading rest = judged_from judge reading.number reading.draft (slice_split is_feed (reading.line ++ rest))
