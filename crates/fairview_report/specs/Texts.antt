-- Pieces of text: numbers in columns, bars, and texts one behind another.
use Rattle.std.specs.Prelude.{◌≡◌, ℕ, zero, suc, ◌-◌, ◌*◌, ◌/◌, min, max, Bool, true, false, List, [], ◌∷◌, ◌++◌, length, codes}
use Rattle.std.specs.List.{repeat}
use Rattle.note_facts.specs.Accounts.{greatest_runtime}

-- a text at the right end of so many places
abbrev pub right : ℕ → List ℕ → List ℕ
right width text = repeat (width - length text) (codes " ") ++ text

-- the mark of a bar: a sign of ASCII in a plain text, else a full block in UTF-8
abbrev pub mark : Bool → List ℕ
mark true = codes "#"
mark false = 226 ∷ 150 ∷ 136 ∷ []

-- how many marks a part of a whole has, if the whole has so many: rounded down, and not more than all
abbrev pub marks : ℕ → ℕ → ℕ → ℕ
marks width piece whole = min (min (piece * width) greatest_runtime / max whole 1) width

-- the bar of a part of a whole
abbrev pub bar : Bool → ℕ → ℕ → ℕ → List ℕ
bar plain width piece whole = repeat (marks width piece whole) (mark plain)

-- a text is one of these for each number below this one, one behind another
unfoldable pub AreTextsBelow : (ℕ → List ℕ → Type 0) → ℕ → List ℕ → Type 0
AreTextsBelow IsText zero all = all ≡ []
AreTextsBelow IsText (suc number) all =
    (front rear : List ℕ) × AreTextsBelow IsText number front × IsText number rear × (all ≡ front ++ rear)

-- such a text stands behind what the page had
abbrev pub Puts : (List ℕ → Type 0) → List ℕ → List ℕ → Type 0
Puts IsText old new = (text : List ℕ) × IsText text × (new ≡ old ++ text)
