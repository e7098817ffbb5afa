-- Words that are put into a row, and words that stay there.
use Rattle.std.proofs.Common.{◌≡◌, ℕ, ◌+◌, ◌<◌, ◌≤◌, List, [], length, get_or, set, sym, ap, ◌∙◌, arith, get_or-set_other, get_or-set_same}
use mathlib.Core.Logic.{dite}
use native.Mathlib.Decide.{ℕ_discrete}
use Rattle.run_watch.specs.Words.{HasAt, Writes}

-- a word that is put behind those that stand already
pub next-stands : (row after words : List ℕ) (place index : ℕ) → after ≡ set row (place + index) (get_or words index 0) → place + index < length row
    → ((i : ℕ) → i < index → get_or row (place + i) 0 ≡ get_or words i 0) → (i : ℕ) → i < index + 1 → get_or after (place + i) 0 ≡ get_or words i 0
next-stands row after words place index is within stands i below = ap (λ (r : List ℕ). get_or r (place + i) 0) is ∙ dite (ℕ_discrete i index)
    (λ same.
    ap (λ (k : ℕ). get_or (set row (place + index) (get_or words index 0)) (place + k) 0) same
    ∙ (get_or-set_same row (place + index) (get_or words index 0) 0 within ∙ ap (λ (k : ℕ). get_or words k 0) (sym same)))
    (λ differs. get_or-set_other row (place + index) (place + i) (get_or words index 0) 0 (λ e. differs (omega arith)) ∙ stands i (omega arith))

-- and the words before them
pub others-stay : (row after first : List ℕ) (place index word : ℕ) → after ≡ set row (place + index) word → ((i : ℕ) → i < place → get_or row i 0 ≡ get_or first i 0)
    → (i : ℕ) → i < place → get_or after i 0 ≡ get_or first i 0
others-stay row after first place index word is stay i below =
    ap (λ (r : List ℕ). get_or r i 0) is ∙ (get_or-set_other row (place + index) i word 0 (λ e. omega arith) ∙ stay i below)

-- words stay where others are written behind them
pub HasAt-kept : (place at : ℕ) (words new row after : List ℕ) → HasAt row place words → place + length words ≤ at → Writes at new row after → HasAt after place words
HasAt-kept place at words new row after has before writes = λ i within. writes.before (place + i) (omega arith) ∙ has i within

-- two writings, the second behind the first
pub Writes-kept : (place at : ℕ) (new first row after : List ℕ) → place ≤ at → Writes place [] first row → Writes at new row after → Writes place [] first after
Writes-kept place at new first row after low one two = record {
  has = λ i within. absurd (omega arith);
  wide = two.wide ∙ one.wide;
  before = λ i below. two.before i (omega arith) ∙ one.before i below;
}
