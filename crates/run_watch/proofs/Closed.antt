-- What is told of the closing of a core stays told.
use Rattle.std.proofs.Common.{◌≡◌, ℕ, zero, suc, ◌<◌, ◌≤◌, ◌||◌, Bool, true, false, List, [], ◌∷◌, ◌++◌, get_or, take, refl, sym, ap, ◌∙◌, arith, subst}
use Rattle.std.specs.Prelude.{◌==◌, Option, Some, None, is_some}
use Rattle.base_words.specs.Journal.{Journal}
use Rattle.run_watch.specs.Closed.{is_own_closing, closed_by_itself, told_by, told_after}
use Rattle.run_watch.specs.Growth.{Grows}
use Rattle.run_watch.specs.Words.{closed_in, word_if}

or-right : (a b : Bool) → b ≡ true → (a || b) ≡ true
or-right true b e = refl
or-right false b e = e

told-behind : (newer old : Journal ℕ) → closed_by_itself old ≡ true → closed_by_itself (newer ++ old) ≡ true
told-behind [] old told = told
told-behind (note ∷ newer) old told = or-right (is_own_closing note (newer ++ old)) (closed_by_itself (newer ++ old)) (told-behind newer old told)

-- notes that tell that the core closed by itself tell it also when they become more
pub stays-told : (old new : Journal ℕ) → Grows old new → closed_by_itself old ≡ true → closed_by_itself new ≡ true
stays-told old new grows told = subst (λ (l : Journal ℕ). closed_by_itself l ≡ true) (sym grows.1) (told-behind grows.0 old told)

false-true : false ≡ true → ⊥
false-true e = cc

none-some : (number : ℕ) → None ≡ Some number → ⊥
none-some number e = cc

unwrap : (number other : ℕ) → Some number ≡ Some other → number ≡ other
unwrap number other e = cc

-- a later publication tells what an earlier one told
pub told-later : (first : Option ℕ) (old new : ℕ) → old ≤ new → told_by first old ≡ true → told_by first new ≡ true
told-later None old new low told = absurd (false-true told)
told-later (Some first) old new low told = grind (arith, low, told)

-- the last one tells it if any did
pub told-last : (first : Option ℕ) (last : ℕ) → ((number : ℕ) → first ≡ Some number → (0 < number) × (number ≤ last)) → told_by first last ≡ is_some first
told-last None last at = refl
told-last (Some first) last at = let low : first ≤ last = (at first refl).1 in grind (arith, low)

-- before the first publication nothing was told
pub told-never : (first : Option ℕ) (last : ℕ) → ((number : ℕ) → first ≡ Some number → (0 < number) × (number ≤ last)) → false ≡ told_by first 0
told-never None last at = refl
told-never (Some first) last at = let high : 0 < first = (at first refl).0 in grind (arith, high)

-- a further publication changes nothing of what the earlier ones told
pub told-before : (first : Option ℕ) (number count : ℕ) (closed : Bool) → count < number → told_by (told_after first number closed) count ≡ told_by first count
told-before first number count false below = refl
told-before None number count true below = grind (arith, below)
told-before (Some first) number count true below = refl

-- and tells itself what it says, if it keeps what was told
pub told-now : (first : Option ℕ) (number : ℕ) (closed : Bool) → (is_some first ≡ true → closed ≡ true) → closed ≡ is_some (told_after first number closed)
told-now None number true stays = refl
told-now None number false stays = refl
told-now (Some first) number true stays = refl
told-now (Some first) number false stays = stays refl

-- one that keeps what was told changes nothing
pub told-same : (first : Option ℕ) (number : ℕ) → told_after first number (is_some first) ≡ first
told-same None number = refl
told-same (Some first) number = refl

pub told-within : (first : Option ℕ) (number last : ℕ) (closed : Bool) → last < number → ((other : ℕ) → first ≡ Some other → (0 < other) × (other ≤ last))
    → (other : ℕ) → told_after first number closed ≡ Some other → (0 < other) × (other ≤ number)
told-within first number last false below at other is = ((at other is).0, let low = (at other is).1 in omega arith)
told-within None number last true below at other is = let same : number ≡ other = unwrap number other is in (omega arith, omega arith)
told-within (Some first) number last true below at other is = ((at other is).0, let low = (at other is).1 in omega arith)

word-closed : (closed : Bool) → (word_if closed == 1) ≡ closed
word-closed true = refl
word-closed false = refl

-- what a row tells of the closing, by its word
pub row-closed : (row : List ℕ) (closed : Bool) → get_or row 6 0 ≡ word_if closed → closed_in row ≡ closed
row-closed row closed stands = ap (λ (word : ℕ). word == 1) stands ∙ word-closed closed

take-get : (row : List ℕ) (count i : ℕ) → i < count → get_or (take count row) i 0 ≡ get_or row i 0
take-get row zero i below = absurd (omega arith)
take-get [] (suc count) i below = refl
take-get (word ∷ row) (suc count) zero below = refl
take-get (word ∷ row) (suc count) (suc i) below = take-get row count i (omega arith)

-- the first words of a row tell the same of it
pub take-closed : (row : List ℕ) (count : ℕ) → 6 < count → closed_in (take count row) ≡ closed_in row
take-closed row count enough = ap (λ (word : ℕ). word == 1) (take-get row count 6 enough)
