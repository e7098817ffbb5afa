-- The lines of a roll, in the order of their numbers, and what they hold.
use Rattle.std.specs.Prelude.{◌≡◌, ◌≢◌, ◌<◌, ℕ, ◌+◌, true, List, [], ◌∷◌, length, Option, Some, None, is_some, slice_get}
use Rattle.actor_desk.specs.Held.{at}
use Rattle.actor_desk.specs.declared.roll.Line.{Line}

module _ {V : Type 0} where
  -- the number is above all that are held
  abbrev pub IsAbove : List (ℕ × V) → ℕ → Type 0
  IsAbove entries number = (n : ℕ) → is_some (at entries n) ≡ true → n < number

  -- what a line holds, before what others hold
  abbrev pub held_first : ℕ → Option V → List (ℕ × V) → List (ℕ × V)
  held_first number None rest = rest
  held_first number (Some value) rest = (number, value) ∷ rest

  -- what lines hold
  abbrev pub held : List (Line V) → List (ℕ × V)
  held [] = []
  held (line ∷ rest) = held_first line.number line.value (held rest)

  -- the line in this place holds this value at this number
  abbrev pub IsHeldAt : List (Line V) → ℕ → ℕ → V → Type 0
  IsHeldAt lines place number value = slice_get lines place ≡ Some (record { number = number; value = Some value })

  -- the number is that of the line in this place
  abbrev pub IsAt : List (Line V) → ℕ → ℕ → Type 0
  IsAt lines number place = (line : Line V) × (slice_get lines place ≡ Some line) × (line.number ≡ number)

  -- the number is that of no line
  abbrev pub IsNowhere : List (Line V) → ℕ → Type 0
  IsNowhere lines number = (i : ℕ) (line : Line V) → slice_get lines i ≡ Some line → line.number ≢ number

  -- the lines before this place have numbers below this one
  abbrev pub IsBelow : List (Line V) → ℕ → ℕ → Type 0
  IsBelow lines number place = (i : ℕ) (line : Line V) → i < place → slice_get lines i ≡ Some line → line.number < number

  -- the numbers rise
  abbrev pub IsRising : List (Line V) → Type 0
  IsRising lines = (i j : ℕ) (low high : Line V) → i < j → slice_get lines i ≡ Some low → slice_get lines j ≡ Some high → low.number < high.number

  -- the last line left
  abbrev pub EndsLeft : List (Line V) → Type 0
  EndsLeft lines = (i : ℕ) × (line : Line V) × (i + 1 ≡ length lines) × (slice_get lines i ≡ Some line) × (line.value ≡ None)

  -- if there are lines, the last one didn't leave
  abbrev pub IsEnded : List (Line V) → Type 0
  IsEnded lines = ¬ EndsLeft lines
