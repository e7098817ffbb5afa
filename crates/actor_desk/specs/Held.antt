-- Values by number, and how they change.
use Rattle.std.specs.Prelude.{◌≡◌, ◌≢◌, ℕ, ◌+◌, Bool, true, false, List, [], ◌∷◌, Option, Some, None, eqb}

-- 1 for a value that passes, else 0
abbrev pub one : Bool → ℕ
one true = 1
one false = 0

-- the first where the test says so, else the second
abbrev pub pick : {A : Type 0} → Bool → A → A → A
pick true first second = first
pick false first second = second

module _ {V : Type 0} where
  -- the value at a number
  abbrev pub at : List (ℕ × V) → ℕ → Option V
  at [] n = None
  at (first ∷ rest) n = pick (eqb n first.0) (Some first.1) (at rest n)

  -- how many values pass a test
  abbrev pub tally : List (ℕ × V) → (V → Bool) → ℕ
  tally [] test = 0
  tally (first ∷ rest) test = one (test first.1) + tally rest test

  -- how many values
  abbrev pub count_of : List (ℕ × V) → ℕ
  count_of held = tally held (λ value. true)

  -- one more is held: this value at this number
  pub record Adds (old new : List (ℕ × V)) (number : ℕ) (value : V) : Type 0 where
    pub here : at new number ≡ Some value
    pub others : (n : ℕ) → n ≢ number → at new n ≡ at old n
    pub tallies : (test : V → Bool) → tally new test ≡ one (test value) + tally old test

  -- one less is held: this value at this number
  pub record Removes (old new : List (ℕ × V)) (number : ℕ) (value : V) : Type 0 where
    pub was : at old number ≡ Some value
    pub gone : at new number ≡ None
    pub others : (n : ℕ) → n ≢ number → at new n ≡ at old n
    pub tallies : (test : V → Bool) → tally old test ≡ one (test value) + tally new test

  -- the value at this number became another
  pub record Becomes (old new : List (ℕ × V)) (number : ℕ) (before after : V) : Type 0 where
    pub was : at old number ≡ Some before
    pub here : at new number ≡ Some after
    pub others : (n : ℕ) → n ≢ number → at new n ≡ at old n
    pub tallies : (test : V → Bool) → one (test before) + tally new test ≡ one (test after) + tally old test
