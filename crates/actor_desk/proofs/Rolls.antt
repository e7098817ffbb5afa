-- What lines hold, where one of them changes, one more comes, the last one goes, or those that left are swept.
use Rattle.std.proofs.Common.{◌≡◌, ◌≢◌, ◌⊎◌, inl, inr, ℕ, zero, suc, ◌+◌, ◌<◌, Bool, List, [], ◌∷◌, set, Option, None, Some, refl, sym, ap, subst, ◌∙◌, arith}
use Rattle.std.specs.Prelude.{eqb, slice_get}
use Rattle.std.proofs.lemmas.Bool.{eq-eqb}
use Rattle.std.proofs.lemmas.Bool.Decides.{eqb_tells}
use Rattle.std.proofs.lemmas.List.{length-set}
use Rattle.actor_desk.specs.Held.{one, pick, at, tally, Removes, Becomes}
use Rattle.actor_desk.specs.Rolls.{held_first, held, IsHeldAt, IsNowhere, IsRising, IsEnded}
use Rattle.actor_desk.specs.declared.roll.Line.{Line}

module _ {V : Type 0} where
  -- how many of what a line holds pass a test
  abbrev pub passing : Option V → (V → Bool) → ℕ
  passing None test = 0
  passing (Some value) test = one (test value)

  pub tally-first : (number : ℕ) (value : Option V) (rest : List (ℕ × V)) (test : V → Bool) → tally (held_first number value rest) test ≡ passing value test + tally rest test
  tally-first number None rest test = omega arith
  tally-first number (Some value) rest test = refl

  pub at-first : (number : ℕ) (value : Option V) (rest : List (ℕ × V)) → at rest number ≡ None → at (held_first number value rest) number ≡ value
  at-first number None rest none = none
  at-first number (Some value) rest none = rw (eq-eqb number number refl) refl

  pub at-later : (number : ℕ) (value : Option V) (rest : List (ℕ × V)) (n : ℕ) → n ≢ number → at (held_first number value rest) n ≡ at rest n
  at-later number None rest n apart = refl
  at-later number (Some value) rest n apart = elim (eqb_tells n number) [ inl same ↦ absurd (apart same.1) | inr other ↦ rw other.0 refl ]

  pub at-same : (number : ℕ) (value : Option V) (rest later : List (ℕ × V)) (n : ℕ) → at later n ≡ at rest n → at (held_first number value later) n ≡ at (held_first number value rest) n
  at-same number None rest later n same = same
  at-same number (Some value) rest later n same = ap (pick (eqb n number) (Some value)) same

  pub rising-rest : (first : Line V) (rest : List (Line V)) → IsRising (first ∷ rest) → IsRising rest
  rising-rest first rest r i j low high less is_low is_high = r (suc i) (suc j) low high (omega arith) is_low is_high

  pub first-below : (first : Line V) (rest : List (Line V)) → IsRising (first ∷ rest) → (i : ℕ) (line : Line V) → slice_get rest i ≡ Some line → first.number < line.number
  first-below first rest r i line is = r 0 (suc i) first line (omega arith) refl is

  -- where all lines rise above one, they rise with it
  pub rising-with : (first : Line V) (rest : List (Line V)) → ((i : ℕ) (line : Line V) → slice_get rest i ≡ Some line → first.number < line.number) → IsRising rest → IsRising (first ∷ rest)
  rising-with first rest below r zero zero low high less is_low is_high = absurd (omega arith)
  rising-with first rest below r zero (suc j) low high less is_low is_high = let e : first ≡ low = cc in subst (λ l. l.number < high.number) e (below j high is_high)
  rising-with first rest below r (suc i) zero low high less is_low is_high = absurd (omega arith)
  rising-with first rest below r (suc i) (suc j) low high less is_low is_high = r i j low high (omega arith) is_low is_high

  -- a number that no line has isn't held
  pub none-held : (lines : List (Line V)) (n : ℕ) → IsNowhere lines n → at (held lines) n ≡ None
  none-held [] n nowhere = refl
  none-held (first ∷ rest) n nowhere =
      at-later first.number first.value (held rest) n (λ e. nowhere 0 first refl (sym e)) ∙ none-held rest n (λ i line is. nowhere (suc i) line is)

  -- what is held at a line's number
  pub at-held : (lines : List (Line V)) → IsRising lines → (i : ℕ) (line : Line V) → slice_get lines i ≡ Some line → at (held lines) line.number ≡ line.value
  at-held [] r i line is = absurd cc
  at-held (first ∷ rest) r zero line is =
      let e : first ≡ line = cc in
      subst (λ l. at (held (first ∷ rest)) l.number ≡ l.value) e
      (at-first first.number first.value (held rest) (none-held rest first.number (λ i other there same. let low : first.number < other.number = first-below first rest r i other there in absurd (omega arith))))
  at-held (first ∷ rest) r (suc i) line is =
      let low : first.number < line.number = first-below first rest r i line is in
      at-later first.number first.value (held rest) line.number (λ e. absurd (omega arith)) ∙ at-held rest (rising-rest first rest r) i line is

  -- what stands in a line is held, or nothing is held at its number
  pub held-line : (lines : List (Line V)) (place : ℕ) (line : Line V) (number : ℕ) (value : V) → slice_get lines place ≡ Some line → line.number ≡ number → line.value ≡ Some value → IsHeldAt lines place number value
  held-line lines place line number value is named has = is ∙ (ap (λ n. Some (record { number = n; value = line.value })) named ∙ ap (λ v. Some (record { number = number; value = v })) has)

  pub none-line : (lines : List (Line V)) → IsRising lines → (place : ℕ) (line : Line V) (number : ℕ) → slice_get lines place ≡ Some line → line.number ≡ number → line.value ≡ None → at (held lines) number ≡ None
  none-line lines r place line number is named has = subst (λ n. at (held lines) n ≡ None) named (at-held lines r place line is ∙ has)

  -- a line in the place of one of the same number
  tally-set : (lines : List (Line V)) (i : ℕ) (line new : Line V) (test : V → Bool) → slice_get lines i ≡ Some line
      → passing line.value test + tally (held (set lines i new)) test ≡ passing new.value test + tally (held lines) test
  tally-set [] i line new test is = absurd cc
  tally-set (first ∷ rest) zero line new test is =
      let e : first ≡ line = cc in
      subst (λ l. passing l.value test + tally (held (new ∷ rest)) test ≡ passing new.value test + tally (held (first ∷ rest)) test) e
      (omega (arith, tally-first first.number first.value (held rest) test, tally-first new.number new.value (held rest) test))
  tally-set (first ∷ rest) (suc i) line new test is =
      omega (arith, tally-first first.number first.value (held rest) test, tally-first first.number first.value (held (set rest i new)) test, tally-set rest i line new test is)

  others-set : (lines : List (Line V)) (i : ℕ) (line new : Line V) → slice_get lines i ≡ Some line → new.number ≡ line.number
      → (n : ℕ) → n ≢ line.number → at (held (set lines i new)) n ≡ at (held lines) n
  others-set [] i line new is same n apart = absurd cc
  others-set (first ∷ rest) zero line new is same n apart =
      let e : first.number ≡ line.number = let f : first ≡ line = cc in ap (λ l. l.number) f in
      at-later new.number new.value (held rest) n (λ f. apart (f ∙ same)) ∙ sym (at-later first.number first.value (held rest) n (λ f. apart (f ∙ e)))
  others-set (first ∷ rest) (suc i) line new is same n apart = at-same first.number first.value (held rest) (held (set rest i new)) n (others-set rest i line new is same n apart)

  there-set : (lines : List (Line V)) (i : ℕ) (line new : Line V) → slice_get lines i ≡ Some line → slice_get (set lines i new) i ≡ Some new
  there-set [] i line new is = absurd cc
  there-set (first ∷ rest) zero line new is = refl
  there-set (first ∷ rest) (suc i) line new is = there-set rest i line new is

  -- what stands in a place stood there, or is the new one
  there-or-new : (lines : List (Line V)) (i : ℕ) (new : Line V) (j : ℕ) (found : Line V) → slice_get (set lines i new) j ≡ Some found → (slice_get lines j ≡ Some found) ⊎ (new ≡ found)
  there-or-new [] i new j found there = inl there
  there-or-new (first ∷ rest) zero new zero found there = inr cc
  there-or-new (first ∷ rest) zero new (suc j) found there = inl there
  there-or-new (first ∷ rest) (suc i) new zero found there = inl there
  there-or-new (first ∷ rest) (suc i) new (suc j) found there = there-or-new rest i new j found there

  -- a value in place of another one leaves the last line as it was, or held
  pub ended-set : (lines : List (Line V)) (i number : ℕ) (value : V) → IsEnded lines → IsEnded (set lines i (record { number = number; value = Some value }))
  ended-set lines i number value ended ends =
      elim (there-or-new lines i (record { number = number; value = Some value }) ends.0 ends.1 ends.3) [
        | inl there ↦ ended (ends.0, ends.1, ends.2 ∙ length-set lines i (record { number = number; value = Some value }), there, ends.4)
        | inr new ↦ let e : Some value ≡ None = ap (λ l. l.value) new ∙ ends.4 in cc
      ]

  -- each place keeps its number
  number-set : (lines : List (Line V)) (i : ℕ) (line new : Line V) → slice_get lines i ≡ Some line → new.number ≡ line.number
      → (j : ℕ) (found : Line V) → slice_get (set lines i new) j ≡ Some found → (was : Line V) × (slice_get lines j ≡ Some was) × (was.number ≡ found.number)
  number-set [] i line new is same j found there = absurd cc
  number-set (first ∷ rest) zero line new is same zero found there = let e : new ≡ found = cc in (line, is, sym same ∙ ap (λ l. l.number) e)
  number-set (first ∷ rest) zero line new is same (suc j) found there = (found, there, refl)
  number-set (first ∷ rest) (suc i) line new is same zero found there = (found, there, refl)
  number-set (first ∷ rest) (suc i) line new is same (suc j) found there = number-set rest i line new is same j found there

module _ {V : Type 0} (lines : List (Line V)) (r : IsRising lines) (i : ℕ) (line new : Line V) (is : slice_get lines i ≡ Some line) (same : new.number ≡ line.number) where
  pub rising-set : IsRising (set lines i new)
  rising-set j k low high less is_low is_high =
      let first = number-set lines i line new is same j low is_low in
      let second = number-set lines i line new is same k high is_high in
      let rises : first.0.number < second.0.number = r j k first.0 second.0 less first.1 second.1 in
      omega (arith, first.2, second.2)

  pub at-set : at (held (set lines i new)) line.number ≡ new.value
  at-set = subst (λ n. at (held (set lines i new)) n ≡ new.value) same (at-held (set lines i new) rising-set i new (there-set lines i line new is))

-- What becomes of what is held, where the line of a number that is held changes its value.
module _ {V : Type 0} (lines : List (Line V)) (r : IsRising lines) (place number : ℕ) (before : V) (is : IsHeldAt lines place number before) where
  pub Removes-set : Removes (held lines) (held (set lines place (record { number = number; value = None }))) number before
  Removes-set = record {
    was = at-held lines r place _ is;
    gone = at-set lines r place _ (record { number = number; value = None }) is refl;
    others = others-set lines place _ (record { number = number; value = None }) is refl;
    tallies = λ test.
        let e : one (test before) + tally (held (set lines place (record { number = number; value = None }))) test ≡ 0 + tally (held lines) test = tally-set lines place _ (record { number = number; value = None }) test is in omega arith;
  }

  pub Becomes-set : (value : V) → Becomes (held lines) (held (set lines place (record { number = number; value = Some value }))) number before value
  Becomes-set value = record {
    was = at-held lines r place _ is;
    here = at-set lines r place _ (record { number = number; value = Some value }) is refl;
    others = others-set lines place _ (record { number = number; value = Some value }) is refl;
    tallies = λ test. tally-set lines place _ (record { number = number; value = Some value }) test is;
  }
