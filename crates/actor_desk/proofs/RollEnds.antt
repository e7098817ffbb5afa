-- What lines hold, where one comes at the end, the last one goes, or those that left are swept.
use Rattle.std.proofs.Common.{◌≡◌, ◌≢◌, inl, inr, ℕ, zero, suc, ◌+◌, ◌-◌, ◌<◌, ◌≤◌, Bool, true, false, List, [], ◌∷◌, ◌++◌, length, length-append, Option, None, Some, is_some, cond, refl, sym, ap, subst, ◌∙◌, arith}
use Rattle.std.specs.Prelude.{filter, option_to_list, slice_get}
use Rattle.std.proofs.lemmas.List.{append-nil}
use Rattle.std.proofs.lemmas.Option.{slice_get_within}
use Rattle.link_ends.proofs.Lists.{slice_get-seen, slice_get-with_last, slice_get-behind}
use Rattle.actor_desk.specs.Held.{at, tally, count_of, Adds}
use Rattle.actor_desk.specs.Rolls.{IsAbove, held_first, held, IsBelow, IsRising, EndsLeft, IsEnded}
use Rattle.actor_desk.specs.declared.roll.Line.{Line}
use Rattle.actor_desk.proofs.Lanes.{option_cases}
use Rattle.actor_desk.proofs.Rolls.{passing, tally-first, at-later, at-same, rising-rest, first-below, rising-with, at-held}

-- what is put behind a list stands there
behind : {A : Type 0} (xs : List A) (last : A) → slice_get (xs ++ last ∷ []) (length xs) ≡ Some last
behind [] last = refl
behind (x ∷ xs) last = behind xs last

module _ {V : Type 0} where
  -- the numbers of lines that rise lie apart as their places at least
  pub lie-apart : (lines : List (Line V)) → IsRising lines → (i k : ℕ) (low high : Line V) → slice_get lines i ≡ Some low → slice_get lines (i + k) ≡ Some high → low.number + k ≤ high.number
  lie-apart lines r i zero low high is_low is_high = let there : i + 0 ≡ i = omega arith in let e : Some low ≡ Some high = sym is_low ∙ (ap (slice_get lines) (sym there) ∙ is_high) in let same : low ≡ high = cc in let n : low.number ≡ high.number = ap (λ l. l.number) same in omega arith
  lie-apart lines r i (suc k) low high is_low is_high =
      elim (option_cases (slice_get lines (i + k))) [
        | inl none ↦
            let past : length lines ≤ i + k = slice_get-behind lines (i + k) none in
            let within : i + suc k < length lines = slice_get_within lines (i + suc k) high is_high in
            absurd (omega arith)
        | inr some ↦
            let near : low.number + k ≤ some.0.number = lie-apart lines r i k low some.0 is_low some.1 in
            let far : some.0.number < high.number = r (i + k) (i + suc k) some.0 high (omega arith) some.1 is_high in
            omega arith
      ]

  -- so the lines before the place that is guessed are below the number
  pub guessed : (lines : List (Line V)) → IsRising lines → (number guess : ℕ) (last : Line V) → slice_get lines (length lines - 1) ≡ Some last → number ≤ last.number
      → guess ≡ length lines - 1 - (last.number - number) → IsBelow lines number guess
  guessed lines r number guess last is above guess_is i line low there =
      let at_last : slice_get lines (i + (length lines - 1 - i)) ≡ Some last = let e : i + (length lines - 1 - i) ≡ length lines - 1 = omega arith in ap (slice_get lines) e ∙ is in
      let apart : line.number + (length lines - 1 - i) ≤ last.number = lie-apart lines r i (length lines - 1 - i) line last there at_last in
      omega arith

  -- all lines are below a number above all that are held, since the last line is held
  pub all-below : (lines : List (Line V)) → IsRising lines → IsEnded lines → (number : ℕ) → IsAbove (held lines) number → IsBelow lines number (length lines)
  all-below lines r ended number above i line low is =
      elim (option_cases (slice_get lines (i + (length lines - i - 1)))) [
        | inl none ↦ let past : length lines ≤ i + (length lines - i - 1) = slice_get-behind lines (i + (length lines - i - 1)) none in absurd (omega arith)
        | inr last ↦ elim (option_cases last.0.value) [
          | inl left ↦ absurd (ended (i + (length lines - i - 1), last.0, omega arith, last.1, left))
          | inr value ↦
              let there : is_some (at (held lines) last.0.number) ≡ true = ap is_some (at-held lines r (i + (length lines - i - 1)) last.0 last.1 ∙ value.1) in
              let under : last.0.number < number = above last.0.number there in
              let apart : line.number + (length lines - i - 1) ≤ last.0.number = lie-apart lines r i (length lines - i - 1) line last.0 is last.1 in
              omega arith
        ]
      ]

  tally-push : (lines : List (Line V)) (line : Line V) (test : V → Bool) → tally (held (lines ++ line ∷ [])) test ≡ passing line.value test + tally (held lines) test
  tally-push [] line test = tally-first line.number line.value [] test
  tally-push (first ∷ rest) line test =
      omega (arith, tally-first first.number first.value (held (rest ++ line ∷ [])) test, tally-first first.number first.value (held rest) test, tally-push rest line test)

  others-push : (lines : List (Line V)) (line : Line V) (n : ℕ) → n ≢ line.number → at (held (lines ++ line ∷ [])) n ≡ at (held lines) n
  others-push [] line n apart = at-later line.number line.value [] n apart
  others-push (first ∷ rest) line n apart = at-same first.number first.value (held rest) (held (rest ++ line ∷ [])) n (others-push rest line n apart)

  -- a line that holds something is the last one
  pub ended-push : (lines : List (Line V)) (number : ℕ) (value : V) → IsEnded (lines ++ record { number = number; value = Some value } ∷ [])
  ended-push lines number value ends =
      let count : ends.0 + 1 ≡ length lines + 1 = ends.2 ∙ length-append lines (record { number = number; value = Some value } ∷ []) in
      let place : ends.0 ≡ length lines = omega arith in
      let same : Some ends.1 ≡ Some (record { number = number; value = Some value }) = sym ends.3 ∙ (ap (slice_get (lines ++ record { number = number; value = Some value } ∷ [])) place ∙ behind lines _) in
      let e : Some value ≡ None = let l : ends.1 ≡ record { number = number; value = Some value } = cc in ap (λ l. l.value) (sym l) ∙ ends.4 in cc

  -- without a last line that left all is held
  pub held-front : (front : List (Line V)) (line : Line V) → line.value ≡ None → held (front ++ line ∷ []) ≡ held front
  held-front [] line left = ap (λ v. held_first line.number v []) left
  held-front (first ∷ rest) line left = ap (held_first first.number first.value) (held-front rest line left)

  pub rising-front : (front : List (Line V)) (line : Line V) → IsRising (front ++ line ∷ []) → IsRising front
  rising-front front line r i j low high less is_low is_high =
      r i j low high less
      (slice_get-seen (front ++ line ∷ []) front (line ∷ [], refl) i low is_low) (slice_get-seen (front ++ line ∷ []) front (line ∷ [], refl) j high is_high)

  -- the last line goes, which left
  pub held-popped : (lines front : List (Line V)) (last : Option (Line V)) → lines ≡ front ++ option_to_list last → EndsLeft lines → IsRising lines → IsRising front × (held front ≡ held lines)
  held-popped lines front None is ends r = let e : lines ≡ front = is ∙ append-nil front in (subst IsRising e r, ap held (sym e))
  held-popped lines front (Some last) is ends r =
      let count : ends.0 + 1 ≡ length front + 1 = ends.2 ∙ (ap length is ∙ length-append front (last ∷ [])) in
      let place : ends.0 ≡ length front = omega arith in
      let same : Some ends.1 ≡ Some last = sym ends.3 ∙ (ap (slice_get lines) place ∙ (ap (λ l. slice_get l (length front)) is ∙ behind front last)) in
      let left : last.value ≡ None = let e : ends.1 ≡ last = cc in ap (λ l. l.value) (sym e) ∙ ends.4 in
      (rising-front front last (subst IsRising is r), sym (ap held is ∙ held-front front last left))

module _ {V : Type 0} (lines : List (Line V)) (r : IsRising lines) (line : Line V) (below : IsBelow lines line.number (length lines)) where
  pub rising-push : IsRising (lines ++ line ∷ [])
  rising-push i j low high less is_low is_high =
      elim (slice_get-with_last lines line low i is_low) [
        | inl low_there ↦
            elim (slice_get-with_last lines line high j is_high) [
              | inl high_there ↦ r i j low high less low_there high_there
              | inr last ↦ subst (λ l. low.number < l.number) last.1 (below i low (slice_get_within lines i low low_there) low_there)
            ]
        | inr last ↦
            let within : j < length (lines ++ line ∷ []) = slice_get_within (lines ++ line ∷ []) j high is_high in
            absurd (omega (arith, last.0, length-append lines (line ∷ [])))
      ]

  pub Adds-push : (value : V) → line.value ≡ Some value → Adds (held lines) (held (lines ++ line ∷ [])) line.number value
  Adds-push value has = record {
    here = at-held (lines ++ line ∷ []) rising-push (length lines) line (behind lines line) ∙ has;
    others = others-push lines line;
    tallies = λ test. tally-push lines line test ∙ ap (λ v. passing v test + tally (held lines) test) has;
  }

-- Lines that left are swept.
module _ {V : Type 0} where
  -- whether the line stays
  abbrev pub stays : Line V → Bool
  stays line = is_some line.value

  -- what stays after a sweep stood there before, and didn't leave
  abbrev WasThere : List (Line V) → List (Line V) → Type 0
  WasThere lines swept = (i : ℕ) (line : Line V) → slice_get swept i ≡ Some line → (j : ℕ) × (slice_get lines j ≡ Some line) × (stays line ≡ true)

  was-first : (first : Line V) (rest swept : List (Line V)) (b : Bool) → stays first ≡ b → WasThere rest swept → WasThere (first ∷ rest) (cond b (first ∷ swept) swept)
  was-first first rest swept true says was zero line is = let e : first ≡ line = cc in (0, is, ap stays (sym e) ∙ says)
  was-first first rest swept true says was (suc i) line is = let w = was i line is in (suc w.0, w.1, w.2)
  was-first first rest swept false says was i line is = let w = was i line is in (suc w.0, w.1, w.2)

  was-there : (lines : List (Line V)) → WasThere lines (filter stays lines)
  was-there [] = λ i line is. absurd cc
  was-there (first ∷ rest) = was-first first rest (filter stays rest) (stays first) refl (was-there rest)

  rising-first : (first : Line V) (rest swept : List (Line V)) (b : Bool) → IsRising (first ∷ rest) → WasThere rest swept → IsRising swept → IsRising (cond b (first ∷ swept) swept)
  rising-first first rest swept true r was rises = rising-with first swept (λ i line is. let w = was i line is in first-below first rest r w.0 line w.1) rises
  rising-first first rest swept false r was rises = rises

  pub rising-swept : (lines : List (Line V)) → IsRising lines → IsRising (filter stays lines)
  rising-swept [] r = r
  rising-swept (first ∷ rest) r = rising-first first rest (filter stays rest) (stays first) r (was-there rest) (rising-swept rest (rising-rest first rest r))

  pub ended-swept : (lines : List (Line V)) → IsEnded (filter stays lines)
  ended-swept lines ends = let was = was-there lines ends.0 ends.1 ends.3 in let e : true ≡ false = sym was.2 ∙ ap is_some ends.4 in cc

  held-kept : (number : ℕ) (value : Option V) (swept : List (Line V)) → held (cond (is_some value) (record { number = number; value = value } ∷ swept) swept) ≡ held_first number value (held swept)
  held-kept number None swept = refl
  held-kept number (Some value) swept = refl

  pub held-swept : (lines : List (Line V)) → held (filter stays lines) ≡ held lines
  held-swept [] = refl
  held-swept (first ∷ rest) = held-kept first.number first.value (filter stays rest) ∙ ap (held_first first.number first.value) (held-swept rest)

  length-kept : (first : Line V) (value : Option V) (swept : List (Line V)) → length (cond (is_some value) (first ∷ swept) swept) ≡ passing value (λ v. true) + length swept
  length-kept first None swept = omega arith
  length-kept first (Some value) swept = omega arith

  pub length-swept : (lines : List (Line V)) → length (filter stays lines) ≡ count_of (held lines)
  length-swept [] = refl
  length-swept (first ∷ rest) = omega (arith, length-kept first first.value (filter stays rest), tally-first first.number first.value (held rest) (λ v. true), length-swept rest)
