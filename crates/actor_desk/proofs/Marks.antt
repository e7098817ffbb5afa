-- What marks stand for is found, counted and changed as the marks are.
use Rattle.std.proofs.Common.{◌≡◌, ◌⊎◌, inl, inr, ℕ, ◌+◌, ◌≤◌, Bool, true, false, List, [], ◌∷◌, Option, None, Some, refl, sym, ap, ◌∙◌, arith}
use Rattle.std.specs.Prelude.{eqb}
use Rattle.slab.specs.Slab.{Slab}
use Rattle.base_words.specs.declared.order.Outcome.{Outcome}
use Rattle.actor_desk.specs.Held.{one, pick, at, tally, count_of}
use Rattle.actor_desk.specs.Kept.{entry_of, shown}
use Rattle.actor_desk.specs.declared.entry.Entry.{Entry}
use Rattle.actor_desk.specs.declared.entry.Mark.{Mark}

-- a count of none tells that the first one doesn't pass
zero_tells : (b : Bool) (k : ℕ) → one b + k ≡ 0 → (b ≡ false) × (k ≡ 0)
zero_tells true k none = absurd (omega (arith, none))
zero_tells false k none = (refl, omega (arith, none))

-- at most one passes where it is counted with others
pub one_at_most : (b : Bool) → one b ≤ 1
one_at_most true = omega arith
one_at_most false = omega arith

-- one that isn't counted doesn't pass
pub none_tells : (b : Bool) → one b ≤ 0 → b ≡ false
none_tells true low = absurd (omega (arith, low))
none_tells false low = refl

picked : {V : Type 0} (b : Bool) (first : V) (rest : Option V) (value : V) → pick b (Some first) rest ≡ Some value → (first ≡ value) ⊎ (rest ≡ Some value)
picked true first rest value is = inl (let e : Some first ≡ Some value = is in cc)
picked false first rest value is = inr is

module _ {V : Type 0} where
  -- a value that is found is counted
  pub at-tally : (held : List (ℕ × V)) (n : ℕ) (value : V) (test : V → Bool) → at held n ≡ Some value → one (test value) ≤ tally held test
  at-tally [] n value test is = absurd (let e : at {V = V} [] n ≡ Some value = is in cc)
  at-tally (first ∷ rest) n value test is =
      elim (picked (eqb n first.0) first.1 (at rest n) value is) [
        | inl here ↦ let e : one (test first.1) ≡ one (test value) = ap (λ v. one (test v)) here in omega arith
        | inr there ↦ let e : one (test value) ≤ tally rest test = at-tally rest n value test there in omega arith
      ]

  -- two tests count the same where they agree on all values but marked ones, of which there is none
  pub tally-apart : (held : List (ℕ × V)) (marked f g : V → Bool) → tally held marked ≡ 0 → ((v : V) → marked v ≡ false → f v ≡ g v) → tally held f ≡ tally held g
  tally-apart [] marked f g none same = refl
  tally-apart (first ∷ rest) marked f g none same =
      let tells = zero_tells (marked first.1) (tally rest marked) none in
      let head : one (f first.1) ≡ one (g first.1) = ap one (same first.1 tells.0) in
      let tail : tally rest f ≡ tally rest g = tally-apart rest marked f g tells.1 same in
      omega arith

  -- where no value passes two tests, both count at most all
  pub tally-two : (held : List (ℕ × V)) (f g : V → Bool) → ((v : V) → one (f v) + one (g v) ≤ 1) → tally held f + tally held g ≤ count_of held
  tally-two [] f g apart = omega arith
  tally-two (first ∷ rest) f g apart =
      let head : one (f first.1) + one (g first.1) ≤ 1 = apart first.1 in
      let tail : tally rest f + tally rest g ≤ count_of rest = tally-two rest f g apart in
      omega arith

module _ {J T : Type 0} (kept : Slab (Outcome J T)) where
  -- what a mark stands for, if there is one
  abbrev pub mapped : Option Mark → Option (Entry J T)
  mapped None = None
  mapped (Some mark) = Some (entry_of kept mark)

  pick-mapped : (b : Bool) (mark : Mark) (rest : Option Mark) → pick b (Some (entry_of kept mark)) (mapped rest) ≡ mapped (pick b (Some mark) rest)
  pick-mapped true mark rest = refl
  pick-mapped false mark rest = refl

  pub at-shown : (marks : List (ℕ × Mark)) (n : ℕ) → at (shown kept marks) n ≡ mapped (at marks n)
  at-shown [] n = refl
  at-shown (held ∷ rest) n = ap (pick (eqb n held.0) (Some (entry_of kept held.1))) (at-shown rest n) ∙ pick-mapped (eqb n held.0) held.1 (at rest n)

  -- what is found among the marks is shown
  pub shows : (marks : List (ℕ × Mark)) (n : ℕ) {found : Option Mark} → found ≡ at marks n → at (shown kept marks) n ≡ mapped found
  shows marks n is = at-shown marks n ∙ ap mapped (sym is)

  pub tally-shown : (marks : List (ℕ × Mark)) (test : Entry J T → Bool) → tally (shown kept marks) test ≡ tally marks (λ mark. test (entry_of kept mark))
  tally-shown [] test = refl
  tally-shown (held ∷ rest) test = ap (λ k. one (test (entry_of kept held.1)) + k) (tally-shown rest test)
