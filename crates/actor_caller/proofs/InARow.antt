-- Steps in a row.
use Rattle.std.proofs.Common.{◌≡◌, ◌↔◌, ℕ, zero, suc, ◌+◌, ◌<◌, ◌≤◌, Bool, true, false, length, sym, ◌∙◌, ap, subst, add-one, arith, refl, length-append, ⊎_elim}
use Rattle.std.specs.Prelude.{IsTrue}
use Rattle.std.proofs.lemmas.Bool.{cases_lt}
use Rattle.actor_caller.specs.State.{RuntimeView}
use Rattle.actor_caller.specs.Tickets.{Collects}
use Rattle.actor_caller.specs.Waiting.{CollectsBelow, CollectsEach, InARow, LooksOnly, Waits}

module _ {J T : Type 0} where
  -- so many looks
  abbrev pub Looks : RuntimeView J T → RuntimeView J T → Type 0
  Looks old new = (looks : ℕ) × InARow CollectsEach looks old new

  pub no_look : (view : RuntimeView J T) → Looks view view
  no_look view = (0, refl)

  -- one look more
  pub one_look : (old between new : RuntimeView J T) → Looks old between → CollectsEach between new → LooksOnly old new
  one_look old between new before each = record { again = before.0; are = (between, before.1, each) }

  pub looks_of : (old new : RuntimeView J T) → LooksOnly old new → Looks old new
  looks_of old new looks = (suc looks.again, looks.are)

  -- `collect` of one core more
  pub below_more : (core count : ℕ) (old between new : RuntimeView J T) → CollectsBelow core old between → Collects core between count new → CollectsBelow (core + 1) old new
  below_more core count old between new before collects = subst (λ cores. CollectsBelow cores old new) (sym (add-one core)) (between, before, record { count = count; collects = collects })

  -- as many outcomes are noted as were collected
  pub collected_count : (core count : ℕ) (old new : RuntimeView J T) → Collects core old count new → length new.desk.journal.notes ≡ count + length old.desk.journal.notes
  collected_count core count old new collects =
      ⊎_elim
      (λ (low : core < old.desk.cores).
      let did = (collects.there low).collects in
      let longer = ap (λ journal. length journal.notes) did.3 ∙ length-append did.0 old.desk.journal.notes in
      omega (arith, longer, did.2))
      (λ high. let none = collects.missing high in let same = ap (λ (view : RuntimeView J T). length view.desk.journal.notes) none.1 in omega (arith, none.0, same))
      (cases_lt core old.desk.cores)

  below_grows : (cores : ℕ) (old new : RuntimeView J T) → CollectsBelow cores old new → length old.desk.journal.notes ≤ length new.desk.journal.notes
  below_grows zero old new same = let is = ap (λ (view : RuntimeView J T). length view.desk.journal.notes) same in omega (arith, is)
  below_grows (suc core) old new row =
      let count = collected_count core row.2.count row.0 new row.2.collects in
      omega (arith, count, below_grows core old row.0 row.1)

  -- a look loses nothing that is noted
  pub look_grows : (old new : RuntimeView J T) → CollectsEach old new → length old.desk.journal.notes ≤ length new.desk.journal.notes
  look_grows old new each = below_grows old.desk.cores old new each

  module _ (in_vain : RuntimeView J T → RuntimeView J T → Type 0) where
    -- no try yet
    pub no_try : (view : RuntimeView J T) → Waits in_vain view view
    no_try view = record { tries = 0; are = refl }

    -- one more try in vain, with the looks behind it
    pub one_try : (old between tried new : RuntimeView J T) → Waits in_vain old between → in_vain between tried → LooksOnly tried new → Waits in_vain old new
    one_try old between tried new before vain looks = record { tries = suc before.tries; are = (between, before.are, record { tried = tried; vain = vain; looks = looks }) }

-- an outcome was there
pub told_one : (some : Bool) (old was count now : ℕ) → some ≡ true → 0 < count → old ≤ was → now ≡ count + was → IsTrue some ↔ (old < now)
told_one some old was count now is more longer counted = (λ _. omega (arith, more, longer, counted), λ _. is)

-- none was there
pub told_none : (some before : Bool) (old was count now : ℕ) → some ≡ before → count ≤ 0 → now ≡ count + was → IsTrue before ↔ (old < was) → IsTrue some ↔ (old < now)
told_none some before old was count now is none counted told =
    let same : now ≡ was = omega (arith, none, counted) in
    rw is (rw same told)

-- where none is told there was none
pub none_told : (told : Bool) (old now : ℕ) → told ≡ false → IsTrue told ↔ (old < now) → old ≤ now → now ≡ old
none_told false old now is tells longer = ⊎_elim (λ (more : old < now). let never = tells.1 more in absurd cc) (λ (same : now ≤ old). omega (arith, same, longer)) (cases_lt old now)
none_told true old now is tells longer = absurd cc
