-- The order of a heap as two places of it are swapped.
use Rattle.std.proofs.Common.{◌≡◌, ℕ, ◌<◌, ◌≤◌, ◌≢◌, sym, ap, ◌∙◌, subst, ⊎_elim, arith}
use Rattle.std.proofs.lemmas.Bool.{cases_eq}
use Rattle.core_timers.specs.declared.row.Slot.{Slot}
use Rattle.core_timers.specs.Tables.{Table, time_at}
use Rattle.core_timers.specs.Heap.{above, IsOrdered, IsOrderedBut, IsEarly, IsLate}
use Rattle.core_timers.proofs.Swaps.{Swapped}

-- a place that is in order with those around it isn't out of order
pub IsOrdered-settled : (count hole : ℕ) (t : Table) → IsOrderedBut count hole t → IsEarly count hole t → IsLate hole t → IsOrdered count t
IsOrdered-settled count hole t but early late = record {
  rises = λ place some below.
      ⊎_elim
      (λ here. subst (λ n. 0 < n → time_at t (above n) ≤ time_at t n) (sym here) late some)
      (λ p. ⊎_elim (λ over. subst (λ n. time_at t n ≤ time_at t place) (sym over) (early place some below over)) (λ q. but.rises place some below p q) (cases_eq (above place) hole))
      (cases_eq place hole);
}

module _ (count hole next : ℕ) (old new : Table) (but : IsOrderedBut count hole old) (swapped : Swapped old new hole next) where
  time_at-hole : time_at new hole ≡ time_at old next
  time_at-hole = ap (λ (slot : Slot). slot.time) swapped.first

  time_at-next : time_at new next ≡ time_at old hole
  time_at-next = ap (λ (slot : Slot). slot.time) swapped.second

  time_at-rest : (place : ℕ) → place ≢ hole → place ≢ next → time_at new place ≡ time_at old place
  time_at-rest place p q = ap (λ (slot : Slot). slot.time) (swapped.rest place p q)

  -- the open place goes up
  pub IsOrderedBut-up : 0 < hole → hole < count → next ≡ above hole → time_at old hole < time_at old next → IsOrderedBut count next new
  IsOrderedBut-up some inside up later = record {
    rises = λ place positive below p q.
        ⊎_elim
        (λ here. absurd (q (ap above here ∙ sym up)))
        (λ apart.
        ⊎_elim
        (λ under.
        let from : time_at new (above place) ≡ time_at old next = ap (time_at new) under ∙ time_at-hole in
        let to : time_at new place ≡ time_at old place = time_at-rest place apart p in
        let most : time_at old next ≤ time_at old place = subst (λ n. time_at old n ≤ time_at old place) (sym up) (but.over place some below under) in
        omega (arith, from, to, most))
        (λ free. omega (arith, time_at-rest (above place) free q, time_at-rest place apart p, but.rises place positive below apart free))
        (cases_eq (above place) hole))
        (cases_eq place hole);
    over = λ place positive below under.
        let high : time_at old (above next) ≤ time_at old next = but.rises next positive (omega (arith, up, inside)) (omega (arith, up, some)) (omega (arith, up, some)) in
        let from : time_at new (above next) ≡ time_at old (above next) = time_at-rest (above next) (omega (arith, up, some)) (omega (arith, positive)) in
        ⊎_elim
        (λ here.
        let to : time_at new place ≡ time_at old next = ap (time_at new) here ∙ time_at-hole in
        omega (arith, from, to, high))
        (λ apart.
        let to : time_at new place ≡ time_at old place = time_at-rest place apart (omega (arith, under, positive)) in
        let rise : time_at old next ≤ time_at old place = subst (λ n. time_at old n ≤ time_at old place) under (but.rises place (omega (arith, under, positive)) below apart (omega (arith, under, up, some))) in
        omega (arith, from, to, high, rise))
        (cases_eq place hole);
  }

  pub IsEarly-up : 0 < hole → next ≡ above hole → time_at old hole < time_at old next → IsEarly count next new
  IsEarly-up some up later place positive below under =
      ⊎_elim
      (λ here.
      let to : time_at new place ≡ time_at old next = ap (time_at new) here ∙ time_at-hole in
      omega (arith, to, time_at-next, later))
      (λ apart.
      let to : time_at new place ≡ time_at old place = time_at-rest place apart (omega (arith, under, positive)) in
      let rise : time_at old next ≤ time_at old place = subst (λ n. time_at old n ≤ time_at old place) under (but.rises place positive below apart (omega (arith, under, up, some))) in
      omega (arith, to, time_at-next, later, rise))
      (cases_eq place hole)

  -- the open place goes down
  module _ (inside : next < count) (down : above next ≡ hole) (behind : hole < next) (later : time_at old next < time_at old hole) where
    pub IsOrderedBut-down : ((place : ℕ) → place < count → above place ≡ hole → 0 < place → time_at old next ≤ time_at old place) → IsOrderedBut count next new
    IsOrderedBut-down first = record {
      rises = λ place positive below p q.
          ⊎_elim
          (λ here.
          let from : time_at new (above place) ≡ time_at old (above place) = time_at-rest (above place) (omega (arith, here, positive)) q in
          let to : time_at new place ≡ time_at old next = ap (time_at new) here ∙ time_at-hole in
          let high : time_at old (above place) ≤ time_at old next = subst (λ n. time_at old (above n) ≤ time_at old next) (sym here) (but.over next (omega (arith, here, positive)) inside down) in
          omega (arith, from, to, high))
          (λ apart.
          let to : time_at new place ≡ time_at old place = time_at-rest place apart p in
          ⊎_elim
          (λ under.
          let from : time_at new (above place) ≡ time_at old next = ap (time_at new) under ∙ time_at-hole in
          omega (arith, from, to, first place below under positive))
          (λ free. omega (arith, time_at-rest (above place) free q, to, but.rises place positive below apart free))
          (cases_eq (above place) hole))
          (cases_eq place hole);
      over = λ place positive below under.
          let from : time_at new (above next) ≡ time_at old next = ap (time_at new) down ∙ time_at-hole in
          let to : time_at new place ≡ time_at old place = time_at-rest place (omega (arith, under, behind)) (omega (arith, under, positive)) in
          let rise : time_at old next ≤ time_at old place = subst (λ n. time_at old n ≤ time_at old place) under (but.rises place (omega (arith, under, behind)) below (omega (arith, under, behind)) (omega (arith, under, behind))) in
          omega (arith, from, to, rise);
    }

    pub IsLate-down : IsLate next new
    IsLate-down positive =
        let from : time_at new (above next) ≡ time_at old next = ap (time_at new) down ∙ time_at-hole in
        omega (arith, from, time_at-next, later)
