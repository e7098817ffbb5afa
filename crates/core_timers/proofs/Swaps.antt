-- Two places of a table that are swapped.
use Rattle.std.proofs.Common.{◌≡◌, ℕ, ◌<◌, ◌≢◌, length, sym, ap, ◌∙◌, subst, ⊎_elim, arith}
use Rattle.std.proofs.lemmas.Bool.{cases_eq}
use Rattle.core_timers.specs.declared.row.Row.{Row}
use Rattle.core_timers.specs.declared.row.Slot.{Slot}
use Rattle.core_timers.specs.Tables.{Table, slot_at, key_at, time_at, row_of, place_of, put, shown, timers_of}
use Rattle.core_timers.specs.Heap.{IsPlaced}
use Rattle.core_timers.proofs.Tables.{slot_at-put_here, slot_at-put_other, row_of-put_here, row_of-put_other, name_of-put, length-put_heap, length-put_rows}
use Rattle.core_timers.proofs.Shown.{shown-same, shown-alike, timers_of-same}

-- the new table has the slots of two places swapped, and tells so
pub record Swapped (old new : Table) (one other : ℕ) : Type 0 where
  pub heap : length new.heap ≡ length old.heap
  pub rows : length new.rows ≡ length old.rows
  pub first : slot_at new one ≡ slot_at old other
  pub second : slot_at new other ≡ slot_at old one
  pub rest : (place : ℕ) → place ≢ one → place ≢ other → slot_at new place ≡ slot_at old place
  pub first_row : place_of new (key_at old other) ≡ one
  pub second_row : place_of new (key_at old one) ≡ other
  pub other_rows : (key : ℕ) → key ≢ key_at old one → key ≢ key_at old other → place_of new key ≡ place_of old key
  pub names : (key : ℕ) → (row_of new key).name ≡ (row_of old key).name

-- each key still stands at one place
pub IsPlaced-swapped : (old new : Table) (one other : ℕ) → IsPlaced old → Swapped old new one other → one < length old.heap → other < length old.heap → IsPlaced new
IsPlaced-swapped old new one other is swapped inside within = record {
  long = omega (arith, is.long, swapped.heap, swapped.rows);
  few = omega (arith, is.few, swapped.heap);
  keys = λ place below.
      let here : place < length old.heap = omega (arith, below, swapped.heap) in
      by_place place (λ place. key_at new place < length new.heap)
      (let same = key_at_one in omega (arith, same, is.keys other within, swapped.heap))
      (let same = key_at_other in omega (arith, same, is.keys one inside, swapped.heap))
      (λ p q. let same = key_at_rest place p q in omega (arith, same, is.keys place here, swapped.heap));
  told = λ place below.
      let here : place < length old.heap = omega (arith, below, swapped.heap) in
      by_place place (λ place. place_of new (key_at new place) ≡ place)
      (ap (place_of new) key_at_one ∙ swapped.first_row)
      (ap (place_of new) key_at_other ∙ swapped.second_row)
      (λ p q.
      ap (place_of new) (key_at_rest place p q)
      ∙ swapped.other_rows (key_at old place) (λ same. p (sym (is.told place here) ∙ ap (place_of old) same ∙ is.told one inside)) (λ same. q (sym (is.told place here) ∙ ap (place_of old) same ∙ is.told other within))
      ∙ is.told place here);
  places = λ key below.
      let here : key < length old.heap = omega (arith, below, swapped.heap) in
      by_key key (λ key. place_of new key < length new.heap)
      (let at = swapped.second_row in omega (arith, at, within, swapped.heap))
      (let at = swapped.first_row in omega (arith, at, inside, swapped.heap))
      (λ p q. let at = swapped.other_rows key p q in omega (arith, at, is.places key here, swapped.heap));
  there = λ key below.
      let here : key < length old.heap = omega (arith, below, swapped.heap) in
      by_key key (λ key. key_at new (place_of new key) ≡ key)
      (ap (key_at new) swapped.second_row ∙ key_at_other)
      (ap (key_at new) swapped.first_row ∙ key_at_one)
      (λ p q.
      ap (key_at new) (swapped.other_rows key p q)
      ∙ key_at_rest (place_of old key) (λ same. p (sym (is.there key here) ∙ ap (key_at old) same)) (λ same. q (sym (is.there key here) ∙ ap (key_at old) same))
      ∙ is.there key here);
}
  where
    key_at_one : key_at new one ≡ key_at old other
    key_at_one = ap (λ (slot : Slot). slot.key) swapped.first

    key_at_other : key_at new other ≡ key_at old one
    key_at_other = ap (λ (slot : Slot). slot.key) swapped.second

    key_at_rest : (place : ℕ) → place ≢ one → place ≢ other → key_at new place ≡ key_at old place
    key_at_rest place p q = ap (λ (slot : Slot). slot.key) (swapped.rest place p q)

    by_place : (place : ℕ) (P : ℕ → Type 0) → P one → P other → (place ≢ one → place ≢ other → P place) → P place
    by_place place P at_one at_other at_rest =
        ⊎_elim (λ same. subst P (sym same) at_one) (λ p. ⊎_elim (λ same. subst P (sym same) at_other) (λ q. at_rest p q) (cases_eq place other)) (cases_eq place one)

    by_key : (key : ℕ) (P : ℕ → Type 0) → P (key_at old one) → P (key_at old other) → (key ≢ key_at old one → key ≢ key_at old other → P key) → P key
    by_key key P at_one at_other at_rest =
        ⊎_elim (λ same. subst P (sym same) at_one) (λ p. ⊎_elim (λ same. subst P (sym same) at_other) (λ q. at_rest p q) (cases_eq key (key_at old other))) (cases_eq key (key_at old one))

-- the keys of both places, if both are among those that are set, and all others have the timers that they had
pub timers_of-swapped : (count : ℕ) (old new : Table) (one other : ℕ) → IsPlaced old → Swapped old new one other → one < length old.heap → other < length old.heap → one < count → other < count → timers_of count new ≡ timers_of count old
timers_of-swapped count old new one other is swapped inside within one_set other_set =
    timers_of-same count count old new swapped.rows
    (λ key below.
    let here : key < length old.heap = omega (arith, below, is.long) in
    ⊎_elim
    (λ same. moved key other one other_set one_set (ap (place_of new) same ∙ swapped.second_row) (ap (place_of old) same ∙ is.told one inside) (ap (λ (slot : Slot). slot.time) swapped.second))
    (λ p.
    ⊎_elim
    (λ same. moved key one other one_set other_set (ap (place_of new) same ∙ swapped.first_row) (ap (place_of old) same ∙ is.told other within) (ap (λ (slot : Slot). slot.time) swapped.first))
    (λ q. stays key here p q)
    (cases_eq key (key_at old other)))
    (cases_eq key (key_at old one)))
  where
    moved : (key now was : ℕ) → now < count → was < count → place_of new key ≡ now → place_of old key ≡ was → time_at new now ≡ time_at old was → shown count new.heap (row_of new key) ≡ shown count old.heap (row_of old key)
    moved key now was now_set was_set at from same =
        shown-same count old new (row_of old key) (row_of new key) (omega (arith, from, was_set)) (omega (arith, at, now_set)) (swapped.names key) (ap (time_at new) at ∙ same ∙ ap (time_at old) (sym from))

    stays : (key : ℕ) → key < length old.heap → key ≢ key_at old one → key ≢ key_at old other → shown count new.heap (row_of new key) ≡ shown count old.heap (row_of old key)
    stays key here p q =
        let at : place_of new key ≡ place_of old key = swapped.other_rows key p q in
        let rest : slot_at new (place_of old key) ≡ slot_at old (place_of old key)
        = swapped.rest (place_of old key) (λ same. p (sym (is.there key here) ∙ ap (key_at old) same)) (λ same. q (sym (is.there key here) ∙ ap (key_at old) same)) in
        shown-alike count old new (row_of old key) (row_of new key) at (swapped.names key) (ap (time_at new) at ∙ ap (λ (slot : Slot). slot.time) rest)

-- the slot of a further place goes to an open one, and the further place is open from then on
pub Swapped-put : (t : Table) (hole next : ℕ) (slot : Slot) → IsPlaced (put t hole slot) → hole < length t.heap → next < length t.heap → next ≢ hole → Swapped (put t hole slot) (put (put t hole (slot_at t next)) next slot) hole next
Swapped-put t hole next slot is inside within apart = record {
  heap = length-put_heap (put t hole (slot_at t next)) next slot ∙ length-put_heap t hole (slot_at t next) ∙ sym (length-put_heap t hole slot);
  rows = length-put_rows (put t hole (slot_at t next)) next slot ∙ length-put_rows t hole (slot_at t next) ∙ sym (length-put_rows t hole slot);
  first = slot_at-put_other between next hole slot (λ same. apart (sym same)) ∙ slot_at-put_here t hole other inside ∙ sym at_next;
  second = slot_at-put_here between next slot also ∙ sym at_hole;
  rest = λ place p q. slot_at-put_other between next place slot q ∙ slot_at-put_other t hole place other p ∙ sym (slot_at-put_other t hole place slot p);
  first_row =
      ap (place_of after) next_key
      ∙ ap (λ (row : Row). row.at) (row_of-put_other between next other.key slot differs)
      ∙ ap (λ (row : Row). row.at) (row_of-put_here t hole other other_key);
  second_row = ap (place_of after) hole_key ∙ ap (λ (row : Row). row.at) (row_of-put_here between next slot key_between);
  other_rows = λ key p q.
      ap (λ (row : Row). row.at) (row_of-put_other between next key slot (λ same. p (same ∙ sym hole_key)) ∙ row_of-put_other t hole key other (λ same. q (same ∙ sym next_key)) ∙ sym (row_of-put_other t hole key slot (λ same. p (same ∙ sym hole_key))));
  names = λ key. name_of-put between next key slot key_between ∙ name_of-put t hole key other other_key ∙ sym (name_of-put t hole key slot slot_key);
}
  where
    other : Slot
    other = slot_at t next

    before : Table
    before = put t hole slot

    between : Table
    between = put t hole other

    after : Table
    after = put between next slot

    at_hole : slot_at before hole ≡ slot
    at_hole = slot_at-put_here t hole slot inside

    at_next : slot_at before next ≡ other
    at_next = slot_at-put_other t hole next slot apart

    hole_key : key_at before hole ≡ slot.key
    hole_key = ap (λ (s : Slot). s.key) at_hole

    next_key : key_at before next ≡ other.key
    next_key = ap (λ (s : Slot). s.key) at_next

    wide : length before.heap ≡ length t.heap
    wide = length-put_heap t hole slot

    slot_key : slot.key < length t.rows
    slot_key = omega (arith, hole_key, is.keys hole (omega (arith, inside, wide)), is.long, length-put_rows t hole slot)

    other_key : other.key < length t.rows
    other_key = omega (arith, next_key, is.keys next (omega (arith, within, wide)), is.long, length-put_rows t hole slot)

    also : next < length between.heap
    also = omega (arith, within, length-put_heap t hole other)

    key_between : slot.key < length between.rows
    key_between = omega (arith, slot_key, length-put_rows t hole other)

    differs : other.key ≢ slot.key
    differs same = apart (sym (is.told next (omega (arith, within, wide))) ∙ ap (place_of before) (next_key ∙ same ∙ sym hole_key) ∙ is.told hole (omega (arith, inside, wide)))
