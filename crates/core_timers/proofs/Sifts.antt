-- A timer on its way up or down the heap.
use Rattle.std.proofs.Common.{◌≡◌, ℕ, ◌+◌, ◌*◌, ◌<◌, ◌≤◌, ◌≢◌, length, sym, ap, ◌∙◌, subst, arith}
use Rattle.std.specs.Prelude.{slice_index_or}
use Rattle.std.proofs.lemmas.List.{get_or_read}
use Rattle.core_timers.specs.declared.row.Slot.{Slot}
use Rattle.core_timers.specs.Tables.{Table, no_slot, slot_at, key_at, time_at, due_at, put, timers_of}
use Rattle.core_timers.specs.Heap.{above, IsPlaced, IsOrderedBut, IsEarly, IsLate, Settles}
use Rattle.core_timers.proofs.Tables.{slot_at-put_here, slot_at-put_other, length-put_heap, length-put_rows}
use Rattle.core_timers.proofs.Swaps.{Swapped, Swapped-put, IsPlaced-swapped, timers_of-swapped}
use Rattle.core_timers.proofs.Orders.{IsOrdered-settled, IsOrderedBut-up, IsEarly-up, IsOrderedBut-down, IsLate-down}

-- the timer would stand in the open place, and only there the order may be wrong
pub record Goes (count hole : ℕ) (start now : Table) : Type 0 where
  pub inside : hole < count
  pub few : count ≤ length now.heap
  pub placed : IsPlaced now
  pub order : IsOrderedBut count hole now
  pub same : timers_of count now ≡ timers_of count start

-- a slot that was read
pub slot_read : (t : Table) (place : ℕ) (slot : Slot) → place < length t.heap → slot ≡ slice_index_or t.heap place slot → slot ≡ slot_at t place
slot_read t place slot within read = get_or_read t.heap place slot within read no_slot

-- the open place is one of the heap
hole_within : (count hole : ℕ) (start t : Table) (slot : Slot) → Goes count hole start (put t hole slot) → hole < length t.heap
hole_within count hole start t slot goes = omega (arith, goes.inside, goes.few, length-put_heap t hole slot)

-- it would have the timer's time, and all others have the time that they have
time_at-open : (t : Table) (hole : ℕ) (slot : Slot) → hole < length t.heap → time_at (put t hole slot) hole ≡ slot.time
time_at-open t hole slot within = ap (λ (s : Slot). s.time) (slot_at-put_here t hole slot within)

time_at-beside : (t : Table) (hole place : ℕ) (slot : Slot) → place ≢ hole → time_at (put t hole slot) place ≡ due_at t.heap place
time_at-beside t hole place slot apart = ap (λ (s : Slot). s.time) (slot_at-put_other t hole place slot apart)

-- its key is one of the rows
pub key_within : (count hole : ℕ) (start t : Table) (slot : Slot) → Goes count hole start (put t hole slot) → slot.key < length t.rows
key_within count hole start t slot goes =
    let within = hole_within count hole start t slot goes in
    let here : key_at (put t hole slot) hole ≡ slot.key = ap (λ (s : Slot). s.key) (slot_at-put_here t hole slot within) in
    omega (arith, here, goes.placed.keys hole (omega (arith, within, length-put_heap t hole slot)), goes.placed.long, length-put_rows t hole slot)

module _ (count hole next : ℕ) (start t later : Table) (slot other : Slot) (goes : Goes count hole start (put t hole slot)) (inside : next < count) (apart : next ≢ hole) (read : other ≡ slice_index_or t.heap next other) (written : later ≡ put t hole other) where
  within : hole < length t.heap
  within = hole_within count hole start t slot goes

  next_within : next < length t.heap
  next_within = omega (arith, inside, goes.few, length-put_heap t hole slot)

  is_read : other ≡ slot_at t next
  is_read = slot_read t next other next_within read

  pub swapped : Swapped (put t hole slot) (put later next slot) hole next
  swapped =
      subst (λ (u : Table). Swapped (put t hole slot) (put u next slot) hole next) (sym (written ∙ ap (put t hole) is_read)) (Swapped-put t hole next slot goes.placed within next_within apart)

  time_at-next : time_at (put t hole slot) next ≡ other.time
  time_at-next = ap (λ (s : Slot). s.time) (slot_at-put_other t hole next slot apart ∙ sym is_read)

  -- the further place is open from then on
  pub Goes-on : IsOrderedBut count next (put later next slot) → Goes count next start (put later next slot)
  Goes-on order =
      let before = put t hole slot in
      let one : hole < length before.heap = omega (arith, goes.inside, goes.few) in
      let two : next < length before.heap = omega (arith, inside, goes.few) in
      record {
        inside = inside;
        few = omega (arith, goes.few, swapped.heap);
        placed = IsPlaced-swapped before (put later next slot) hole next goes.placed swapped one two;
        order = order;
        same = timers_of-swapped count before (put later next slot) hole next goes.placed swapped one two goes.inside inside ∙ goes.same;
      }

  -- it is the one above, which is due later than the timer
  pub Goes-up : 0 < hole → next ≡ above hole → slot.time < other.time → Goes count next start (put later next slot) × IsEarly count next (put later next slot)
  Goes-up some up below =
      let before = put t hole slot in
      let later_there : time_at before hole < time_at before next = omega (arith, time_at-open t hole slot within, time_at-next, below) in
      (Goes-on (IsOrderedBut-up count hole next before (put later next slot) goes.order swapped some goes.inside up later_there), IsEarly-up count hole next before (put later next slot) goes.order swapped some up later_there)

  -- it is the first of those below, which is due earlier than the timer
  pub Goes-down : above next ≡ hole → hole < next → other.time < slot.time → ((place : ℕ) → place < count → above place ≡ hole → 0 < place → due_at t.heap next ≤ due_at t.heap place)
      → Goes count next start (put later next slot) × IsLate next (put later next slot)
  Goes-down down behind below first =
      let before = put t hole slot in
      let earlier : time_at before next < time_at before hole = omega (arith, time_at-open t hole slot within, time_at-next, below) in
      let least : (place : ℕ) → place < count → above place ≡ hole → 0 < place → time_at before next ≤ time_at before place
      = λ place below under some. omega (arith, time_at-beside t hole next slot apart, time_at-beside t hole place slot (omega (arith, under, some)), first place below under some) in
      (Goes-on (IsOrderedBut-down count hole next before (put later next slot) goes.order swapped inside down behind earlier least), IsLate-down count hole next before (put later next slot) goes.order swapped inside down behind earlier)

-- the one above the open place isn't due later than the timer
pub IsLate-found : (count hole : ℕ) (start t : Table) (slot other : Slot) → Goes count hole start (put t hole slot) → 0 < hole → other ≡ slice_index_or t.heap (above hole) other → other.time ≤ slot.time → time_at (put t hole slot) (above hole) ≤ time_at (put t hole slot) hole
IsLate-found count hole start t slot other goes some read late =
    let within = hole_within count hole start t slot goes in
    let from : other.time ≡ due_at t.heap (above hole) = ap (λ (s : Slot). s.time) (slot_read t (above hole) other (omega (arith, within)) read) in
    omega (arith, from, late, time_at-open t hole slot within, time_at-beside t hole (above hole) slot (omega (arith, some)))

-- no place is below the open one
pub IsEarly-last : (count hole : ℕ) (t : Table) → count ≤ 2 * hole + 1 → IsEarly count hole t
IsEarly-last count hole t last place some within under = absurd (omega (arith, last, some, within, under))

-- the first of those below isn't due earlier than the timer
pub IsEarly-found : (count hole next : ℕ) (start t : Table) (slot other : Slot) → Goes count hole start (put t hole slot) → next < count → other ≡ slice_index_or t.heap next other → slot.time ≤ other.time
    → ((place : ℕ) → place < count → above place ≡ hole → 0 < place → due_at t.heap next ≤ due_at t.heap place) → IsEarly count hole (put t hole slot)
IsEarly-found count hole next start t slot other goes inside read early first place some within under =
    let inner : next < length t.heap = omega (arith, inside, goes.few, length-put_heap t hole slot) in
    let from : other.time ≡ due_at t.heap next = ap (λ (s : Slot). s.time) (slot_read t next other inner read) in
    omega (arith, from, early, time_at-open t hole slot (hole_within count hole start t slot goes), time_at-beside t hole place slot (omega (arith, under, some)), first place within under some)

-- the timer stays
pub Settles-settled : (count hole : ℕ) (start now later : Table) → Goes count hole start now → IsEarly count hole now → IsLate hole now → later ≡ now → Settles count start later
Settles-settled count hole start now later goes early late is =
    subst (λ (u : Table). Settles count start u) (sym is) (record { placed = goes.placed; order = IsOrdered-settled count hole now goes.order early late; same = goes.same })
