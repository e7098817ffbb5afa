-- What stands where, after a slot was put to a place.
use Rattle.std.proofs.Common.{◌≡◌, ℕ, ◌<◌, ◌≢◌, length, set, sym, ap, ◌∙◌, ⊎_elim}
use Rattle.std.proofs.lemmas.Bool.{cases_eq}
use Rattle.std.proofs.lemmas.List.{get_or-set_same, get_or-set_other, set-get_or, length-set}
use Rattle.core_timers.specs.declared.row.Row.{Row}
use Rattle.core_timers.specs.declared.row.Slot.{Slot}
use Rattle.core_timers.specs.Tables.{Table, no_slot, no_row, slot_at, key_at, row_of, put}
use Rattle.core_timers.specs.Heap.{IsPlaced}

pub slot_at-put_here : (t : Table) (place : ℕ) (slot : Slot) → place < length t.heap → slot_at (put t place slot) place ≡ slot
slot_at-put_here t place slot within = get_or-set_same t.heap place slot no_slot within

pub slot_at-put_other : (t : Table) (place other : ℕ) (slot : Slot) → other ≢ place → slot_at (put t place slot) other ≡ slot_at t other
slot_at-put_other t place other slot apart = get_or-set_other t.heap place other slot no_slot apart

pub row_of-put_here : (t : Table) (place : ℕ) (slot : Slot) → slot.key < length t.rows → row_of (put t place slot) slot.key ≡ record (row_of t slot.key) { at = place }
row_of-put_here t place slot within = get_or-set_same t.rows slot.key (record (row_of t slot.key) { at = place }) no_row within

pub row_of-put_other : (t : Table) (place key : ℕ) (slot : Slot) → key ≢ slot.key → row_of (put t place slot) key ≡ row_of t key
row_of-put_other t place key slot apart = get_or-set_other t.rows slot.key key (record (row_of t slot.key) { at = place }) no_row apart

-- names stay
pub name_of-put : (t : Table) (place key : ℕ) (slot : Slot) → slot.key < length t.rows → (row_of (put t place slot) key).name ≡ (row_of t key).name
name_of-put t place key slot within =
    ⊎_elim
    (λ same. ap (λ k. (row_of (put t place slot) k).name) same ∙ ap (λ (row : Row). row.name) (row_of-put_here t place slot within) ∙ ap (λ k. (row_of t k).name) (sym same))
    (λ apart. ap (λ (row : Row). row.name) (row_of-put_other t place key slot apart))
    (cases_eq key slot.key)

pub length-put_heap : (t : Table) (place : ℕ) (slot : Slot) → length (put t place slot).heap ≡ length t.heap
length-put_heap t place slot = length-set t.heap place slot

pub length-put_rows : (t : Table) (place : ℕ) (slot : Slot) → length (put t place slot).rows ≡ length t.rows
length-put_rows t place slot = length-set t.rows slot.key (record (row_of t slot.key) { at = place })

-- what stands there already is put there in vain
pub put-same : (t : Table) (place : ℕ) → IsPlaced t → place < length t.heap → put t place (slot_at t place) ≡ t
put-same t place is within = λ i. record { heap = heap i; rows = rows i }
  where
    heap : set t.heap place (slot_at t place) ≡ t.heap
    heap = set-get_or t.heap place no_slot

    row : record (row_of t (key_at t place)) { at = place } ≡ row_of t (key_at t place)
    row = λ i. record (row_of t (key_at t place)) { at = sym (is.told place within) i }

    rows : set t.rows (key_at t place) (record (row_of t (key_at t place)) { at = place }) ≡ t.rows
    rows = ap (set t.rows (key_at t place)) row ∙ set-get_or t.rows (key_at t place) no_row
