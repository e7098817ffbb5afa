-- A timer that goes: the last place is its key's, and stands behind those that are set.
use Rattle.std.proofs.Common.{◌≡◌, ℕ, ◌+◌, ◌<◌, ◌≤◌, ◌≢◌, length, set, None, refl, sym, ap, ◌∙◌, subst, arith}
use Rattle.std.specs.Prelude.{slice_index_or}
use Rattle.std.proofs.lemmas.List.{get_or_read}
use Rattle.core_timers.specs.declared.row.Row.{Row}
use Rattle.core_timers.specs.declared.row.Slot.{Slot}
use Rattle.core_timers.specs.Tables.{Table, no_row, slot_at, key_at, time_at, row_of, place_of, put, timers_of}
use Rattle.core_timers.specs.Heap.{above, IsPlaced, IsOrdered, IsOrderedBut, Settles}
use Rattle.core_timers.proofs.Tables.{put-same}
use Rattle.core_timers.proofs.Shown.{shown-none, shown-count, timers_of-but}
use Rattle.core_timers.proofs.Swaps.{Swapped, Swapped-put, IsPlaced-swapped, timers_of-swapped}

-- the key at the last place has its timer no more, if the last place is no more among those that are set
pub timers_of-fewer : (last : ℕ) (t : Table) → IsPlaced t → last < length t.heap → timers_of last t ≡ set (timers_of (last + 1) t) (key_at t last) None
timers_of-fewer last t is within =
    timers_of-but (last + 1) last t t (key_at t last) None refl (omega (arith, is.keys last within, is.long))
    (shown-none last t.heap (row_of t (key_at t last)) (omega (arith, is.told last within)))
    (λ key below apart. shown-count last t.heap (row_of t key) (λ same. apart (sym (is.there key (omega (arith, below, is.long))) ∙ ap (key_at t) same)))

pub IsOrdered-fewer : (last : ℕ) (t : Table) → IsOrdered (last + 1) t → IsOrdered last t
IsOrdered-fewer last t order = record { rises = λ place some below. order.rises place some (omega (arith, below)) }

-- the last one comes to a place among the others
IsOrderedBut-swapped : (last at : ℕ) (old new : Table) → IsOrdered (last + 1) old → Swapped old new last at → at < last → IsOrderedBut last at new
IsOrderedBut-swapped last at old new order swapped before = record {
  rises = λ place some below p q.
      omega (arith, time_at-rest (above place) (omega (arith, below)) q, time_at-rest place (omega (arith, below)) p, order.rises place some (omega (arith, below)));
  over = λ place some below under.
      let high : time_at old (above at) ≤ time_at old at = order.rises at some (omega (arith, before)) in
      let low : time_at old at ≤ time_at old place = subst (λ n. time_at old n ≤ time_at old place) under (order.rises place (omega (arith, under, some)) (omega (arith, below))) in
      let from : time_at new (above at) ≡ time_at old (above at) = time_at-rest (above at) (omega (arith, before)) (omega (arith, some)) in
      let to : time_at new place ≡ time_at old place = time_at-rest place (omega (arith, below)) (omega (arith, under, some)) in
      omega (arith, high, low, from, to);
}
  where
    time_at-rest : (place : ℕ) → place ≢ last → place ≢ at → time_at new place ≡ time_at old place
    time_at-rest place p q = ap (λ (slot : Slot). slot.time) (swapped.rest place p q)

-- where its key stands, as it was read
pub told_at : (t : Table) (key : ℕ) (row : Row) → key < length t.rows → row ≡ slice_index_or t.rows key row → place_of t key ≡ row.at
told_at t key row within read = ap (λ (r : Row). r.at) (sym (get_or_read t.rows key row within read no_row))

-- the key's slot goes to the last place, and what stood there to the place of the key
module _ (last key at : ℕ) (t between : Table) (gone moved : Slot) (is : IsPlaced t) (order : IsOrdered (last + 1) t) (within : last < length t.heap) (inside : key < length t.rows) (before : at < last) (told : place_of t key ≡ at) (gone_is : gone ≡ slot_at t at)
    (moved_is : moved ≡ slot_at t last) (written : between ≡ put t last gone) where
  lower : at < length t.heap
  lower = omega (arith, before, within)

  swapped : Swapped t (put between at moved) last at
  swapped =
      let same : put t last (slot_at t last) ≡ t = put-same t last is within in
      let placed : IsPlaced (put t last (slot_at t last)) = subst IsPlaced (sym same) is in
      let swap = Swapped-put t last at (slot_at t last) placed within lower (omega (arith, before)) in
      let after : put between at moved ≡ put (put t last (slot_at t at)) at (slot_at t last) = ap (λ (u : Table). put u at moved) (written ∙ ap (put t last) gone_is) ∙ ap (put (put t last (slot_at t at)) at) moved_is in
      subst (λ (u : Table). Swapped t u last at) (sym after) (subst (λ (u : Table). Swapped u (put (put t last (slot_at t at)) at (slot_at t last)) last at) same swap)

  pub IsPlaced-goes : IsPlaced (put between at moved)
  IsPlaced-goes = IsPlaced-swapped t (put between at moved) last at is swapped within lower

  pub IsOrderedBut-goes : IsOrderedBut last at (put between at moved)
  IsOrderedBut-goes = IsOrderedBut-swapped last at t (put between at moved) order swapped before

  pub timers_of-gone : (new : Table) → Settles last (put between at moved) new → timers_of last new ≡ set (timers_of (last + 1) t) key None
  timers_of-gone new settles =
      let here : key_at (put between at moved) last ≡ key = ap (λ (slot : Slot). slot.key) swapped.first ∙ ap (key_at t) (sym told) ∙ is.there key (omega (arith, inside, is.long)) in
      let all = timers_of-swapped (last + 1) t (put between at moved) last at is swapped within lower (omega arith) (omega (arith, before)) in
      settles.same ∙ timers_of-fewer last (put between at moved) IsPlaced-goes (omega (arith, within, swapped.heap)) ∙ ap (λ k. set (timers_of (last + 1) (put between at moved)) k None) here ∙ ap (λ timers. set timers key None) all
