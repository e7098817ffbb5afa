-- What is kept as a key gets a timer, or loses it.
use Rattle.std.proofs.Common.{◌≡◌, ℕ, ◌≤◌, length, map, set, Option, sym, ap, ◌∙◌, subst, arith}
use Rattle.std.proofs.lemmas.List.{length-map, length-set, map-set}
use Rattle.core_index.specs.Buckets.{Names}
use Rattle.core_timers.specs.Timers.{Timer, HasOneEach}
use Rattle.core_timers.specs.Tables.{Table, shown, timers_of}
use Rattle.core_timers.specs.Heap.{called, IsPlaced, IsOrdered, AreKept}

-- a key gets a timer, or loses it
pub AreKept-set : (t new : Table) (names later : Names) (count left key : ℕ) (timer : Option Timer) → AreKept t names count → IsPlaced new → IsOrdered left new → left ≤ length t.heap → timers_of left new ≡ set (timers_of count t) key timer → later ≡ set names key (called timer)
    → HasOneEach (set (timers_of count t) key timer) → AreKept new later left
AreKept-set t new names later count left key timer kept placed order within is told once = record {
  placed = placed;
  order = order;
  within =
      let long : length (timers_of left new) ≡ length (timers_of count t) = ap length is ∙ length-set (timers_of count t) key timer in
      omega (arith, within, long, length-map new.rows (shown left new.heap), length-map t.rows (shown count t.heap), kept.placed.long, placed.long);
  known = told ∙ ap (λ (v : Names). set v key (called timer)) kept.known ∙ sym (map-set called (timers_of count t) key timer) ∙ sym (ap (map called) is);
  once = subst HasOneEach (sym is) once;
}
