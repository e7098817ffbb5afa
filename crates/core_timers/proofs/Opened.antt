-- The timers as they are opened: each key stands at the place of its number, and none has a timer.
use Rattle.std.proofs.Common.{◌≡◌, ℕ, zero, suc, ◌<◌, ◌^◌, List, [], ◌∷◌, length, map, None, refl, sym, ap, ◌∙◌, arith}
use Rattle.std.specs.Prelude.{replicate}
use Rattle.core_index.specs.Buckets.{Names}
use Rattle.core_timers.specs.declared.row.Row.{Row}
use Rattle.core_timers.specs.declared.row.Slot.{Slot}
use Rattle.core_timers.specs.Timers.{Timers}
use Rattle.core_timers.specs.Tables.{Table, key_at, place_of, shown, timers_of}
use Rattle.core_timers.specs.Heap.{called, AreKept}
use Rattle.core_timers.proofs.Shown.{shown-none}
use Rattle.core_timers.proofs.Stands.{Stands-has}

none_shown : (heap : List Slot) (rows : List Row) → map (shown 0 heap) rows ≡ replicate (length rows) None
none_shown heap [] = refl
none_shown heap (row ∷ rows) = ap (λ timer. timer ∷ map (shown 0 heap) rows) (shown-none 0 heap row (omega arith)) ∙ ap (λ (timers : Timers). None ∷ timers) (none_shown heap rows)

pub timers_of-opened : (t : Table) (places : ℕ) → length t.rows ≡ places → timers_of 0 t ≡ replicate places None
timers_of-opened t places long = none_shown t.heap t.rows ∙ ap (λ n. replicate n None) long

none_called : (places : ℕ) → map called (replicate places None) ≡ replicate places None
none_called zero = refl
none_called (suc places) = ap (λ (names : Names). None ∷ names) (none_called places)

pub AreKept-opened : (t : Table) (names : Names) (places : ℕ) → length t.heap ≡ places → length t.rows ≡ places → places < 2 ^ 31 → ((place : ℕ) → place < places → key_at t place ≡ place)
    → ((key : ℕ) → key < places → place_of t key ≡ key) → names ≡ replicate places None → AreKept t names 0
AreKept-opened t names places heap rows few keys places_of vacant = record {
  placed = record {
    long = rows ∙ sym heap;
    few = omega (arith, heap, few);
    keys = λ place below. omega (arith, below, heap, keys place (omega (arith, below, heap)));
    told = λ place below. let here : place < places = omega (arith, below, heap) in ap (place_of t) (keys place here) ∙ places_of place here;
    places = λ key below. omega (arith, below, heap, places_of key (omega (arith, below, heap)));
    there = λ key below. let here : key < places = omega (arith, below, heap) in ap (key_at t) (places_of key here) ∙ keys key here;
  };
  order = record { rises = λ place some below. absurd (omega (arith, below)) };
  within = omega arith;
  known = vacant ∙ sym (none_called places) ∙ ap (map called) (sym (timers_of-opened t places rows));
  once = record { same = λ one other name first second. let stands = Stands-has 0 t one name first.0 first.1 in absurd (omega (arith, stands.set_there)) };
}
