-- A timer that is set, at the place that its key has.
use Rattle.std.proofs.Common.{◌≡◌, ℕ, ◌+◌, ◌<◌, ◌≤◌, ◌≢◌, length, set, Some, sym, ap, ◌∙◌, subst, ⊎_elim, arith}
use Rattle.std.proofs.lemmas.Bool.{cases_eq}
use Rattle.std.proofs.lemmas.List.{get_or-set_same, get_or-set_other, length-set}
use Rattle.base_words.specs.declared.names.JobId.{JobId}
use Rattle.core_timers.specs.declared.row.Row.{Row}
use Rattle.core_timers.specs.declared.row.Slot.{Slot}
use Rattle.core_timers.specs.Tables.{Table, no_row, key_at, time_at, row_of, place_of, put, named, shown, timers_of}
use Rattle.core_timers.specs.Heap.{above, IsPlaced, IsOrdered, IsOrderedBut}
use Rattle.core_timers.proofs.Tables.{slot_at-put_here, slot_at-put_other, row_of-put_here, row_of-put_other, length-put_heap, length-put_rows}
use Rattle.core_timers.proofs.Shown.{shown-some, shown-count, shown-alike, timers_of-but}

-- a slot of the same key comes to a place
module _ (t : Table) (at : ℕ) (slot : Slot) (is : IsPlaced t) (within : at < length t.heap) (its : slot.key ≡ key_at t at) where
  key_within : slot.key < length t.rows
  key_within = omega (arith, its, is.keys at within, is.long)

  pub place_of-its : place_of t slot.key ≡ at
  place_of-its = ap (place_of t) its ∙ is.told at within

  key_at-put : (place : ℕ) → key_at (put t at slot) place ≡ key_at t place
  key_at-put place =
      ⊎_elim
      (λ here. ap (key_at (put t at slot)) here ∙ ap (λ (s : Slot). s.key) (slot_at-put_here t at slot within) ∙ its ∙ ap (key_at t) (sym here))
      (λ apart. ap (λ (s : Slot). s.key) (slot_at-put_other t at place slot apart))
      (cases_eq place at)

  place_of-put : (key : ℕ) → place_of (put t at slot) key ≡ place_of t key
  place_of-put key =
      ⊎_elim
      (λ here. ap (place_of (put t at slot)) here ∙ ap (λ (row : Row). row.at) (row_of-put_here t at slot key_within) ∙ sym place_of-its ∙ ap (place_of t) (sym here))
      (λ apart. ap (λ (row : Row). row.at) (row_of-put_other t at key slot apart))
      (cases_eq key slot.key)

  pub IsPlaced-put : IsPlaced (put t at slot)
  IsPlaced-put = record {
    long = omega (arith, is.long, length-put_heap t at slot, length-put_rows t at slot);
    few = omega (arith, is.few, length-put_heap t at slot);
    keys = λ place below. omega (arith, key_at-put place, length-put_heap t at slot, is.keys place (omega (arith, below, length-put_heap t at slot)));
    told = λ place below. ap (place_of (put t at slot)) (key_at-put place) ∙ place_of-put (key_at t place) ∙ is.told place (omega (arith, below, length-put_heap t at slot));
    places = λ key below. omega (arith, place_of-put key, length-put_heap t at slot, is.places key (omega (arith, below, length-put_heap t at slot)));
    there = λ key below. ap (key_at (put t at slot)) (place_of-put key) ∙ key_at-put (place_of t key) ∙ is.there key (omega (arith, below, length-put_heap t at slot));
  }

  -- where another key stands nothing changes
  pub shown-others : (count key : ℕ) → key < length t.rows → key ≢ slot.key → shown count (put t at slot).heap (row_of (put t at slot) key) ≡ shown count t.heap (row_of t key)
  shown-others count key below apart =
      let elsewhere : place_of t key ≢ at = λ same. apart (sym (is.there key (omega (arith, below, is.long))) ∙ ap (key_at t) same ∙ sym its) in
      let row : row_of (put t at slot) key ≡ row_of t key = row_of-put_other t at key slot apart in
      let time : time_at (put t at slot) (place_of t key) ≡ time_at t (place_of t key) = ap (λ (s : Slot). s.time) (slot_at-put_other t at (place_of t key) slot elsewhere) in
      shown-alike count t (put t at slot) (row_of t key) (row_of (put t at slot) key) (ap (λ (r : Row). r.at) row) (ap (λ (r : Row). r.name) row) (ap (λ n. time_at (put t at slot) n) (ap (λ (r : Row). r.at) row) ∙ time)

  -- and its key has its time from then on
  pub shown-its : (count : ℕ) → at < count → shown count (put t at slot).heap (row_of (put t at slot) slot.key) ≡ Some (record { name = (row_of t slot.key).name; time = slot.time })
  shown-its count set_there =
      let row = row_of-put_here t at slot key_within in
      let place : place_of (put t at slot) slot.key ≡ at = ap (λ (r : Row). r.at) row in
      let time : time_at (put t at slot) (place_of (put t at slot) slot.key) ≡ slot.time = ap (time_at (put t at slot)) place ∙ ap (λ (s : Slot). s.time) (slot_at-put_here t at slot within) in
      let name : (row_of (put t at slot) slot.key).name ≡ (row_of t slot.key).name = ap (λ (r : Row). r.name) row in
      shown-some count (put t at slot).heap (row_of (put t at slot) slot.key) (omega (arith, place, set_there)) ∙ (λ i. Some (record { name = name i; time = time i }))

  time_at-others : (place : ℕ) → place ≢ at → time_at (put t at slot) place ≡ time_at t place
  time_at-others place apart = ap (λ (s : Slot). s.time) (slot_at-put_other t at place slot apart)

  pub IsOrderedBut-put : (count : ℕ) → IsOrdered count t → at < count → IsOrderedBut count at (put t at slot)
  IsOrderedBut-put count order inside = record {
    rises = λ place some below p q. omega (arith, time_at-others (above place) q, time_at-others place p, order.rises place some below);
    over = λ place some below under.
        let low : time_at t at ≤ time_at t place = subst (λ n. time_at t n ≤ time_at t place) under (order.rises place (omega (arith, under, some)) below) in
        omega (arith, order.rises at some inside, low, time_at-others (above at) (omega (arith, some)), time_at-others place (omega (arith, under, some)));
  }

  pub IsOrderedBut-new : IsOrdered at t → IsOrderedBut (at + 1) at (put t at slot)
  IsOrderedBut-new order = record {
    rises = λ place some below p q. omega (arith, time_at-others (above place) q, time_at-others place p, order.rises place some (omega (arith, below, p)));
    over = λ place some below under. absurd (omega (arith, some, below, under));
  }

-- the timer of a key that has one gets another time
pub timers_of-again : (t : Table) (at : ℕ) (slot : Slot) → IsPlaced t → at < length t.heap → slot.key ≡ key_at t at → (count : ℕ) → at < count
    → timers_of count (put t at slot) ≡ set (timers_of count t) slot.key (Some (record { name = (row_of t slot.key).name; time = slot.time }))
timers_of-again t at slot is within its count inside =
    timers_of-but count count t (put t at slot) slot.key (Some (record { name = (row_of t slot.key).name; time = slot.time })) (length-put_rows t at slot) (omega (arith, its, is.keys at within, is.long))
    (shown-its t at slot is within its count inside) (λ key below apart. shown-others t at slot is within its count key below apart)

-- a key gets a name, and stands where it stood
module _ (t : Table) (key : ℕ) (name : JobId) (is : IsPlaced t) (within : key < length t.rows) where
  row_of-named : row_of (named t key name) key ≡ record (row_of t key) { name = name }
  row_of-named = get_or-set_same t.rows key (record (row_of t key) { name = name }) no_row within

  row_of-unnamed : (other : ℕ) → other ≢ key → row_of (named t key name) other ≡ row_of t other
  row_of-unnamed other apart = get_or-set_other t.rows key other (record (row_of t key) { name = name }) no_row apart

  place_of-named : (other : ℕ) → place_of (named t key name) other ≡ place_of t other
  place_of-named other =
      ⊎_elim
      (λ here. ap (place_of (named t key name)) here ∙ ap (λ (row : Row). row.at) row_of-named ∙ ap (place_of t) (sym here))
      (λ apart. ap (λ (row : Row). row.at) (row_of-unnamed other apart))
      (cases_eq other key)

  length-named : length (named t key name).rows ≡ length t.rows
  length-named = length-set t.rows key (record (row_of t key) { name = name })

  pub IsPlaced-named : IsPlaced (named t key name)
  IsPlaced-named = record {
    long = omega (arith, is.long, length-named);
    few = is.few;
    keys = is.keys;
    told = λ place below. place_of-named (key_at t place) ∙ is.told place below;
    places = λ other below. omega (arith, place_of-named other, is.places other below);
    there = λ other below. ap (key_at t) (place_of-named other) ∙ is.there other below;
  }

  pub IsOrdered-named : (count : ℕ) → IsOrdered count t → IsOrdered count (named t key name)
  IsOrdered-named count order = record { rises = order.rises }

-- the first key without a timer gets one
pub timers_of-more : (t : Table) (last time key : ℕ) (name : JobId) → IsPlaced t → last < length t.heap → key ≡ key_at t last
    → timers_of (last + 1) (put (named t key name) last (record { time = time; key = key })) ≡ set (timers_of last t) key (Some (record { name = name; time = time }))
timers_of-more t last time key name is within its =
    timers_of-but last (last + 1) t (put u last slot) key (Some (record { name = name; time = time })) (length-put_rows u last slot ∙ length-named t key name is inside) inside
    (shown-its u last slot placed within its (last + 1) (omega arith) ∙ ap (λ (r : Row). Some (record { name = r.name; time = time })) (row_of-named t key name is inside))
    (λ other below apart.
    let row = row_of-unnamed t key name is inside other apart in
    let elsewhere : place_of u other ≢ last = λ same. apart (sym (is.there other (omega (arith, below, is.long))) ∙ ap (key_at t) (sym (ap (λ (r : Row). r.at) row) ∙ same) ∙ sym its) in
    shown-others u last slot placed within its (last + 1) other (omega (arith, below, length-named t key name is inside)) apart ∙ sym (shown-count last u.heap (row_of u other) elsewhere) ∙ ap (shown last t.heap) row)
  where
    inside : key < length t.rows
    inside = omega (arith, its, is.keys last within, is.long)

    u : Table
    u = named t key name

    slot : Slot
    slot = record { time = time; key = key }

    placed : IsPlaced u
    placed = IsPlaced-named t key name is inside
