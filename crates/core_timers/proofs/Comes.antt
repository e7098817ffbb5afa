-- A name that had no timer gets one.
use Rattle.std.proofs.Common.{◌≡◌, ℕ, ◌+◌, ◌<◌, length, set, Some, None, sym, ap, ◌∙◌, subst, inr, arith}
use Rattle.std.specs.Prelude.{slice_index_or}
use Rattle.std.proofs.lemmas.List.{get_or_read, length-map}
use Rattle.base_words.specs.declared.names.JobId.{JobId}
use Rattle.core_index.specs.Buckets.{Names, name_at}
use Rattle.core_timers.specs.declared.row.Row.{Row}
use Rattle.core_timers.specs.declared.row.Slot.{Slot}
use Rattle.core_timers.specs.Timers.{Timers, timer_at, LacksName, Sets}
use Rattle.core_timers.specs.Tables.{Table, table, no_row, key_at, place_of, put, named, shown, timers_of}
use Rattle.core_timers.specs.Heap.{called, IsPlaced, IsOrderedBut, Settles, AreKept}
use Rattle.core_timers.proofs.Stands.{timer_at-behind}
use Rattle.core_timers.proofs.Sifts.{slot_read}
use Rattle.core_timers.proofs.Named.{name_at-called, LacksName-called, HasOneEach-set}
use Rattle.core_timers.proofs.Grows.{IsPlaced-put, IsOrderedBut-new, IsPlaced-named, IsOrdered-named, timers_of-more}
use Rattle.core_timers.proofs.Kept.{AreKept-set}

-- a name that has no timer gets one, under the key that stands behind those that are set
module _ (t : Table) (names : Names) (count : ℕ) (name : JobId) (time : ℕ) (kept : AreKept t names count) (none : (other : ℕ) → name_at names other ≡ Some name → ⊥) (room : count < length t.heap) (free : Slot) (read : free ≡ slice_index_or t.heap count free) where
  its : free.key ≡ key_at t count
  its = ap (λ (slot : Slot). slot.key) (slot_read t count free room read)

  pub key_within : free.key < length t.rows
  key_within = omega (arith, its, kept.placed.keys count room, kept.placed.long)

  no_timer : timer_at (timers_of count t) free.key ≡ None
  no_timer = let there : place_of t free.key ≡ count = ap (place_of t) its ∙ kept.placed.told count room in timer_at-behind count t free.key (omega (arith, there))

  pub vacant : name_at names free.key ≡ None
  vacant = ap (λ v. name_at v free.key) kept.known ∙ name_at-called (timers_of count t) free.key ∙ ap called no_timer

  lacks : LacksName (timers_of count t) name
  lacks = LacksName-called (timers_of count t) names name kept.known none

  wide : free.key < length (timers_of count t)
  wide = omega (arith, key_within, length-map t.rows (shown count t.heap))

  -- its row gets the name first
  module _ (row : Row) (row_read : row ≡ slice_index_or t.rows free.key row) where
    written : table t.heap (set t.rows free.key (record row { name = name })) ≡ named t free.key name
    written = ap (λ (r : Row). table t.heap (set t.rows free.key (record r { name = name }))) (get_or_read t.rows free.key row key_within row_read no_row)

    placed_named : IsPlaced (named t free.key name)
    placed_named = IsPlaced-named t free.key name kept.placed key_within

    pub IsPlaced-more : IsPlaced (put (table t.heap (set t.rows free.key (record row { name = name }))) count (record { time = time; key = free.key }))
    IsPlaced-more =
        subst (λ (v : Table). IsPlaced (put v count (record { time = time; key = free.key }))) (sym written) (IsPlaced-put (named t free.key name) count (record { time = time; key = free.key }) placed_named room its)

    pub IsOrderedBut-more : IsOrderedBut (count + 1) count (put (table t.heap (set t.rows free.key (record row { name = name }))) count (record { time = time; key = free.key }))
    IsOrderedBut-more =
        subst (λ (v : Table). IsOrderedBut (count + 1) count (put v count (record { time = time; key = free.key }))) (sym written)
        (IsOrderedBut-new (named t free.key name) count (record { time = time; key = free.key }) placed_named room its (IsOrdered-named t free.key name kept.placed key_within count kept.order))

    module _ (new : Table) (settles : Settles (count + 1) (put (table t.heap (set t.rows free.key (record row { name = name }))) count (record { time = time; key = free.key })) new) where
      timers_of-come : timers_of (count + 1) new ≡ set (timers_of count t) free.key (Some (record { name = name; time = time }))
      timers_of-come =
          settles.same ∙ ap (λ (v : Table). timers_of (count + 1) (put v count (record { time = time; key = free.key }))) written ∙ timers_of-more t count time free.key name kept.placed room its

      pub AreKept-more : (later : Names) → later ≡ set names free.key (Some name) → AreKept new later (count + 1)
      AreKept-more later told =
          AreKept-set t new names later count (count + 1) free.key (Some (record { name = name; time = time })) kept settles.placed settles.order (omega (arith, room)) timers_of-come told
          (HasOneEach-set (timers_of count t) free.key name time wide kept.once (inr (no_timer, lacks)))

      pub Sets-more : (old : Timers) → timers_of count t ≡ old → Sets old name time (timers_of (count + 1) new)
      Sets-more old is = subst (λ (v : Timers). Sets v name time (timers_of (count + 1) new)) is (record { key = free.key; within = wide; before = inr (no_timer, lacks); after = timers_of-come })
