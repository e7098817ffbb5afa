-- The timer that is due first, as it was read.
use Rattle.std.proofs.Common.{◌≡◌, ℕ, ◌<◌, ◌≤◌, length, set, Some, None, sym, ap, ◌∙◌, subst, arith}
use Rattle.std.specs.Prelude.{slice_index_or}
use Rattle.std.proofs.lemmas.List.{get_or_read}
use Rattle.core_index.specs.Buckets.{Names, name_at}
use Rattle.core_timers.specs.declared.row.Row.{Row}
use Rattle.core_timers.specs.declared.row.Slot.{Slot}
use Rattle.core_timers.specs.Timers.{Timers, Has, IsVacant, IsFrom, IsAfter, IsNext, IsDue}
use Rattle.core_timers.specs.Tables.{Table, no_row, slot_at, key_at, row_of, timers_of}
use Rattle.core_timers.specs.Heap.{AreKept}
use Rattle.core_timers.proofs.Sifts.{slot_read}
use Rattle.core_timers.proofs.Stands.{none_some, Has-first, IsFrom-first}
use Rattle.core_timers.proofs.Named.{called-HasName}

module _ (t : Table) (names : Names) (count : ℕ) (kept : AreKept t names count) (some : 0 < count) (first : Slot) (read : first ≡ slice_index_or t.heap 0 first) where
  is_first : first ≡ slot_at t 0
  is_first = slot_read t 0 first (omega (arith, some, kept.within)) read

  pub first_within : first.key < length t.rows
  first_within = let key : first.key ≡ key_at t 0 = ap (λ (s : Slot). s.key) is_first in omega (arith, key, kept.placed.keys 0 (omega (arith, some, kept.within)), kept.placed.long)

  pub IsFrom-read : IsFrom first.time (timers_of count t)
  IsFrom-read = subst (λ (s : Slot). IsFrom s.time (timers_of count t)) (sym is_first) (IsFrom-first count t kept.order)

  has_named : Has (timers_of count t) first.key (row_of t first.key).name first.time
  has_named = subst (λ (s : Slot). Has (timers_of count t) s.key (row_of t s.key).name s.time) (sym is_first) (Has-first count t kept.placed some kept.within)

  pub IsNext-read : (old : Timers) → timers_of count t ≡ old → IsNext first.time old
  IsNext-read old is = subst (λ (v : Timers). IsNext first.time v) is (record { key = first.key; name = (row_of t first.key).name; had = has_named; least = IsFrom-read })

  -- and the row of its key
  module _ (row : Row) (told : row ≡ slice_index_or t.rows first.key row) where
    has_read : Has (timers_of count t) first.key row.name first.time
    has_read = subst (λ (r : Row). Has (timers_of count t) first.key r.name first.time) (sym (get_or_read t.rows first.key row first_within told no_row)) has_named

    pub found-first : name_at names first.key ≡ Some row.name
    found-first = called-HasName (timers_of count t) names first.key row.name kept.known (first.time, has_read)

    pub IsDue-read : (now : ℕ) (old : Timers) → first.time ≤ now → timers_of count t ≡ old → IsDue old now row.name
    IsDue-read now old due is = subst (λ (v : Timers). IsDue v now row.name) is (record { time = first.time; due = due; least = IsFrom-read; key = first.key; had = has_read })

-- each timer is due after a time that is before that of the first, or if there is none
pub IsAfter-first : (timers : Timers) (now time : ℕ) → now < time → IsFrom time timers → IsAfter now timers
IsAfter-first timers now time early from key name due has = omega (arith, early, from key name due has)

pub IsAfter-none : (timers : Timers) (now : ℕ) → IsVacant timers → IsAfter now timers
IsAfter-none timers now vacant key name due has = absurd (none_some (sym (vacant key) ∙ has))
