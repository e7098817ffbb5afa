-- A key that was found: its timer is set again, or goes.
use Rattle.std.proofs.Common.{◌≡◌, ℕ, ◌+◌, ◌-◌, ◌<◌, length, set, Some, None, sym, ap, ◌∙◌, subst, inl, arith}
use Rattle.std.specs.Prelude.{slice_index_or}
use Rattle.std.proofs.lemmas.List.{length-map, set-get_or}
use Rattle.base_words.specs.declared.names.JobId.{JobId}
use Rattle.core_index.specs.Buckets.{Names, name_at}
use Rattle.core_timers.specs.declared.row.Row.{Row}
use Rattle.core_timers.specs.Timers.{Timers, HasName, LacksName, Sets, Forgets}
use Rattle.core_timers.specs.Tables.{Table, key_at, place_of, put, shown, timers_of}
use Rattle.core_timers.specs.Heap.{IsPlaced, IsOrdered, IsOrderedBut, Settles, AreKept}
use Rattle.core_timers.proofs.Stands.{Stands, Stands-has}
use Rattle.core_timers.proofs.Shrinks.{told_at}
use Rattle.core_timers.proofs.Named.{HasName-called, HasOneEach-set, HasOneEach-gone, LacksName-gone}
use Rattle.core_timers.proofs.Grows.{IsPlaced-put, IsOrderedBut-put, timers_of-again}
use Rattle.core_timers.proofs.Kept.{AreKept-set}

-- a key that was found has a timer of the name
module _ (t : Table) (names : Names) (count key : ℕ) (name : JobId) (kept : AreKept t names count) (found : name_at names key ≡ Some name) where
  pub has_name : HasName (timers_of count t) key name
  has_name = HasName-called (timers_of count t) names key name kept.known found

  pub stands : Stands count t key name has_name.0
  stands = Stands-has count t key name has_name.0 has_name.1

  inside : key < length (timers_of count t)
  inside = omega (arith, stands.within, length-map t.rows (shown count t.heap))

  -- it gets another time, where its row tells that it stands
  module _ (row : Row) (read : row ≡ slice_index_or t.rows key row) (time : ℕ) where
    told : place_of t key ≡ row.at
    told = told_at t key row stands.within read

    pub set_there : row.at < count
    set_there = omega (arith, stands.set_there, told)

    within : row.at < length t.heap
    within = omega (arith, set_there, kept.within)

    its : key ≡ key_at t row.at
    its = sym (kept.placed.there key (omega (arith, stands.within, kept.placed.long))) ∙ ap (key_at t) told

    pub IsPlaced-again : IsPlaced (put t row.at (record { time = time; key = key }))
    IsPlaced-again = IsPlaced-put t row.at (record { time = time; key = key }) kept.placed within its

    pub IsOrderedBut-again : IsOrderedBut count row.at (put t row.at (record { time = time; key = key }))
    IsOrderedBut-again = IsOrderedBut-put t row.at (record { time = time; key = key }) kept.placed within its count kept.order set_there

    module _ (new : Table) (settles : Settles count (put t row.at (record { time = time; key = key })) new) where
      timers_of-set : timers_of count new ≡ set (timers_of count t) key (Some (record { name = name; time = time }))
      timers_of-set =
          settles.same ∙ timers_of-again t row.at (record { time = time; key = key }) kept.placed within its count set_there ∙ ap (λ one. set (timers_of count t) key (Some (record { name = one; time = time }))) stands.its_name

      pub AreKept-again : AreKept new names count
      AreKept-again =
          AreKept-set t new names names count count key (Some (record { name = name; time = time })) kept settles.placed settles.order kept.within timers_of-set (sym (set-get_or names key None) ∙ ap (set names key) found)
          (HasOneEach-set (timers_of count t) key name time inside kept.once (inl has_name))

      pub Sets-again : (old : Timers) → timers_of count t ≡ old → Sets old name time (timers_of count new)
      Sets-again old is = subst (λ (v : Timers). Sets v name time (timers_of count new)) is (record { key = key; within = inside; before = inl has_name; after = timers_of-set })

  -- it goes
  module _ (new : Table) (placed : IsPlaced new) (order : IsOrdered (count - 1) new) (gone : timers_of (count - 1) new ≡ set (timers_of ((count - 1) + 1) t) key None) where
    pub timers_of-less : timers_of (count - 1) new ≡ set (timers_of count t) key None
    timers_of-less = let all : (count - 1) + 1 ≡ count = omega (arith, stands.set_there) in gone ∙ ap (λ n. set (timers_of n t) key None) all

    pub AreKept-less : (later : Names) → later ≡ set names key None → AreKept new later (count - 1)
    AreKept-less later told = AreKept-set t new names later count (count - 1) key None kept placed order (omega (arith, kept.within)) timers_of-less told (HasOneEach-gone (timers_of count t) key kept.once)

    pub Forgets-less : (old : Timers) → timers_of count t ≡ old → Forgets old name (timers_of (count - 1) new)
    Forgets-less old is = subst (λ (v : Timers). Forgets v name (timers_of (count - 1) new)) is (record { key = key; had = has_name; after = timers_of-less })

    pub LacksName-less : LacksName (timers_of (count - 1) new) name
    LacksName-less = subst (λ (v : Timers). LacksName v name) (sym timers_of-less) (LacksName-gone (timers_of count t) key name kept.once has_name)
