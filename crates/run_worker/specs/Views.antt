-- What a round does with the timers.
use Rattle.std.specs.Prelude.{◌≡◌, ◌⊎◌, ℕ, Bool, false}
use Rattle.run_worker.specs.Asks.{NotesNoPoll}
use Rattle.run_worker.specs.Ended.{ServedView}
use Rattle.core_timers.specs.Timers.{Timers, IsAfter, IsVacant}
use Rattle.run_worker.specs.Few.{woken_most}
use Rattle.run_worker.specs.Readings.{ReadsNow, WatchView}
use Rattle.run_worker.specs.Rounds.{StepsServed}
use Rattle.run_worker.specs.Waking.{WakesAll}

-- a worker's core, its timers, the watch and the gate that serve it, and how many turns may be made before the next look
pub record RoundView (J T C G : Type 0) : Type 0 where
  pub served : ServedView J T
  pub timers : Timers
  pub watch : WatchView C
  pub gate : G
  pub turns : ℕ

-- the same, put together
abbrev pub round_view : {J T C G : Type 0} → ServedView J T → Timers → WatchView C → G → ℕ → RoundView J T C G
round_view served timers watch gate turns = record { served = served; timers = timers; watch = watch; gate = gate; turns = turns }

module _ {J T C G : Type 0} (reads : C → ℕ → C → Type 0) where
  -- If a timer is set the clock is read, and the jobs whose timers are due are woken, unless the worker comes to its end. If none is set nothing is done.
  pub record WakesDue (old : RoundView J T C G) (some : Bool) (new : RoundView J T C G) : Type 0 where
    pub steps : StepsServed (woken_most old.served) old.served some new.served
    pub none : NotesNoPoll old.served.linked.recorded.journal.notes new.served.linked.recorded.journal.notes
    pub gate : new.gate ≡ old.gate
    pub turns : new.turns ≡ old.turns
    pub due : (IsVacant old.timers × (some ≡ false) × (new ≡ old))
        ⊎ ((now : ℕ) × ReadsNow reads old.watch now new.watch × (new.served.ending ≡ false → WakesAll now old.served.linked old.timers new.served.linked new.timers))

  -- no timer is set, or the clock was read, and none is due by that reading
  abbrev pub FindsNoneDue : RoundView J T C G → RoundView J T C G → Type 0
  FindsNoneDue old new = IsVacant old.timers ⊎ ((now : ℕ) × ReadsNow reads old.watch now new.watch × IsAfter now old.timers)

  -- the clock is read to compare it with the timers, or it isn't, and nothing else is done
  abbrev pub Peeks : RoundView J T C G → RoundView J T C G → Type 0
  Peeks old new = (new ≡ old) ⊎ ((now : ℕ) × ReadsNow reads old.watch now new.watch × (new ≡ record old { watch = new.watch }))
