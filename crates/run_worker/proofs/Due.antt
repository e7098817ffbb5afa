-- One timer after another that is due.
use Rattle.run_worker.proofs.Names.{arith, Bool, Due, if◌then◌else◌, inl, inr, is_over, is_wake, JobId, LinkedView, LosesTimer, not, refl, SparesOwn, StopsWaking, subst, suc, sym, Timers, true, WakesAll, WakesNext, WakesSome, ℕ, ◌+◌, ◌∙◌, ◌≡◌, ◌⊎◌}
use Rattle.std.specs.Prelude.{false, IsTrue, None, Option, Some, ◌↔◌}
use Rattle.std.specs.Bool.{OnTrue, OnFalse}
use Rattle.core_timers.specs.Timers.{Forgets, IsDue, IsVacant, LacksName, Timer, timer_at}
use Rattle.run_worker.specs.declared.waking.Due.TheVariants.{Sent, Awake, Refused, Nothing}

module _ {J T : Type 0} (now : ℕ) (old : LinkedView J T) (timers : Timers) (count : ℕ) (middle : LinkedView J T) (between : Timers) (some : WakesSome now count old timers middle between) where
  -- one more was due
  pub due_more : (due : Due) (new : LinkedView J T) (after : Timers) → is_over due ≡ false → WakesNext now middle between due new after → WakesSome now (count + 1) old timers new after
  due_more due new after going next =
      let more : suc count ≡ count + 1 = omega arith in
      subst (λ (n : ℕ). WakesSome now n old timers new after) more (middle, between, some, by_due due going next)
    where
      by_due : (due : Due) → is_over due ≡ false → WakesNext now middle between due new after → WakesNext now middle between Sent new after ⊎ WakesNext now middle between Awake new after
      by_due Sent going next = inl next
      by_due Awake going next = inr next
      by_due Refused going next = cc
      by_due Nothing going next = cc

  -- none was, or the link took no more
  pub due_over : (due : Due) (new : LinkedView J T) (after : Timers) → is_over due ≡ true → WakesNext now middle between due new after → WakesAll now old timers new after
  due_over due new after over next = record { count = count; middle = middle; between = between; some = some; stops = by_due due over next }
    where
      by_due : (due : Due) → is_over due ≡ true → WakesNext now middle between due new after → StopsWaking now old.recorded.cap count middle between new after
      by_due Nothing over next = inl next
      by_due Refused over next = inr (inl next)
      by_due Sent over next = cc
      by_due Awake over next = cc

  -- as many were due as a link holds
  pub due_all : count ≡ old.recorded.cap → WakesAll now old timers middle between
  due_all all = record { count = count; middle = middle; between = between; some = some; stops = inr (inr (all, refl, refl)) }

-- no wake is sent where no further timer is looked at
pub over_none : (due : Due) → is_over due ≡ true → is_wake due ≡ false
over_none Nothing over = refl
over_none Refused over = refl
over_none Sent over = cc
over_none Awake over = cc

-- a timer that is due is there to be forgotten
pub due_forgotten : (timers after : Timers) (now : ℕ) (name : JobId) (found : Bool) → IsDue timers now name → OnTrue found (Forgets timers name after) → OnFalse found (LacksName timers name) → Forgets timers name after
due_forgotten timers after now name true due forgot none = forgot
due_forgotten timers after now name false due forgot none = absurd (none due.key (due.time, due.had))

-- what it is called that a name's timer isn't there any more
pub timer_lost : (old new : Timers) (name : JobId) (found : Bool) → OnTrue found (Forgets old name new) → OnFalse found (LacksName old name) → OnFalse found (new ≡ old) → LosesTimer old name new
timer_lost old new name true forgot none same = inl forgot
timer_lost old new name false forgot none same = inr (none, same)

-- no timer is there where none is set
pub vacant_lacks : (timers : Timers) (name : JobId) → IsVacant timers → LacksName timers name
vacant_lacks timers name vacant key has = absurd (none_told (timer_at timers key) (vacant key) has.0 has.1)
  where
    none_told : (told : Option Timer) → told ≡ None → (time : ℕ) → told ≡ Some (record { name = name; time = time }) → ⊥
    none_told told none time some = let is = sym none ∙ some in cc

-- the gate of its own link is spared where a timer is set
pub spares_own : {J T : Type 0} (timers : Timers) (view : LinkedView J T) (empty : Bool) (spared : ℕ) → (IsTrue empty ↔ IsVacant timers) →
    spared ≡ (if (not empty) then view.recorded.core.core else (view.recorded.core.cores + 1)) → SparesOwn timers view spared
spares_own timers view true spared none is = inl (none.0 refl, is)
spares_own timers view false spared none is = inr (λ vacant. let told = none.1 vacant in cc, is)
