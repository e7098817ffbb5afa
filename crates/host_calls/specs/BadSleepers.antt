-- Answers on timers that no call may give, each refused by the definition that judges it.
use Rattle.std.proofs.Common.{◌≡◌, ℕ, zero, suc, Option, Some, None, [], ◌∷◌, refl, ap, arith, inl, ⊎_elim}
use Rattle.std.specs.Prelude.{slice_set, true}
use Rattle.base_jobs.specs.declared.job.Step.TheVariants.{Yield}
use Rattle.base_words.specs.declared.names.JobId.{JobId}
use Rattle.core_timers.specs.Timers.{HasName, Timers, timer_at}
use Rattle.host_calls.specs.declared.code.Code.TheVariants as code
use Rattle.host_calls.specs.declared.member.Member.{Member}
use Rattle.host_calls.specs.declared.member.Member.TheVariants as member
use Rattle.host_calls.specs.Members.{OnSleepers}
use Rattle.host_calls.specs.Sleepers.{Arms, Disarms, GoesIfWoken, OpensTimers, TellsNext, sleep_of}

-- a job, and its timer alone
abbrev pub one : JobId
one = record { from = 0; to = 0; number = 1 }

abbrev pub set : Timers
set = Some (record { name = one; time = 5 }) ∷ []

-- the timer is gone where it stays
stays : (key : ℕ) → HasName set key one → set ≡ slice_set set key None → ⊥
stays zero had same = let gone : timer_at set 0 ≡ None = ap (λ timers. timer_at timers 0) same in cc
stays (suc key) had same = let none : timer_at set (suc key) ≡ Some (record { name = one; time = had.0 }) = had.1 in cc

-- timers for no job are opened
pub none_are_opened : (new : Option Timers) → OpensTimers 0 code.Ok new → ⊥
none_are_opened new told = let some = told.0 in omega (arith, some)

-- a time is told where no timer is set
pub nothing_is_due : TellsNext [] 0 code.Ok 5 → ⊥
nothing_is_due told = not_there told.key told.had
  where
    not_there : (key : ℕ) → timer_at [] key ≡ Some (record { name = told.name; time = 5 }) → ⊥
    not_there key had = cc had

-- a job that yields sleeps
pub yield_sleeps : sleep_of Yield 5 ≡ Some 5 → ⊥
yield_sleeps told = cc told

-- a job that parks until a time has no timer
pub sleeper_has_no_timer : Arms (Some 5) one [] true [] → ⊥
sleeper_has_no_timer told = let within = told.within in omega (arith, within)

-- the timer of a done job stays
pub timer_outlives_its_job : Disarms code.Done one set set → ⊥
timer_outlives_its_job told = ⊎_elim (λ forgets. stays forgets.key forgets.had forgets.after) (λ lacks. lacks.0 0 (5, refl)) told

-- a job was woken, and its timer stays
pub timer_stays_behind_its_wake : GoesIfWoken code.Ok one set set → ⊥
timer_stays_behind_its_wake told = timer_outlives_its_job (inl told)

-- a refused wake takes its timer along
pub refused_wake_loses_its_timer : GoesIfWoken code.Full one set (None ∷ []) → ⊥
refused_wake_loses_its_timer told = let none : None ≡ timer_at set 0 = ap (λ timers. timer_at timers 0) told in cc

-- timers become a handle of something else
pub timers_are_lost : (other : Member) → OnSleepers (member.Sleepers set) (Unit {0}) code.Ok other (λ before told after. ⊥) → ⊥
timers_are_lost (member.Sleepers after) told = told
timers_are_lost other told = told
