-- Timers of a small worker that are refused: a sleep that is cut short, a wake before its time or of a job that isn't parked, and a timer that outlives its sleep.
use Rattle.run_worker.proofs.Names.{ap, arith, Bool, due_behind, FindsNoneDue, Forgets, HasNoKey, inl, inr, JobId, LinkedView, LosesTimer, None, Option, refl, round_view, RoundView, ServedView}
use Rattle.run_worker.proofs.Names.{Sets, SetsSleep, Some, SparesOwn, suc, sym, Timers, WakesNext, WatchView, zero, ℕ, [], ◌+◌, ◌<◌, ◌∙◌, ◌∷◌, ◌≡◌, ◌≤◌, ◌⊎◌}
use Rattle.std.specs.Prelude.{false, slice_set, true, ◌++◌}
use Rattle.core_queues.specs.View.{Parks, QueuesView, parked_of}
use Rattle.core_timers.specs.Timers.{Has, IsDue, Timer, timer_at}
use Rattle.base_words.specs.declared.note.Note.TheVariants.{Done, Park}
use Rattle.run_worker.specs.Timing.{IsSilent}
use Rattle.run_worker.specs.declared.waking.Due.TheVariants.{Sent, Nothing}

-- one job sleeps until 5
abbrev sleeper : JobId
sleeper = record { from = 1; to = 0; number = 1 }

abbrev sleeping : Timers
sleeping = Some (record { name = sleeper; time = 5 }) ∷ []

-- whether a place has a timer
abbrev is_set : Option Timer → Bool
is_set None = false
is_set (Some timer) = true

-- when it is due
abbrev time_of : Option Timer → ℕ
time_of None = 0
time_of (Some timer) = timer.time

-- it is due by no time before
due_at_five : (now : ℕ) (name : JobId) → IsDue sleeping now name → 5 ≤ now
due_at_five now name due = at due.key due.time due.had due.due
  where
    at : (key time : ℕ) → Has sleeping key name time → time ≤ now → 5 ≤ now
    at zero time had early = let is : 5 ≡ time = ap time_of had in omega (arith, is, early)
    at (suc key) time had early = let none : false ≡ true = ap is_set had in cc

-- who forgets a timer of a name doesn't keep it
keeps_none : (name : JobId) → Forgets sleeping name sleeping → ⊥
keeps_none name forgets = at forgets.key forgets.had.0 forgets.had.1 (ap (λ timers. is_set (timer_at timers 0)) forgets.after)
  where
    at : (key time : ℕ) → Has sleeping key name time → true ≡ is_set (timer_at (slice_set sleeping key None) 0) → ⊥
    at zero time had kept = let none : true ≡ false = kept in cc
    at (suc key) time had kept = let none : false ≡ true = ap is_set had in cc

module _ {J T : Type 0} (old new : LinkedView J T) (after : Timers) where
  -- a wake before its time
  wakes_too_early : WakesNext 4 old sleeping Sent new after → ⊥
  wakes_too_early (name, due, parked, wakes, forgets) = let late = due_at_five 4 name due in omega (arith, late)

  -- a wake behind which its timer is still set, so that a second one is sent
  wakes_again : (now : ℕ) → WakesNext now old sleeping Sent new sleeping → ⊥
  wakes_again now (name, due, parked, wakes, forgets) = keeps_none name forgets

  -- a wake of a job that asked for none
  wakes_unasked : (now : ℕ) → WakesNext now old [] Sent new after → ⊥
  wakes_unasked now (name, due, parked, wakes, forgets) = let none : false ≡ true = ap is_set due.had in cc

  -- a wake where no job is parked
  wakes_nobody : (now : ℕ) (timers : Timers) → ((queue : ℕ) → parked_of queue old.recorded.core.queues ≡ []) → WakesNext now old timers Sent new after → ⊥
  wakes_nobody now timers none (name, due, parked, wakes, forgets) = is_there parked.1.before parked.1.behind _ (sym (none parked.1.queue) ∙ parked.1.is_there)
    where
      is_there : (before behind : Parks J) (entry : JobId × J) → [] ≡ before ++ entry ∷ behind → ⊥
      is_there [] behind entry is = cc
      is_there (first ∷ before) behind entry is = cc

  -- a timer that is due and left
  leaves_one_due : WakesNext 9 old sleeping Nothing new after → ⊥
  leaves_one_due (later, same, kept) = let late : 9 < 5 = later 0 sleeper 5 refl in omega (arith, late)

-- a sleep of five that is set as one of two
sleeps_less : (queues : QueuesView ℕ) → SetsSleep (λ (job : ℕ). Some 5) queues 10 sleeper (None ∷ []) (Some (record { name = sleeper; time = 12 }) ∷ []) → ⊥
sleeps_less queues sets = either sets.time sets.says sets.sets
  where
    value : Option ℕ → ℕ
    value None = 0
    value (Some time) = time

    at : (key time : ℕ) → time ≡ 5 → 12 ≡ time_of (timer_at (slice_set (None ∷ []) key (Some (record { name = sleeper; time = due_behind 10 time }))) 0) → ⊥
    at zero time five is = omega (arith, five, is)
    at (suc key) time five is = omega (arith, is)

    either : (time : ℕ) → Some 5 ≡ Some time → Sets (None ∷ []) sleeper (due_behind 10 time) (Some (record { name = sleeper; time = 12 }) ∷ []) ⊎ HasNoKey (None ∷ []) sleeper (Some (record { name = sleeper; time = 12 }) ∷ []) → ⊥
    either time says (inl set) = at set.key time (sym (ap value says)) (ap (λ timers. time_of (timer_at timers 0)) set.after)
    either time says (inr full) = let none : true ≡ false = ap (λ timers. is_set (timer_at timers 0)) full.same in cc

-- a job that parks, and one that is done, as if nobody heard of it
parks_silently : (name : JobId) (time : ℕ) → IsSilent {T = ℕ} (Park name time) → ⊥
parks_silently name time silent = silent

is_done_silently : (name : JobId) (time answer : ℕ) → IsSilent (Done name time answer) → ⊥
is_done_silently name time answer silent = silent

-- a timer that outlives its sleep
outlives_its_sleep : LosesTimer sleeping sleeper sleeping → ⊥
outlives_its_sleep (inl forgets) = keeps_none sleeper forgets
outlives_its_sleep (inr (lacks, same)) = lacks 0 (5, refl)

-- the gate of a core's own link is shut though a job sleeps
shuts_its_own_gate : {J T : Type 0} (view : LinkedView J T) → view.recorded.core.core < view.recorded.core.cores → SparesOwn sleeping view (view.recorded.core.cores + 1) → ⊥
shuts_its_own_gate view within (inl (vacant, is)) = let none : true ≡ false = ap is_set (vacant 0) in cc
shuts_its_own_gate view within (inr (some, is)) = omega (arith, within, is)

-- a worker idles at 9 by its clock
idles_past_a_timer : (served : ServedView ℕ ℕ) (watch : WatchView ℕ) (new : RoundView ℕ ℕ ℕ ℕ) → FindsNoneDue (λ (clock told later : ℕ). told ≡ 9) (round_view served sleeping watch 0 0) new → ⊥
idles_past_a_timer served watch new (inl vacant) = let none : true ≡ false = ap is_set (vacant 0) in cc
idles_past_a_timer served watch new (inr (now, reads, later)) = let nine = reads.0 in let late : now < 5 = later 0 sleeper 5 refl in omega (arith, nine, late)
