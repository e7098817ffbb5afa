-- What becomes of the timers that are due.
use Rattle.std.specs.Prelude.{◌≡◌, ◌⊎◌, ℕ, zero, suc, Bool, true, false}
use Rattle.base_words.specs.declared.names.JobId.{JobId}
use Rattle.base_words.specs.Commands.{job_at}
use Rattle.core_queues.specs.Waking.{FindsNoPark, IsParkedAs}
use Rattle.core_timers.specs.Timers.{Timers, Forgets, IsAfter, IsDue}
use Rattle.actor_seat.specs.Linked.{LinkedView}
use Rattle.actor_seat.specs.Wakes.{WakesOwn}
use Rattle.run_worker.specs.declared.waking.Due.{Due}
use Rattle.run_worker.specs.declared.waking.Due.TheVariants.{Sent, Awake, Refused, Nothing}

-- whether a wake was sent
abbrev pub is_wake : Due → Bool
is_wake Sent = true
is_wake _ = false

-- whether no further timer is to be looked at
abbrev pub is_over : Due → Bool
is_over Refused = true
is_over Nothing = true
is_over _ = false

-- the job of a name's sender and number at a core
abbrev pub own_job : {J T : Type 0} → LinkedView J T → JobId → JobId
own_job view name = job_at view.recorded.core.core name.from name.number

-- a wake of this job would find it parked
abbrev pub HasParked : {J T : Type 0} → LinkedView J T → JobId → Type 0
HasParked {J} view name = (job : J) × IsParkedAs view.recorded.core.queues name job

module _ {J T : Type 0} (now : ℕ) where
  -- What becomes of the timer that is due next, by this reading of the clock. If its job is parked the core sends itself a wake, and the timer is forgotten. If the
  -- link refuses the wake, the timer stays. If the job isn't parked any more, the timer is forgotten.
  abbrev pub WakesNext : LinkedView J T → Timers → Due → LinkedView J T → Timers → Type 0
  WakesNext old timers Sent new after = (name : JobId) × IsDue timers now name × HasParked old (own_job old name) × WakesOwn (own_job old name) old true new × Forgets timers name after
  WakesNext old timers Awake new after = (name : JobId) × IsDue timers now name × FindsNoPark old.recorded.core.queues (own_job old name) × (new ≡ old) × Forgets timers name after
  WakesNext old timers Refused new after = (name : JobId) × IsDue timers now name × HasParked old (own_job old name) × WakesOwn (own_job old name) old false new × (after ≡ timers)
  WakesNext old timers Nothing new after = IsAfter now timers × (new ≡ old) × (after ≡ timers)

  -- so many timers were due one after another, and each is forgotten
  abbrev pub WakesSome : ℕ → LinkedView J T → Timers → LinkedView J T → Timers → Type 0
  WakesSome zero old timers new after = (new ≡ old) × (after ≡ timers)
  WakesSome (suc count) old timers new after =
      (middle : LinkedView J T) × (between : Timers) × WakesSome count old timers middle between × (WakesNext middle between Sent new after ⊎ WakesNext middle between Awake new after)

  -- it stops where no timer is due any more, where the link takes no wake, or behind as many timers as a link holds
  abbrev pub StopsWaking : ℕ → ℕ → LinkedView J T → Timers → LinkedView J T → Timers → Type 0
  StopsWaking cap count middle between new after =
      WakesNext middle between Nothing new after ⊎ WakesNext middle between Refused new after ⊎ ((count ≡ cap) × (new ≡ middle) × (after ≡ between))

  -- the jobs whose timers are due are woken, in the order of their times
  pub record WakesAll (old : LinkedView J T) (timers : Timers) (new : LinkedView J T) (after : Timers) : Type 0 where
    pub count : ℕ
    pub middle : LinkedView J T
    pub between : Timers
    pub some : WakesSome count old timers middle between
    pub stops : StopsWaking old.recorded.cap count middle between new after
