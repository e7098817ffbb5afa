-- The jobs inside a core: what holds of each of them holds on as they change places, and the job that is out stays the same as its wake is kept.
use Rattle.actor_core.proofs.AgreementNames.{All-append, All-cons, All-head, All-nil, All-tail, Bool, CoreView, IsJobOut, JobId, JobOut, Journal, Line, Marks, None, Option, Parks, QueuesView, Some, [], ap, awake, false, held_count, is_some, map}
use Rattle.actor_core.proofs.AgreementNames.{parked_of, refl, same_Some, subst, sym, true, waiting_of, ℕ, ◌++◌, ◌∙◌, ◌∷◌, ◌≡◌}
use Rattle.actor_core.specs.Steps.{out_told}
use Rattle.core_core.specs.Closing as core_says
use Rattle.core_queues.specs.Waking.{KeepsWake, WakesParked}
use Rattle.actor_core.proofs.Places.{each_line, everywhere}
use Rattle.std.proofs.lemmas.List.Elements.{All-map}
use Rattle.std.specs.Prelude.{All}

-- what holds of each job that waits or is parked
pub record HoldsOfAll {J : Type 0} (P : ℕ → JobId → J → Type 0) (queues : QueuesView J) : Type 0 where
  pub waiting : (queue : ℕ) → All (λ entry. P queue entry.0 entry.2) (waiting_of queue queues)
  pub parked : (queue : ℕ) → All (λ entry. P queue entry.0 entry.1) (parked_of queue queues)

-- these queues hold the same jobs, maybe at other places
abbrev pub Carries : {J : Type 0} → QueuesView J → QueuesView J → Type 1
Carries {J} old new = (P : ℕ → JobId → J → Type 0) → HoldsOfAll P old → HoldsOfAll P new

-- the job that is out stays, with its wake or another
abbrev pub SameOut : {J : Type 0} → Option (JobOut J) → Option (JobOut J) → Type 0
SameOut None new = new ≡ None
SameOut (Some out) new = (woken : Bool) × (new ≡ Some (record out { woken = woken }))

module _ {J : Type 0} where
  pub same_out : (out : Option (JobOut J)) → SameOut out out
  same_out None = refl
  same_out (Some out) = (out.woken, refl)

  -- so one is out where one was
  pub same_out-some : (old new : Option (JobOut J)) → SameOut old new → is_some new ≡ is_some old
  same_out-some None new same = ap is_some same
  same_out-some (Some out) new same = ap is_some same.1

  -- and what holds of it holds on
  pub same_out-holds : (P : ℕ → JobId → J → Type 0) (old new : Option (JobOut J)) → SameOut old new → ((job : JobOut J) → old ≡ Some job → P job.queue job.name job.job) →
      (job : JobOut J) → new ≡ Some job → P job.queue job.name job.job
  same_out-holds P None new same held job at = held job (sym same ∙ at)
  same_out-holds P (Some out) new same held job at = subst (λ job. P job.queue job.name job.job) (same_Some (record out { woken = same.0 }) job (sym same.1 ∙ at)) (held out refl)

  -- its wake is the one that the journal tells
  pub same_out-told : {T : Type 0} (journal : Journal T) (old new : Option (JobOut J)) → SameOut old new → IsJobOut new journal → new ≡ out_told journal old
  same_out-told journal None new same is = same
  same_out-told journal (Some out) new same is =
      same.1 ∙ ap (λ woken. Some (record out { woken = woken })) (subst (λ out. IsJobOut out journal) same.1 is).2

  -- one entry of a line gets other marks
  line-marked : (P : JobId → J → Type 0) (name : JobId) (was now : Marks) (job : J) (rest : Line J) (front : Line J) →
      All (λ entry. P entry.0 entry.2) (front ++ (name, was, job) ∷ rest) → All (λ entry. P entry.0 entry.2) (front ++ (name, now, job) ∷ rest)
  line-marked P name was now job rest [] held =
      All-cons (λ entry. P entry.0 entry.2) (name, now, job) rest (All-head (λ entry. P entry.0 entry.2) (name, was, job) rest held)
      (All-tail (λ entry. P entry.0 entry.2) (name, was, job) rest held)
  line-marked P name was now job rest (first ∷ front) held =
      All-cons (λ entry. P entry.0 entry.2) first (front ++ (name, now, job) ∷ rest) (All-head (λ entry. P entry.0 entry.2) first (front ++ (name, was, job) ∷ rest) held)
      (line-marked P name was now job rest front (All-tail (λ entry. P entry.0 entry.2) first (front ++ (name, was, job) ∷ rest) held))

  -- one entry goes from among the others
  one_parked : (P : JobId → J → Type 0) (entry : JobId × J) (rest : Parks J) (front : Parks J) → All (λ entry. P entry.0 entry.1) (front ++ entry ∷ rest) → P entry.0 entry.1
  one_parked P entry rest [] held = All-head (λ entry. P entry.0 entry.1) entry rest held
  one_parked P entry rest (first ∷ front) held = one_parked P entry rest front (All-tail (λ entry. P entry.0 entry.1) first (front ++ entry ∷ rest) held)

  others_parked : (P : JobId → J → Type 0) (entry : JobId × J) (rest : Parks J) (front : Parks J) → All (λ entry. P entry.0 entry.1) (front ++ entry ∷ rest) → All (λ entry. P entry.0 entry.1) (front ++ rest)
  others_parked P entry rest [] held = All-tail (λ entry. P entry.0 entry.1) entry rest held
  others_parked P entry rest (first ∷ front) held =
      All-cons (λ entry. P entry.0 entry.1) first (front ++ rest) (All-head (λ entry. P entry.0 entry.1) first (front ++ entry ∷ rest) held)
      (others_parked P entry rest front (All-tail (λ entry. P entry.0 entry.1) first (front ++ entry ∷ rest) held))

  -- lines and parked jobs that are the same
  pub carries-same : {old new : QueuesView J} → ((queue : ℕ) → waiting_of queue new ≡ waiting_of queue old) → ((queue : ℕ) → parked_of queue new ≡ parked_of queue old) → Carries old new
  carries-same lines parks P held = record {
    waiting = λ queue. subst (All (λ entry. P queue entry.0 entry.2)) (sym (lines queue)) (held.waiting queue);
    parked = λ queue. subst (All (λ entry. P queue entry.0 entry.1)) (sym (parks queue)) (held.parked queue);
  }

  -- the wake of a job that waits is kept
  pub carries-kept_wake : {old new : QueuesView J} (name : JobId) → KeepsWake old new name → Carries old new
  carries-kept_wake name keeps P held = record {
    waiting = each_line (λ at. All (λ entry. P at entry.0 entry.2)) keeps.line
        (line-marked (P keeps.queue) name keeps.marks (record keeps.marks { woken = true }) keeps.job keeps.behind keeps.before
        (subst (All (λ entry. P keeps.queue entry.0 entry.2)) keeps.was (held.waiting keeps.queue))) held.waiting;
    parked = λ queue. subst (All (λ entry. P queue entry.0 entry.1)) (sym (keeps.line.same_parks queue)) (held.parked queue);
  }

  -- a parked job is woken
  pub carries-woken : {old new : QueuesView J} (name : JobId) (queue : ℕ) → WakesParked old new name queue → Carries old new
  carries-woken {old} {new} name queue wakes P held = record {
    waiting = everywhere (λ at. All (λ entry. P at entry.0 entry.2) (waiting_of at new)) queue
        (subst (All (λ entry. P queue entry.0 entry.2)) (sym wakes.moves.waits)
        (All-append (λ entry. P queue entry.0 entry.2) (waiting_of queue old) (awake (name, wakes.job) ∷ []) (held.waiting queue)
        (All-cons (λ entry. P queue entry.0 entry.2) (awake (name, wakes.job)) [] (one_parked (P queue) (name, wakes.job) wakes.behind wakes.before was) (All-nil (λ entry. P queue entry.0 entry.2)))))
        (λ other away. subst (All (λ entry. P other entry.0 entry.2)) (sym (wakes.moves.others other away)) (held.waiting other));
    parked = everywhere (λ at. All (λ entry. P at entry.0 entry.1) (parked_of at new)) queue
        (subst (All (λ entry. P queue entry.0 entry.1)) (sym wakes.moves.parks_left) (others_parked (P queue) (name, wakes.job) wakes.behind wakes.before was))
        (λ other away. subst (All (λ entry. P other entry.0 entry.1)) (sym (wakes.moves.other_parks other away)) (held.parked other));
  }
    where
      was : All (λ entry. P queue entry.0 entry.1) (wakes.before ++ (name, wakes.job) ∷ wakes.behind)
      was = subst (All (λ entry. P queue entry.0 entry.1)) wakes.was (held.parked queue)

  -- the parks of some queues end
  pub carries-ended : (closed new : CoreView J) (ends : ℕ → Bool) → core_says.EndsParks closed ends new → Carries closed.queues new.queues
  carries-ended closed new ends ended P held = record {
    waiting = λ queue.
        subst (All (λ entry. P queue entry.0 entry.2)) (sym (ended.lines queue))
        (All-append (λ entry. P queue entry.0 entry.2) (waiting_of queue closed.queues) (map awake (core_says.unparked (ends queue) queue closed)) (held.waiting queue)
        (All-map (λ entry. P queue entry.0 entry.2) awake (core_says.unparked (ends queue) queue closed) (woken queue (ends queue))));
    parked = λ queue. subst (All (λ entry. P queue entry.0 entry.1)) (sym (ended.parks queue)) (still queue (ends queue));
  }
    where
      woken : (queue : ℕ) (test : Bool) → All (λ entry. P queue entry.0 entry.1) (core_says.unparked test queue closed)
      woken queue true = held.parked queue
      woken queue false = All-nil (λ entry. P queue entry.0 entry.1)

      still : (queue : ℕ) (test : Bool) → All (λ entry. P queue entry.0 entry.1) (core_says.still_parked test queue closed)
      still queue true = All-nil (λ entry. P queue entry.0 entry.1)
      still queue false = held.parked queue

-- the same core holds the same jobs
pub record HoldsSame {J : Type 0} (old core : CoreView J) : Type 1 where
  pub number : core.core ≡ old.core
  pub cores : core.cores ≡ old.cores
  pub burst : core.bursts.burst ≡ old.bursts.burst
  pub room : core.queues.room ≡ old.queues.room
  pub same_held : held_count core.queues ≡ held_count old.queues
  pub carries : Carries old.queues core.queues
  pub out : SameOut old.out core.out

-- a core that is closed, and whose parks then end, holds the same jobs
pub holds-closed : {J : Type 0} (old closed new : CoreView J) (ends : ℕ → Bool) → closed ≡ record old { queues = closed.queues; mode = closed.mode } →
    ((queue : ℕ) → waiting_of queue closed.queues ≡ waiting_of queue old.queues) → ((queue : ℕ) → parked_of queue closed.queues ≡ parked_of queue old.queues) →
    closed.queues.room ≡ old.queues.room → held_count closed.queues ≡ held_count old.queues → core_says.EndsParks closed ends new → HoldsSame old new
holds-closed old closed new ends is lines parks room held ended =
    subst (HoldsSame old) (sym new_is) (record { number = refl; cores = refl; burst = refl; room = ended.same_room ∙ room; same_held = ended.same_held ∙ held; carries = λ P was. carries-ended closed new ends ended P (carries-same lines parks P was); out = same_out old.out })
  where
    new_is : new ≡ record old { queues = new.queues; tallies = new.tallies; mode = closed.mode }
    new_is = ended.rest ∙ ap (λ (core : CoreView _). record core { queues = new.queues; tallies = new.tallies }) is
