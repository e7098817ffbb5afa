-- Accounts of which some end their parks.
use Rattle.std.proofs.Common.{◌≡◌, ℕ, ◌+◌, ◌-◌, ◌<◌, ◌≤◌, ◌⊎◌, inl, inr, Bool, true, false, refl, sym, ◌∙◌, ap, cond, subst, arith}
use Rattle.std.specs.Prelude.{nat_lt, not, ◌&&◌, ◌==◌}
use Rattle.std.proofs.lemmas.Bool.{cases_lt, eq-eqb}
use Rattle.base_words.specs.Charge.{placed}
use Rattle.base_words.specs.Parks.{parked}
use Rattle.base_words.specs.Runtimes.{floor}
use Rattle.note_facts.specs.declared.accounts.Account.{Account}
use Rattle.note_facts.specs.declared.accounts.Accounts.{Accounts}
use Rattle.note_facts.specs.AllAccounts.{account_of}
use Rattle.note_facts.specs.Accounts.{has_jobs, waking}
use Rattle.note_facts.specs.Recent.{Holds, queue_at, size}

-- all parks of a queue end
abbrev pub woken : ℕ → Account → Account
woken at account = waking account.parked at account

-- where nobody is parked, nothing changes
pub woken_nobody : (at : ℕ) (account : Account) → account.parked ≡ 0 → woken at account ≡ account
woken_nobody at account none = λ i. record {
  shares = account.shares;
  virtual_runtime = runtime i;
  entered = account.entered;
  left = account.left;
  parked = gone i;
}
  where
    runtime : cond (nat_lt 0 account.parked && not (has_jobs account)) (placed account.virtual_runtime at) account.virtual_runtime ≡ account.virtual_runtime
    runtime = ap (λ count. cond (nat_lt 0 count && not (has_jobs account)) (placed account.virtual_runtime at) account.virtual_runtime) none

    gone : account.parked - account.parked ≡ account.parked
    gone = omega (arith, none)

-- all parks end once
woken_once : (at : ℕ) (account : Account) → woken at (woken at account) ≡ woken at account
woken_once at account = woken_nobody at (woken at account) (omega arith)

-- the queues that were told are woken one after another
pub record WakesSoFar (old new : Accounts) (place : ℕ) : Type 0 where
  pub either : (queue : ℕ) → (account_of new queue ≡ account_of old queue) ⊎ (account_of new queue ≡ woken old.floor (account_of old queue))
  pub done : (other : ℕ) → other < place → account_of new (queue_at old.recent other) ≡ woken old.floor (account_of old (queue_at old.recent other))
  pub floor : new.floor ≡ old.floor
  pub recent : new.recent ≡ old.recent

module _ (old mid new : Accounts) (place queue : ℕ) (here : queue ≡ queue_at old.recent place) (so_far : WakesSoFar old mid place)
    (changed : (other : ℕ) → account_of new other ≡ cond (other == queue) (woken old.floor (account_of mid other)) (account_of mid other)) where
  -- who was woken before stays so
  still_woken : (other : ℕ) → account_of mid other ≡ woken old.floor (account_of old other) → account_of new other ≡ woken old.floor (account_of old other)
  still_woken other was = changed other ∙ by_test (other == queue)
    where
      by_test : (test : Bool) → cond test (woken old.floor (account_of mid other)) (account_of mid other) ≡ woken old.floor (account_of old other)
      by_test true = ap (woken old.floor) was ∙ woken_once old.floor (account_of old other)
      by_test false = was

  -- the queue of this place is woken
  woken_now : (other : ℕ) → (other == queue) ≡ true → account_of new other ≡ woken old.floor (account_of old other)
  woken_now other same = by_either (so_far.either other)
    where
      by_either : (account_of mid other ≡ account_of old other) ⊎ (account_of mid other ≡ woken old.floor (account_of old other)) →
          account_of new other ≡ woken old.floor (account_of old other)
      by_either (inl was) =
          changed other ∙ (ap (λ test. cond test (woken old.floor (account_of mid other)) (account_of mid other)) same ∙ ap (woken old.floor) was)
      by_either (inr was) = still_woken other was

  pub wakes_next : new.floor ≡ mid.floor → new.recent ≡ mid.recent → WakesSoFar old new (place + 1)
  wakes_next floor recent = record {
    either = λ other. by_test other (other == queue) refl (so_far.either other);
    done = λ other less. by_place other less (cases_lt other place);
    floor = floor ∙ so_far.floor;
    recent = recent ∙ so_far.recent;
  }
    where
      by_test : (other : ℕ) (test : Bool) → (other == queue) ≡ test →
          (account_of mid other ≡ account_of old other) ⊎ (account_of mid other ≡ woken old.floor (account_of old other)) →
          (account_of new other ≡ account_of old other) ⊎ (account_of new other ≡ woken old.floor (account_of old other))
      by_test other true same was = inr (woken_now other same)
      by_test other false apart (inl was) =
          inl (changed other ∙ (ap (λ test. cond test (woken old.floor (account_of mid other)) (account_of mid other)) apart ∙ was))
      by_test other false apart (inr was) = inr (still_woken other was)

      by_place : (other : ℕ) → other < place + 1 → (other < place) ⊎ (place ≤ other) →
          account_of new (queue_at old.recent other) ≡ woken old.floor (account_of old (queue_at old.recent other))
      by_place other less (inl before) = still_woken (queue_at old.recent other) (so_far.done other before)
      by_place other less (inr past) =
          let same : other ≡ place = omega (arith, less, past) in
          woken_now (queue_at old.recent other) (eq-eqb (queue_at old.recent other) queue (ap (queue_at old.recent) same ∙ sym here))

-- in the end each queue that was told is woken, and no other is changed
module _ (old new : Accounts) (so_far : WakesSoFar old new (size old.recent)) where
  pub woken_told : (queue : ℕ) → Holds old.recent queue → account_of new queue ≡ woken old.floor (account_of old queue)
  woken_told queue held =
      subst (λ (it : ℕ). account_of new it ≡ woken old.floor (account_of old it)) held.is (so_far.done held.place held.within)

  pub woken_others : (queue : ℕ) → (account_of old queue).parked ≡ 0 → account_of new queue ≡ account_of old queue
  woken_others queue none = by_either (so_far.either queue)
    where
      by_either : (account_of new queue ≡ account_of old queue) ⊎ (account_of new queue ≡ woken old.floor (account_of old queue)) →
          account_of new queue ≡ account_of old queue
      by_either (inl same) = same
      by_either (inr was) = was ∙ woken_nobody old.floor (account_of old queue) none
