-- What is known of all queues after one more note.
use Rattle.std.proofs.Common.{◌≡◌, ℕ, ◌<◌, ◌≤◌, max, ◌⊎◌, inl, inr, Bool, true, false, ◌∷◌, [], length, refl, sym, ◌∙◌, ap, cond, subst, arith, zero, suc, List, get_or, set, replicate, get_or-set_other, get_or-set_same}
use Rattle.std.specs.Prelude.{Some, None, ◌==◌}
use Rattle.std.proofs.lemmas.Bool.{cases_eq, cases_lt, eq-eqb, ne_eqb, true≢false}
use Rattle.base_words.specs.declared.names.JobId.{JobId}
use Rattle.base_words.specs.declared.note.Note.{Note}
use Rattle.base_words.specs.declared.note.Note.TheVariants.{CoreClosed}
use Rattle.base_words.specs.Journal.{Journal}
use Rattle.base_words.specs.Names.{is_number}
use Rattle.base_words.specs.Parks.{parked}
use Rattle.base_words.specs.Runtimes.{floor, runtime_picked}
use Rattle.note_facts.specs.declared.accounts.Account.{Account}
use Rattle.note_facts.specs.declared.accounts.Accounts.{Accounts}
use Rattle.note_facts.specs.declared.spots.Spot.{Spot}
use Rattle.note_facts.specs.AllAccounts.{KnowsAccounts, HasNobody, IsEmpty, account_of}
use Rattle.note_facts.specs.Accounts.{KnowsAccount, account_after, own_after, released_after, greatest_runtime, greatest_count, fresh_account}
use Rattle.note_facts.specs.Endings.{core_ended}
use Rattle.note_facts.specs.Recent.{Holds}
use Rattle.note_facts.specs.Spots.{FitsSpot, park_noted, queue_noted, queue_parking}
use Rattle.note_facts.proofs.AccountSteps.{account_known, works}
use Rattle.note_facts.proofs.Counts.{parked_from, none_parked}
use Rattle.note_facts.proofs.WokenAccounts.{woken, woken_nobody}

-- a fresh account says nothing
fresh_knows : {T : Type 0} (burst queue : ℕ) → KnowsAccount {T = T} burst queue fresh_account []
fresh_knows burst queue = record { shares = refl; runtime = refl; entered = refl; left = refl; parked = refl }

-- accounts that are all fresh say nothing
pub all_fresh : {T : Type 0} (burst count queue : ℕ) (account : Account) → account ≡ fresh_account →
    KnowsAccount {T = T} burst queue (get_or (replicate count account) queue fresh_account) []
all_fresh {T} burst count queue account is =
    subst (λ (one : Account). KnowsAccount {T = T} burst queue one []) (sym (is_fresh count queue))
    (fresh_knows {T = T} burst queue)
  where
    is_fresh : (count queue : ℕ) → get_or (replicate count account) queue fresh_account ≡ fresh_account
    is_fresh zero queue = refl
    is_fresh (suc count) zero = is
    is_fresh (suc count) (suc queue) = is_fresh count queue

-- one account of a list is changed
pub changed_one : (accounts : List Account) (queue : ℕ) (new : Account) (f : Account → Account) → queue < length accounts →
    new ≡ f (get_or accounts queue fresh_account) → (other : ℕ) →
    get_or (set accounts queue new) other fresh_account ≡ cond (other == queue) (f (get_or accounts other fresh_account)) (get_or accounts other fresh_account)
changed_one accounts queue new f within is other = by_queue (cases_eq other queue)
  where
    by_queue : (other ≡ queue) ⊎ (other ≡ queue → ⊥) →
        get_or (set accounts queue new) other fresh_account ≡ cond (other == queue) (f (get_or accounts other fresh_account)) (get_or accounts other fresh_account)
    by_queue (inl same) =
        rw (eq-eqb other queue same)
        (
        subst (λ (at : ℕ). get_or (set accounts queue new) at fresh_account ≡ f (get_or accounts at fresh_account)) (sym same)
        (get_or-set_same accounts queue new fresh_account within ∙ is)
        )
    by_queue (inr apart) = rw (ne_eqb other queue apart) (get_or-set_other accounts queue other new fresh_account apart)

-- past the end of a list nothing is known
pub fresh_past : (accounts : List Account) (queue : ℕ) → length accounts ≤ queue → get_or accounts queue fresh_account ≡ fresh_account
fresh_past [] queue past = refl
fresh_past (account ∷ accounts) zero past = absurd (omega (arith, past))
fresh_past (account ∷ accounts) (suc queue) past = fresh_past accounts queue (omega (arith, past))

module _ {T : Type 0} (burst : ℕ) (old new : Accounts) (spot : Spot) (note : Note T) (before : Journal T) (fits : FitsSpot spot note before)
    (short : length before < greatest_count) (knows : KnowsAccounts burst old before) where
  -- the accounts after a note, each by what the note says of its queue
  pub all_known : (floor_fits : old.floor ≤ greatest_runtime) → length new.queues ≤ 256 →
      ((queue : ℕ) → account_of new queue ≡ account_after {T = T} burst old.floor note (is_number queue spot.queue) (is_number queue spot.parked) (account_of old queue)) →
      new.floor ≡ max old.floor (runtime_picked note) →
      ((queue : ℕ) → queue < 256 → core_ended note ≡ false → Holds old.recent queue ⊎ (queue_parking note spot.queue ≡ Some queue) → Holds new.recent queue) →
      KnowsAccounts burst new (note ∷ before)
  all_known floor_fits few each floor_is recent = record {
    each = each_known;
    floor = floor_is ∙ ap (λ old. max old (runtime_picked note)) knows.floor;
    recent = λ queue some. by_place queue some (cases_lt queue 256);
  }
    where
      each_known : (queue : ℕ) → KnowsAccount burst queue (account_of new queue) (note ∷ before)
      each_known queue =
          subst (λ (one : Account). KnowsAccount burst queue one (note ∷ before)) (sym (each queue))
          (
          rw (fits.queue, fits.parked, knows.floor)
          (account_known burst queue (account_of old queue) before (subst (λ (it : ℕ). it ≤ greatest_runtime) knows.floor floor_fits) (knows.each queue) short note)
          )

      by_end : (queue : ℕ) → queue < 256 → 0 < length (parked queue (note ∷ before)) → (test : Bool) → core_ended note ≡ test → Holds new.recent queue
      by_end queue within some true ended = absurd (none_parked queue note before ended some)
      by_end queue within some false going =
          recent queue within going
          (
          elim (parked_from queue note before some) [
            | inl was ↦ inl (knows.recent queue was)
            | inr came ↦ inr (ap (queue_parking note) fits.queue ∙ came)
          ]
          )

      by_place : (queue : ℕ) → 0 < length (parked queue (note ∷ before)) → (queue < 256) ⊎ (256 ≤ queue) → Holds new.recent queue
      by_place queue some (inl within) = by_end queue within some (core_ended note) refl
      by_place queue some (inr past) =
          let fresh = fresh_past new.queues queue (omega (arith, few, past)) in
          let none : length (parked queue (note ∷ before)) ≡ 0 = sym (each_known queue).parked ∙ ap (λ (account : Account). account.parked) fresh in
          absurd (omega (arith, none, some))

no_names : (names : List JobId) → length names ≡ 0 → names ≡ []
no_names [] none = refl
no_names (name ∷ names) none = absurd (omega (arith, none))

-- an account is empty where its queue has nobody
module _ {T : Type 0} {burst : ℕ} (queue : ℕ) (account : Account) (journal : Journal T) (knows : KnowsAccount burst queue account journal) where
  pub has_nobody : IsEmpty account → HasNobody queue journal
  has_nobody empty = record {
    idle = sym (works queue account journal knows) ∙ empty.idle;
    nobody_parked = no_names (parked queue journal) (sym knows.parked ∙ empty.nobody_parked);
  }

  pub is_empty : HasNobody queue journal → IsEmpty account
  is_empty nobody = record {
    idle = works queue account journal knows ∙ nobody.idle;
    nobody_parked = knows.parked ∙ ap length nobody.nobody_parked;
  }

-- a note that ends the parks of all queues speaks of none
ended_speaks : {T : Type 0} (note : Note T) (before : Journal T) → core_ended note ≡ true → (queue_noted note before ≡ None) × (park_noted note before ≡ None)
ended_speaks (CoreClosed mode) before ended = (refl, refl)
ended_speaks note before ended = absurd (true≢false (sym ended))

-- an account after what a note says of its queue and of a job that is parked there
abbrev pub spoken : ℕ → ℕ → Note ℕ → Bool → Bool → Account → Account
spoken burst at note own parked account =
    cond own (own_after burst at note (cond parked (released_after at note account) account)) (cond parked (released_after at note account) account)

module _ (burst : ℕ) (old released changed : Accounts) (spot : Spot) (note : Note ℕ)
    (release : (other : ℕ) → account_of released other ≡ cond (is_number other spot.parked) (released_after old.floor note (account_of old other)) (account_of old other))
    (change : (other : ℕ) → account_of changed other ≡ cond (is_number other spot.queue) (own_after burst released.floor note (account_of released other)) (account_of released other))
    (same_floor : released.floor ≡ old.floor) where
  changed_is : (queue : ℕ) → account_of changed queue ≡ spoken burst old.floor note (is_number queue spot.queue) (is_number queue spot.parked) (account_of old queue)
  changed_is queue = change queue ∙ (λ i. cond (is_number queue spot.queue) (own_after burst (same_floor i) note (release queue i)) (release queue i))

  -- a note that says nothing of a queue
  pub left_alone : (queue : ℕ) → is_number queue spot.queue ≡ false → is_number queue spot.parked ≡ false → account_of changed queue ≡ account_of old queue
  left_alone queue not_own not_parked = changed_is queue ∙ rw (not_own, not_parked) refl

  -- a note that doesn't end the parks of all queues
  pub each_going : core_ended note ≡ false → (queue : ℕ) →
      account_of changed queue ≡ account_after burst old.floor note (is_number queue spot.queue) (is_number queue spot.parked) (account_of old queue)
  each_going going queue = changed_is queue ∙ rw going refl

  module _ (new : Accounts) (before : Journal ℕ) (fits : FitsSpot spot note before) (knows : KnowsAccounts burst old before) (ended : core_ended note ≡ true)
      (told : (queue : ℕ) → Holds old.recent queue → account_of new queue ≡ woken old.floor (account_of changed queue))
      (others : (queue : ℕ) → (account_of changed queue).parked ≡ 0 → account_of new queue ≡ account_of changed queue) where
    same : (queue : ℕ) → account_of changed queue ≡ account_of old queue
    same queue =
        left_alone queue (ap (is_number queue) (fits.queue ∙ (ended_speaks note before ended).0)) (ap (is_number queue) (fits.parked ∙ (ended_speaks note before ended).1))

    new_is : (queue : ℕ) → account_of new queue ≡ woken old.floor (account_of old queue)
    new_is queue = by_count (cases_lt 0 (account_of old queue).parked)
      where
        by_count : (0 < (account_of old queue).parked) ⊎ ((account_of old queue).parked ≤ 0) → account_of new queue ≡ woken old.floor (account_of old queue)
        by_count (inl some) =
            told queue (knows.recent queue (omega (arith, some, (knows.each queue).parked))) ∙ ap (woken old.floor) (same queue)
        by_count (inr few) =
            let none : (account_of old queue).parked ≡ 0 = omega (arith, few) in
            others queue (ap (λ (account : Account). account.parked) (same queue) ∙ none) ∙
            (same queue ∙ sym (woken_nobody old.floor (account_of old queue) none))

    -- a note that ends them
    pub each_ended : (queue : ℕ) →
        account_of new queue ≡ account_after burst old.floor note (is_number queue spot.queue) (is_number queue spot.parked) (account_of old queue)
    each_ended queue =
        new_is queue ∙
        (
        ap (woken old.floor) (sym (same queue) ∙ changed_is queue) ∙
        rw ended refl
        )
