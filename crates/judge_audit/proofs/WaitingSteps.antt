-- Each queue waits at its key after one more note, too.
use Rattle.std.proofs.Common.{◌≡◌, ℕ, ◌<◌, ◌≤◌, ◌⊎◌, inl, inr, min, Bool, true, false, refl, sym, ◌∙◌, ap, subst, cond, length, arith, []}
use Rattle.std.proofs.lemmas.Bool.{cases_lt, true≢false}
use Rattle.base_words.specs.declared.names.Key.{Key}
use Rattle.base_words.specs.declared.note.Note.{Note}
use Rattle.base_words.specs.Journal.{Journal}
use Rattle.base_words.specs.Names.{is_number}
use Rattle.base_words.specs.Runtimes.{virtual_runtime}
use Rattle.base_words.specs.Work.{has_work}
use Rattle.note_facts.specs.declared.accounts.Account.{Account}
use Rattle.note_facts.specs.declared.accounts.Accounts.{Accounts}
use Rattle.note_facts.specs.declared.spots.Spot.{Spot}
use Rattle.note_facts.specs.Accounts.{has_jobs, greatest_runtime}
use Rattle.note_facts.specs.AllAccounts.{KnowsAccounts, IsApart, account_of}
use Rattle.note_facts.specs.Endings.{core_ended}
use Rattle.note_facts.specs.Recent.{Holds}
use Rattle.note_facts.proofs.AccountSteps.{works}
use Rattle.note_facts.proofs.AllAccounts.{fresh_past}
use Rattle.judge_audit.specs.declared.least.Least.{Least}
use Rattle.judge_audit.specs.Waiting.{AreWaiting, IsPlacedIf, IsWaiting, KnowsIdle, KnowsLeast, key_waiting}
use Rattle.judge_audit.specs.Winners.{key_of, last_key}
use Rattle.judge_audit.proofs.Placings.{placed_cases}

-- a queue that was given its key waits at it
waits_here : (accounts : Accounts) (queue : ℕ) (key : Key) → key ≡ key_waiting accounts queue → IsWaiting (account_of accounts queue) queue key
waits_here accounts queue key is = record { runtime = ap (λ (it : Key). it.vr) is; number = λ jobs. ap (λ (it : Key). it.queue) is }

module _ (burst : ℕ) (old new : Accounts) (note : Note ℕ) (spot : Spot) (before : Journal ℕ) (knows : KnowsAccounts burst old before)
    (others : (queue : ℕ) → IsApart note spot queue (account_of old queue) → account_of new queue ≡ account_of old queue) where
  module _ (least ended released changed : Least) (waiting : AreWaiting old least) (parked : IsPlacedIf new ended released spot.parked)
      (own : IsPlacedIf new released changed spot.queue) where
    -- a queue that a note leaves alone waits where it waited
    waits_on : (queue : ℕ) → queue < 256 → IsApart note spot queue (account_of old queue) →
        (key_of ended queue ≡ key_of least queue) ⊎ (key_of ended queue ≡ key_waiting new queue) → IsWaiting (account_of new queue) queue (key_of ended queue)
    waits_on queue few apart (inl same) =
        subst (λ (account : Account). IsWaiting account queue (key_of ended queue)) (sym (others queue apart))
        (subst (λ (key : Key). IsWaiting (account_of old queue) queue key) (sym same) (waiting queue few))
    waits_on queue few apart (inr placed) = waits_here new queue (key_of ended queue) placed

    -- the same of each queue that isn't the one of the note, nor of its parked job
    waits_ended : (queue : ℕ) → queue < 256 → is_number queue spot.queue ≡ false → is_number queue spot.parked ≡ false →
        (key_of ended queue ≡ key_of least queue) ⊎ (key_of ended queue ≡ key_waiting new queue) →
        (core_ended note ≡ true → Holds old.recent queue → key_of ended queue ≡ key_waiting new queue) → IsWaiting (account_of new queue) queue (key_of ended queue)
    waits_ended queue few not_own not_parked either held = by_end (core_ended note) refl
      where
        by_count : core_ended note ≡ true → ((account_of old queue).parked ≡ 0) ⊎ (0 < (account_of old queue).parked) →
            IsWaiting (account_of new queue) queue (key_of ended queue)
        by_count ends (inl none) =
            waits_on queue few (record { not_own = not_own; not_parked = not_parked; nobody_parked = λ ends. none }) either
        by_count ends (inr some) =
            waits_here new queue (key_of ended queue) (held ends (knows.recent queue (omega (arith, some, (knows.each queue).parked))))

        by_end : (test : Bool) → core_ended note ≡ test → IsWaiting (account_of new queue) queue (key_of ended queue)
        by_end true ends = by_count ends (some_or_none (account_of old queue).parked)
          where
            some_or_none : (count : ℕ) → (count ≡ 0) ⊎ (0 < count)
            some_or_none count = by_less (cases_lt 0 count)
              where
                by_less : (0 < count) ⊎ (count ≤ 0) → (count ≡ 0) ⊎ (0 < count)
                by_less (inl some) = inr some
                by_less (inr none) = inl (omega (arith, none))
        by_end false goes =
            waits_on queue few (record { not_own = not_own; not_parked = not_parked; nobody_parked = λ ends. absurd (true≢false (sym ends ∙ goes)) }) either

    pub next_waiting : ((queue : ℕ) → (key_of ended queue ≡ key_of least queue) ⊎ (key_of ended queue ≡ key_waiting new queue)) →
        (core_ended note ≡ true → (queue : ℕ) → Holds old.recent queue → key_of ended queue ≡ key_waiting new queue) → AreWaiting new changed
    next_waiting either held queue few = by_own (placed_cases new released changed queue spot.queue own)
      where
        by_parked : (is_number queue spot.queue ≡ false) → key_of changed queue ≡ key_of released queue →
            ((is_number queue spot.parked ≡ false) × (key_of released queue ≡ key_of ended queue)) ⊎ (key_of released queue ≡ key_waiting new queue) →
            IsWaiting (account_of new queue) queue (key_of changed queue)
        by_parked not_own same (inl apart) =
            subst (λ (key : Key). IsWaiting (account_of new queue) queue key) (sym (same ∙ apart.1))
            (waits_ended queue few not_own apart.0 (either queue) (λ ends holds. held ends queue holds))
        by_parked not_own same (inr placed) = waits_here new queue (key_of changed queue) (same ∙ placed)

        by_own : ((is_number queue spot.queue ≡ false) × (key_of changed queue ≡ key_of released queue)) ⊎ (key_of changed queue ≡ key_waiting new queue) →
            IsWaiting (account_of new queue) queue (key_of changed queue)
        by_own (inl apart) = by_parked apart.0 apart.1 (placed_cases new ended released queue spot.parked parked)
        by_own (inr placed) = waits_here new queue (key_of changed queue) placed

module _ (burst : ℕ) (accounts : Accounts) (least : Least) (before : Journal ℕ) (knows : KnowsAccounts burst accounts before) (waiting : AreWaiting accounts least) where
  has_account : (queue : ℕ) → length accounts.queues ≤ 256 → has_work queue before ≡ true → (queue < 256) ⊎ (256 ≤ queue) → queue < 256
  has_account queue few work (inl within) = within
  has_account queue few work (inr past) =
      let idle : has_jobs (account_of accounts queue) ≡ false = ap has_jobs (fresh_past accounts.queues queue (omega (arith, few, past))) in
      absurd (true≢false (sym work ∙ (sym (works queue (account_of accounts queue) before (knows.each queue)) ∙ idle)))

  -- each queue with work stands at its virtual runtime
  pub least_known : length accounts.queues ≤ 256 → KnowsLeast burst least before
  least_known few queue work =
      let waits = waiting queue (has_account queue few work (cases_lt queue 256)) in
      let jobs : has_jobs (account_of accounts queue) ≡ true = works queue (account_of accounts queue) before (knows.each queue) ∙ work in
      let runtime : (key_of least queue).vr ≡ min (virtual_runtime burst queue before) greatest_runtime =
      waits.runtime ∙ (ap (λ test. cond test (account_of accounts queue).virtual_runtime greatest_runtime) jobs ∙ (knows.each queue).runtime) in
      λ i. record { vr = runtime i; queue = waits.number jobs i }

  -- each queue without work waits behind all others
  pub idle_known : KnowsIdle least before
  idle_known queue few work =
      (waiting queue few).runtime ∙
      ap (λ test. cond test (account_of accounts queue).virtual_runtime greatest_runtime)
      (works queue (account_of accounts queue) before (knows.each queue) ∙ work)

-- no queue has work before the first note
pub fresh_waiting : (burst : ℕ) (accounts : Accounts) (least : Least) → KnowsAccounts {T = ℕ} burst accounts [] → (queue : ℕ) → key_of least queue ≡ last_key →
    IsWaiting (account_of accounts queue) queue (key_of least queue)
fresh_waiting burst accounts least knows queue last =
    let idle : has_jobs (account_of accounts queue) ≡ false = works {T = ℕ} queue (account_of accounts queue) [] (knows.each queue) in
    record {
      runtime = ap (λ (key : Key). key.vr) last ∙ sym (ap (λ test. cond test (account_of accounts queue).virtual_runtime greatest_runtime) idle);
      number = λ jobs. absurd (true≢false (sym jobs ∙ idle));
    }
