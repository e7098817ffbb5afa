-- What is known of all queues after one more note.
use Rattle.std.proofs.Common.{◌≡◌, ℕ, zero, suc, ◌+◌, ◌-◌, ◌<◌, min, max, List, [], ◌∷◌, length, refl, ap, ◌∙◌, cond, get_or, arith}
use Rattle.std.specs.Prelude.{nat_lt}
use Rattle.base_words.specs.declared.note.Note.{Note}
use Rattle.base_words.specs.Journal.{Journal}
use Rattle.base_words.specs.Limits.{most_queues}
use Rattle.note_facts.specs.Accounts.{fresh_account, greatest_runtime}
use Rattle.note_facts.specs.AllAccounts.{KnowsAccounts}
use Rattle.note_facts.specs.declared.accounts.Account.{Account}
use Rattle.note_facts.specs.declared.accounts.Accounts.{Accounts}
use Rattle.base_words.specs.Sums.{waiting_count}
use Rattle.note_stats.specs.Tallies.{no_tally}
use Rattle.note_stats.specs.Walks.{KnowsTallies}
use Rattle.note_stats.specs.declared.tally.Tallies.{Tallies}
use Rattle.note_stats.specs.declared.tally.Tally.{Tally}
use Rattle.judge_view.specs.Clocks.{time_settled}
use Rattle.judge_view.specs.Shares.{busy_shares, busy_below, due, due_noted, part}
use Rattle.judge_view.specs.Watches.{KnowsWatch, no_watch, owed, seen, shares_in, shares_below, waiting_in}
use Rattle.judge_view.specs.declared.watches.Watch.{Watch}

pub no_shares : (accounts : List Account) → 0 ≡ shares_below 0 accounts
unfolding shares_below
no_shares accounts = refl

next_shares : (queue : ℕ) (accounts : List Account) → shares_below queue accounts + shares_in (get_or accounts queue fresh_account) ≡ shares_below (suc queue) accounts
unfolding shares_below
next_shares queue accounts = refl

next : (count : ℕ) → suc count ≡ count + 1
next count = omega arith

-- one queue more
pub shares_more : (queue : ℕ) (accounts : List Account) → shares_below queue accounts + shares_in (get_or accounts queue fresh_account) ≡ shares_below (queue + 1) accounts
shares_more queue accounts = next_shares queue accounts ∙ ap (λ count. shares_below count accounts) (next queue)

-- what stands at a place of a list doesn't hang on what is given for a place past its end
pub any_default : {A : Type 0} (items : List A) (place : ℕ) (one other : A) → place < length items → get_or items place one ≡ get_or items place other
any_default [] place one other within = absurd (omega arith)
any_default (item ∷ items) zero one other within = refl
any_default (item ∷ items) (suc place) one other within = any_default items place one other (omega arith)

module _ (accounts : List Account) (each : List Watch) (queue : ℕ) (account : Account) (watch : Watch) (has_account : queue < length accounts) (has_watch : queue < length each) where
  -- a queue is owed its part
  pub owed_one : (time all own more : ℕ) (new : Watch) → own ≡ shares_in (get_or accounts queue account) → more ≡ part time own all →
      new ≡ owed more (get_or each queue watch) → new ≡ owed (part time (shares_in (get_or accounts queue fresh_account)) all) (get_or each queue no_watch)
  owed_one time all own more new own_is more_is new_is =
      new_is ∙
      (λ i. owed ((more_is ∙ ap (λ it. part time it all) (own_is ∙ ap shares_in (any_default accounts queue account fresh_account has_account))) i) (any_default each queue watch no_watch has_watch i))

  -- the jobs of a queue that wait are seen
  pub seen_one : (tallies : List Tally) (tally : Tally) (waiting : ℕ) (new : Watch) → queue < length tallies → waiting ≡ waiting_in (get_or accounts queue account) (get_or tallies queue tally) →
      new ≡ seen waiting (get_or each queue watch) → new ≡ seen (waiting_in (get_or accounts queue fresh_account) (get_or tallies queue no_tally)) (get_or each queue no_watch)
  seen_one tallies tally waiting new has_tally waiting_is new_is =
      new_is ∙
      (λ i. seen ((waiting_is ∙ (λ j. waiting_in (any_default accounts queue account fresh_account has_account j) (any_default tallies queue tally no_tally has_tally j))) i) (any_default each queue watch no_watch has_watch i))

sum_within : (sum more greatest : ℕ) → min (min sum greatest + more) greatest ≡ min (sum + more) greatest
sum_within sum more greatest = omega arith

module _ {T : Type 0} where
  pub none_watched : (queue : ℕ) (watch : Watch) → watch ≡ no_watch → KnowsWatch {T = T} queue watch []
  none_watched queue watch is = record { due = ap (λ (it : Watch). it.due) is; most_waiting = ap (λ (it : Watch). it.most_waiting) is }

  module _ (accounts : Accounts) (journal : Journal T) (knows : KnowsAccounts 1 accounts journal) where
    -- the accounts tell which queues have work, and their shares
    pub busy_known : (queue : ℕ) → shares_in (get_or accounts.queues queue fresh_account) ≡ busy_shares queue journal
    busy_known queue = λ i. cond (nat_lt ((knows.each queue).left i + (knows.each queue).parked i) ((knows.each queue).entered i)) ((knows.each queue).shares i) 0

    pub below_known : (count : ℕ) → shares_below count accounts.queues ≡ busy_below count journal
    unfolding shares_below busy_below
    below_known zero = refl
    below_known (suc queue) = λ i. below_known queue i + busy_known queue i

    -- the accounts and tallies tell how many jobs wait
    pub waiting_known : (tallies : Tallies) → KnowsTallies 1 tallies journal → (queue : ℕ) →
        waiting_in (get_or accounts.queues queue fresh_account) (get_or tallies.queues queue no_tally) ≡ waiting_count queue journal
    waiting_known tallies told queue =
        λ i.
        ((knows.each queue).entered i - (knows.each queue).left i) - (((told queue).figures i).begun - ((told queue).figures i).settled)

  -- a watch after one more note
  pub watch_next : (queue : ℕ) (note : Note T) (before : Journal T) (old mid new : Watch) (time own all waiting : ℕ) → time ≡ time_settled note →
      own ≡ busy_shares queue before → all ≡ busy_below most_queues before → waiting ≡ waiting_count queue (note ∷ before) →
      mid ≡ owed (part time own all) old → new ≡ seen waiting mid → KnowsWatch queue old before → KnowsWatch queue new (note ∷ before)
  watch_next queue note before old mid new time own all waiting time_is own_is all_is waiting_is owes sees knows = record {
    due =
        let more : part time own all ≡ due_noted queue note before = λ i. part (time_is i) (own_is i) (all_is i) in
        ap (λ (it : Watch). it.due) sees ∙ (ap (λ (it : Watch). it.due) owes
        ∙ ((λ i. min (knows.due i + more i) greatest_runtime) ∙ sum_within (due queue before) (due_noted queue note before) greatest_runtime));
    most_waiting =
        ap (λ (it : Watch). it.most_waiting) sees ∙ ((λ i. max ((owes i).most_waiting) (waiting_is i)) ∙ ap (λ most. max most (waiting_count queue (note ∷ before))) knows.most_waiting);
  }
