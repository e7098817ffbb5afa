-- What a walk knows of the shares of all queues.
use Rattle.std.specs.Prelude.{◌≡◌, ℕ, zero, suc, ◌+◌, ◌-◌, ◌<◌, min, max, List, if◌then◌else◌, get_or}
use Rattle.base_words.specs.Journal.{Journal}
use Rattle.base_words.specs.Limits.{most_queues}
use Rattle.note_facts.specs.Accounts.{fresh_account, greatest_runtime, has_jobs}
use Rattle.note_facts.specs.AllAccounts.{KnowsAccounts}
use Rattle.note_facts.specs.declared.accounts.Account.{Account}
use Rattle.note_stats.specs.Tallies.{no_tally}
use Rattle.note_facts.specs.Parks.{KnowsParks}
use Rattle.note_stats.specs.Walks.{KnowsFigures, KnowsTallies}
use Rattle.note_stats.specs.declared.tally.Tally.{Tally}
use Rattle.judge_view.specs.Clocks.{clock_of}
use Rattle.judge_view.specs.Shares.{due, most_waiting, part}
use Rattle.judge_view.specs.declared.shares.CoreShares.{CoreShares}
use Rattle.judge_view.specs.declared.watches.Watch.{Watch}
use Rattle.judge_view.specs.declared.watches.Watches.{Watches}

-- before the first note
abbrev pub no_watch : Watch
no_watch = record { due = 0; most_waiting = 0 }

-- the shares of a queue with work, by its account
abbrev pub shares_in : Account → ℕ
shares_in account = if has_jobs account then account.shares else 0

-- the shares of the queues below this number that have work, by their accounts
unfoldable pub shares_below : ℕ → List Account → ℕ
shares_below zero accounts = 0
shares_below (suc queue) accounts = shares_below queue accounts + shares_in (get_or accounts queue fresh_account)

-- the jobs of a queue that wait, parked ones counted too, by its account and its tally
abbrev pub waiting_in : Account → Tally → ℕ
waiting_in account tally = (account.entered - account.left) - (tally.begun - tally.settled)

-- more is due
abbrev pub owed : ℕ → Watch → Watch
owed more watch = record watch { due = min (watch.due + more) greatest_runtime }

-- so many jobs wait
abbrev pub seen : ℕ → Watch → Watch
seen waiting watch = record watch { most_waiting = max watch.most_waiting waiting }

-- each queue is due its part of a time, by the accounts of all
abbrev pub AreOwed : ℕ → List Account → List Watch → List Watch → Type 0
AreOwed time accounts old new =
    (queue : ℕ) → queue < most_queues → get_or new queue no_watch ≡
    owed (part time (shares_in (get_or accounts queue fresh_account)) (shares_below most_queues accounts)) (get_or old queue no_watch)

-- the jobs that wait in each queue are seen
abbrev pub AreSeen : List Account → List Tally → List Watch → List Watch → Type 0
AreSeen accounts tallies old new =
    (queue : ℕ) → queue < most_queues → get_or new queue no_watch ≡
    seen (waiting_in (get_or accounts queue fresh_account) (get_or tallies queue no_tally)) (get_or old queue no_watch)

-- a watch says of its queue what these notes say
pub record KnowsWatch {T : Type 0} (queue : ℕ) (watch : Watch) (journal : Journal T) : Type 0 where
  pub due : watch.due ≡ min (due queue journal) greatest_runtime
  pub most_waiting : watch.most_waiting ≡ most_waiting queue journal

-- each watch says of its queue what these notes say
abbrev pub AreWatched : {T : Type 0} → List Watch → Journal T → Type 0
AreWatched each journal = (queue : ℕ) → queue < most_queues → KnowsWatch queue (get_or each queue no_watch) journal

-- all is known as these notes tell it; no charge is asked for, so each poll may stand for a turn
pub record KnowsWatches {T : Type 0} (watches : Watches) (journal : Journal T) : Type 0 where
  pub parks : KnowsParks watches.parks journal
  pub accounts : KnowsAccounts 1 watches.accounts journal
  pub tallies : KnowsTallies 1 watches.tallies journal
  pub each : AreWatched watches.each journal

-- the clock, the figures and the watches are those of these notes, where a turn may have so many polls
pub record KnowsShares {T : Type 0} (burst : ℕ) (shares : CoreShares) (journal : Journal T) : Type 0 where
  pub clock : shares.clock ≡ clock_of journal
  pub figures : KnowsFigures burst shares.figures journal
  pub watches : KnowsWatches shares.watches journal
