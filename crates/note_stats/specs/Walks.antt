-- What a walk over a journal knows of the notes that it has read.
use Rattle.std.specs.Prelude.{◌≡◌, ℕ, zero, suc, ◌+◌, ◌-◌, ◌<◌, ◌≤◌, List, get_or, length}
use Rattle.base_words.specs.Commands.{created_count}
use Rattle.base_words.specs.Journal.{Journal, at_place}
use Rattle.base_words.specs.Picks.{turns}
use Rattle.note_facts.specs.declared.accounts.Account.{Account}
use Rattle.note_facts.specs.declared.accounts.Accounts.{Accounts}
use Rattle.note_facts.specs.Accounts.{greatest_count, fresh_account}
use Rattle.note_facts.specs.declared.parks.Parks.{Parks}
use Rattle.note_facts.specs.AllAccounts.{KnowsAccounts}
use Rattle.note_facts.specs.Parks.{KnowsParks}
use Rattle.note_stats.specs.declared.gates.Gates.{Gates}
use Rattle.note_stats.specs.declared.tally.Tallies.{Tallies}
use Rattle.note_stats.specs.Tallies.{KnowsTally, no_tally}
use Rattle.note_stats.specs.Gates.{gate_of, open_gate}

-- each tally says of its queue what these notes say
abbrev pub KnowsTallies : {T : Type 0} → ℕ → Tallies → Journal T → Type 0
KnowsTallies burst tallies journal = (queue : ℕ) → KnowsTally burst queue (get_or tallies.queues queue no_tally) journal

-- picks, creations and gates are counted as these notes say
pub record KnowsGates {T : Type 0} (gates : Gates) (journal : Journal T) : Type 0 where
  pub picked : gates.turns ≡ turns journal
  pub made : gates.created ≡ created_count journal
  pub each : (sender : ℕ) → get_or gates.senders sender open_gate ≡ gate_of sender journal
  pub picked_fit : turns journal ≤ length journal
  pub made_fit : created_count journal ≤ length journal

-- the jobs inside a queue, parked ones counted too, by its account
abbrev pub inside : Account → ℕ
inside account = account.entered - account.left

-- the jobs inside the queues below this number, by their accounts
abbrev pub inside_below : ℕ → List Account → ℕ
inside_below zero accounts = 0
inside_below (suc queue) accounts = inside_below queue accounts + inside (get_or accounts queue fresh_account)

-- how many polls a turn may have, the accounts and tallies of queues, and the gates
pub record FiguresView : Type 0 where
  pub burst : ℕ
  pub accounts : Accounts
  pub tallies : Tallies
  pub gates : Gates

-- all is counted as these notes tell it, where a turn may have so many polls
pub record KnowsFigures {T : Type 0} (burst : ℕ) (figures : FiguresView) (journal : Journal T) : Type 0 where
  pub same_burst : figures.burst ≡ burst
  pub accounts : KnowsAccounts burst figures.accounts journal
  pub tallies : KnowsTallies burst figures.tallies journal
  pub gates : KnowsGates figures.gates journal
  pub short : length journal ≤ greatest_count

-- the queues of jobs and where they are parked, and what is counted
pub record SumsView : Type 0 where
  pub parks : Parks
  pub figures : FiguresView

-- all is known as these notes tell it, where a turn may have so many polls
pub record KnowsSums {T : Type 0} (burst : ℕ) (sums : SumsView) (journal : Journal T) : Type 0 where
  pub parks : KnowsParks sums.parks journal
  pub figures : KnowsFigures burst sums.figures journal

-- the notes from one place up to some place before another were read: what told the notes before the first tells those before that one
pub record HasReadSome {T : Type 0} (from to : ℕ) (journal : Journal T) (old new : SumsView) : Type 0 where
  pub place : ℕ
  pub after : from ≤ place
  pub before : place < to
  pub known : (burst : ℕ) → KnowsSums burst old (at_place from journal) → KnowsSums burst new (at_place place journal)
