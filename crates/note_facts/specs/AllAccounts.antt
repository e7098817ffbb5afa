-- What is known of all queues of a journal.
use Rattle.std.specs.Prelude.{◌≡◌, ℕ, ◌<◌, true, false, [], get_or, length}
use Rattle.base_words.specs.declared.note.Note.{Note}
use Rattle.base_words.specs.Journal.{Journal}
use Rattle.base_words.specs.Names.{is_number}
use Rattle.base_words.specs.Parks.{parked}
use Rattle.base_words.specs.Runtimes.{floor}
use Rattle.base_words.specs.Work.{has_work}
use Rattle.note_facts.specs.declared.accounts.Account.{Account}
use Rattle.note_facts.specs.declared.accounts.Accounts.{Accounts}
use Rattle.note_facts.specs.declared.spots.Spot.{Spot}
use Rattle.note_facts.specs.Accounts.{KnowsAccount, fresh_account, has_jobs}
use Rattle.note_facts.specs.Endings.{core_ended}
use Rattle.note_facts.specs.Recent.{Holds}

-- the account of a queue
abbrev pub account_of : Accounts → ℕ → Account
account_of accounts queue = get_or accounts.queues queue fresh_account

-- a queue has no work, and no job of it is parked
pub record IsEmpty (account : Account) : Type 0 where
  pub idle : has_jobs account ≡ false
  pub nobody_parked : account.parked ≡ 0

-- the same by the notes
pub record HasNobody {T : Type 0} (queue : ℕ) (journal : Journal T) : Type 0 where
  pub idle : has_work queue journal ≡ false
  pub nobody_parked : parked queue journal ≡ []

-- a note leaves the account of a queue as it is: it doesn't speak of the queue, nor of a job that is parked in it, and it doesn't end parks there
pub record IsApart (note : Note ℕ) (spot : Spot) (queue : ℕ) (account : Account) : Type 0 where
  pub not_own : is_number queue spot.queue ≡ false
  pub not_parked : is_number queue spot.parked ≡ false
  pub nobody_parked : core_ended note ≡ true → account.parked ≡ 0

-- each account says of its queue what these notes say, the floor is theirs, and each queue with parked jobs was told
pub record KnowsAccounts {T : Type 0} (burst : ℕ) (accounts : Accounts) (journal : Journal T) : Type 0 where
  pub each : (queue : ℕ) → KnowsAccount burst queue (account_of accounts queue) journal
  pub floor : accounts.floor ≡ floor journal
  pub recent : (queue : ℕ) → 0 < length (parked queue journal) → Holds accounts.recent queue
