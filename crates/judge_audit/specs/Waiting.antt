-- Where each queue waits for its turn, and how its key follows its account.
use Rattle.std.specs.Prelude.{◌≡◌, ◌≢◌, ◌⊎◌, ℕ, ◌<◌, min, if◌then◌else◌, true, false, IsTrue, Option, Some, None}
use Rattle.base_words.specs.declared.names.Key.{Key}
use Rattle.base_words.specs.Journal.{Journal}
use Rattle.base_words.specs.Runtimes.{virtual_runtime}
use Rattle.base_words.specs.Work.{has_work}
use Rattle.note_facts.specs.declared.accounts.Account.{Account}
use Rattle.note_facts.specs.declared.accounts.Accounts.{Accounts}
use Rattle.note_facts.specs.declared.recent.Recent.{Recent}
use Rattle.note_facts.specs.Accounts.{has_jobs, greatest_runtime}
use Rattle.note_facts.specs.AllAccounts.{account_of}
use Rattle.note_facts.specs.Recent.{Holds}
use Rattle.judge_audit.specs.declared.least.Least.{Least}
use Rattle.judge_audit.specs.Winners.{key_of}

-- the virtual runtime at which a queue waits: the last one if it has no work
abbrev pub runtime_waiting : Account → ℕ
runtime_waiting account = if has_jobs account then account.virtual_runtime else greatest_runtime

-- the key at which a queue waits
abbrev pub key_waiting : Accounts → ℕ → Key
key_waiting accounts queue = record { vr = runtime_waiting (account_of accounts queue); queue = queue }

-- a queue has the key at which it waits, and the others have their old ones
pub record IsPlaced (accounts : Accounts) (old new : Least) (queue : ℕ) : Type 0 where
  pub here : key_of new queue ≡ key_waiting accounts queue
  pub others : (other : ℕ) → other ≢ queue → key_of new other ≡ key_of old other

-- the same, if there is a queue
abbrev pub IsPlacedIf : Accounts → Least → Least → Option ℕ → Type 0
IsPlacedIf accounts old new None = new ≡ old
IsPlacedIf accounts old new (Some queue) = IsPlaced accounts old new queue

-- each queue has its old key or the one at which it waits, and each that was told has the latter
pub record ArePlaced (accounts : Accounts) (recent : Recent) (old new : Least) : Type 0 where
  pub either : (queue : ℕ) → (key_of new queue ≡ key_of old queue) ⊎ (key_of new queue ≡ key_waiting accounts queue)
  pub held : (queue : ℕ) → Holds recent queue → key_of new queue ≡ key_waiting accounts queue

-- a key is that of a queue with this account: one without work waits behind all others
pub record IsWaiting (account : Account) (queue : ℕ) (key : Key) : Type 0 where
  pub runtime : key.vr ≡ runtime_waiting account
  pub number : has_jobs account ≡ true → key.queue ≡ queue

-- each queue waits at its key
abbrev pub AreWaiting : Accounts → Least → Type 0
AreWaiting accounts least = (queue : ℕ) → queue < 256 → IsWaiting (account_of accounts queue) queue (key_of least queue)

-- each queue with work stands at its virtual runtime
abbrev pub KnowsLeast : ℕ → Least → Journal ℕ → Type 0
KnowsLeast burst least before =
    (queue : ℕ) → IsTrue (has_work queue before) → key_of least queue ≡ record { vr = min (virtual_runtime burst queue before) greatest_runtime; queue = queue }

-- each queue without work waits behind all others
abbrev pub KnowsIdle : Least → Journal ℕ → Type 0
KnowsIdle least before = (queue : ℕ) → queue < 256 → has_work queue before ≡ false → (key_of least queue).vr ≡ greatest_runtime
