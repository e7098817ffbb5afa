-- What is known of a queue, and how a note changes it.
use Rattle.std.specs.Prelude.{◌≡◌, ℕ, ◌+◌, ◌-◌, min, Bool, not, ◌&&◌, nat_lt, if◌then◌else◌, length}
use Rattle.base_words.specs.Charge.{charge, placed}
use Rattle.base_words.specs.declared.note.Note.{Note}
use Rattle.base_words.specs.declared.note.Note.TheVariants.{Took, Created, SharesSet, QueueClosed, Woken, Yield, Park, Stayed, Done, Returned, Turned}
use Rattle.base_words.specs.Bursts.{has_bursts}
use Rattle.base_words.specs.Journal.{Journal}
use Rattle.base_words.specs.Parks.{is_return, parked}
use Rattle.base_words.specs.Runtimes.{shares, virtual_runtime}
use Rattle.base_words.specs.Work.{entered_count, left_count}
use Rattle.note_facts.specs.Endings.{core_ended}
pub use Rattle.note_facts.specs.Limits.{greatest_runtime, greatest_count}
use Rattle.note_facts.specs.declared.accounts.Account.{Account}

-- before the first note
abbrev pub fresh_account : Account
fresh_account = record { shares = 1000; virtual_runtime = 0; entered = 0; left = 0; parked = 0 }

-- more jobs entered than left and are parked
abbrev pub has_jobs : Account → Bool
has_jobs account = nat_lt (account.left + account.parked) account.entered

-- a job enters, and places a queue without work at the floor
abbrev pub entering : ℕ → Account → Account
entering floor account =
    record account {
      virtual_runtime = if has_jobs account then account.virtual_runtime else placed account.virtual_runtime floor;
      entered = min (account.entered + 1) greatest_count;
    }

-- a time is charged, if it counts
abbrev pub charged_if : Bool → ℕ → Account → Account
charged_if counts time account =
    record account { virtual_runtime = if counts then min (account.virtual_runtime + charge time account.shares) greatest_runtime else account.virtual_runtime }

-- a poll is settled: its time is charged where it ends its turn
abbrev pub polled : ℕ → ℕ → Account → Account
polled burst time account = charged_if (not (has_bursts burst)) time account

-- a note ends a turn: its time is charged where turns end so
abbrev pub turned : ℕ → ℕ → Account → Account
turned burst time account = charged_if (has_bursts burst) time account

-- a job is done or handed back
abbrev pub leaving : Account → Account
leaving account = record account { left = min (account.left + 1) greatest_count }

-- a job is parked
abbrev pub parking : Account → Account
parking account = record account { parked = min (account.parked + 1) greatest_count }

-- so many parks end, and place a queue without work at the floor
abbrev pub waking : ℕ → ℕ → Account → Account
waking count floor account =
    record account {
      virtual_runtime = if nat_lt 0 count && not (has_jobs account) then placed account.virtual_runtime floor else account.virtual_runtime;
      parked = account.parked - count;
    }

-- the account of a queue in which the job of a note is parked: a wake ends the park, a further park takes its place
abbrev pub released_after : {T : Type 0} → ℕ → Note T → Account → Account
released_after floor (Woken name) account = waking 1 floor account
released_after floor (Park name time) account = record account { parked = account.parked - 1 }
released_after floor _ account = account

-- the account of the queue of which a note speaks
abbrev pub own_after : {T : Type 0} → ℕ → ℕ → Note T → Account → Account
own_after burst floor (Took name queue) account = entering floor account
own_after burst floor (Created queue weight) account = record account { shares = weight }
own_after burst floor (SharesSet queue weight) account = record account { shares = weight }
own_after burst floor (QueueClosed queue mode) account = if is_return mode then waking account.parked floor account else account
own_after burst floor (Yield name time) account = polled burst time account
own_after burst floor (Park name time) account = parking (polled burst time account)
own_after burst floor (Stayed name time) account = polled burst time account
own_after burst floor (Done name time value) account = leaving (polled burst time account)
own_after burst floor (Returned name reason) account = leaving account
own_after burst floor (Turned queue time) account = turned burst time account
own_after burst floor _ account = account

-- the account of each queue where a note closes the core
abbrev pub closed_after : {T : Type 0} → ℕ → Note T → Account → Account
closed_after floor note account = if core_ended note then waking account.parked floor account else account

-- an account after a note that speaks of its queue, or doesn't, and whose job is parked there, or isn't
abbrev pub account_after : {T : Type 0} → ℕ → ℕ → Note T → Bool → Bool → Account → Account
account_after burst floor note own parked account =
    let released = if parked then released_after floor note account else account in
    closed_after floor note (if own then own_after burst floor note released else released)

-- the account says of its queue what these notes say, where a turn may have so many polls
pub record KnowsAccount {T : Type 0} (burst queue : ℕ) (account : Account) (journal : Journal T) : Type 0 where
  pub shares : account.shares ≡ shares queue journal
  pub runtime : account.virtual_runtime ≡ min (virtual_runtime burst queue journal) greatest_runtime
  pub entered : account.entered ≡ entered_count queue journal
  pub left : account.left ≡ left_count queue journal
  pub parked : account.parked ≡ length (parked queue journal)
