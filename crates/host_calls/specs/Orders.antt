-- Orders of the host, by numbers: the order, or the code of the first number that is out of its range.
use Rattle.std.specs.Prelude.{◌≡◌, ◌⊎◌, ◌==◌, if◌then◌else◌, ℕ, ◌<◌, ◌≤◌, Option, Some, None, Result, Ok, Err}
use Rattle.base_words.specs.declared.order.Mode.{Mode}
use Rattle.base_words.specs.declared.order.Mode.TheVariants.{Finish, Return}
use Rattle.base_words.specs.declared.order.Order.{Order}
use Rattle.base_words.specs.declared.order.Order.TheVariants as order
use Rattle.host_calls.specs.declared.code.Code.{Code}
use Rattle.host_calls.specs.declared.code.Code.TheVariants as code
use Rattle.host_calls.specs.declared.names.Name.{Name}

-- a number that shares may have
pub record AreShares (shares : ℕ) : Type 0 where
  pub some : 1 ≤ shares
  pub few : shares ≤ 10000

-- the mode of a number, if it is one
abbrev pub mode_of_number : ℕ → Option Mode
mode_of_number number = if number == 0 then Some Finish else if number == 1 then Some Return else None

-- a job for a queue
abbrev pub IsJobOrder : ℕ → ℕ → Result (Order ℕ) Code → Type 0
IsJobOrder queue job (Ok it) = (queue < 256) × (it ≡ order.Job queue job)
IsJobOrder queue job (Err told) = (256 ≤ queue) × (told ≡ code.NoQueue)

-- a queue with these shares
abbrev pub IsCreateOrder : ℕ → Result (Order ℕ) Code → Type 0
IsCreateOrder shares (Ok it) = AreShares shares × (it ≡ order.Create shares)
IsCreateOrder shares (Err told) = ((shares ≡ 0) ⊎ (10000 < shares)) × (told ≡ code.BadShares)

-- other shares of a queue
abbrev pub IsSharesOrder : ℕ → ℕ → Result (Order ℕ) Code → Type 0
IsSharesOrder queue shares (Ok it) = AreShares shares × (queue < 256) × (it ≡ order.SetShares queue shares)
IsSharesOrder queue shares (Err code.BadShares) = (shares ≡ 0) ⊎ (10000 < shares)
IsSharesOrder queue shares (Err code.NoQueue) = AreShares shares × (256 ≤ queue)
IsSharesOrder queue shares (Err other) = ⊥

-- the closing of a queue
abbrev pub IsCloseOrder : ℕ → Option Mode → Result (Order ℕ) Code → Type 0
IsCloseOrder queue (Some mode) (Ok it) = (queue < 256) × (it ≡ order.Close queue mode)
IsCloseOrder queue None (Ok it) = ⊥
IsCloseOrder queue mode (Err code.NoQueue) = 256 ≤ queue
IsCloseOrder queue mode (Err code.BadNumber) = (queue < 256) × (mode ≡ None)
IsCloseOrder queue mode (Err other) = ⊥

-- the closing of a core
abbrev pub IsCoreOrder : Option Mode → Result (Order ℕ) Code → Type 0
IsCoreOrder (Some mode) (Ok it) = it ≡ order.CloseCore mode
IsCoreOrder None (Ok it) = ⊥
IsCoreOrder mode (Err told) = (mode ≡ None) × (told ≡ code.BadNumber)

-- the wake of a job
abbrev pub IsWakeOrder : Name → Result (Order ℕ) Code → Type 0
IsWakeOrder name (Ok it) = (name.from < 256) × (it ≡ order.Wake name.from name.number)
IsWakeOrder name (Err told) = (256 ≤ name.from) × (told ≡ code.NoActor)
