-- The numbers of the codes, and the codes of refusals.
use Rattle.std.specs.Prelude.{◌≡◌, ℕ, Result}
use Rattle.host_core.specs.declared.answers.Refusal.{Refusal}
use Rattle.host_core.specs.declared.answers.Refusal.TheVariants as refusal
use Rattle.host_calls.specs.declared.code.Code.{Code}
use Rattle.host_calls.specs.declared.code.Code.TheVariants as code

-- the number by which the host knows a code; a closed queue, a closed core and a shut gate have one
abbrev pub number_of : Code → ℕ
number_of code.Ok = 0
number_of code.Start = 1
number_of code.Resume = 2
number_of code.Done = 3
number_of code.Back = 4
number_of code.Idle = 5
number_of code.Spent = 6
number_of code.Busy = 7
number_of code.NoJob = 8
number_of code.Full = 9
number_of code.NoMemory = 10
number_of code.BadShares = 11
number_of code.Empty = 12
number_of code.NoQueue = 13
number_of code.QueueClosed = 14
number_of code.CoreClosed = 14
number_of code.TooMany = 15
number_of code.BadNumber = 16
number_of code.Occupied = 17
number_of code.Parked = 18
number_of code.Absent = 19
number_of code.JournalFull = 20
number_of code.UnknownCore = 21
number_of code.NoActor = 22
number_of code.Unknown = 23
number_of code.Gone = 24
number_of code.Pending = 25
number_of code.Open = 26
number_of code.Shut = 27
number_of code.NotDrained = 28
number_of code.Mixed = 29
number_of code.Short = 30
number_of code.PassedOn = 31

-- the code of a refusal; the last number that a shut gate accepted isn't told
abbrev pub code_of_refusal : Refusal → Code
code_of_refusal refusal.Busy = code.Busy
code_of_refusal refusal.NoJob = code.NoJob
code_of_refusal refusal.JournalFull = code.JournalFull
code_of_refusal refusal.NoCore = code.UnknownCore
code_of_refusal refusal.NoActor = code.NoActor
code_of_refusal (refusal.Closed last) = code.CoreClosed
code_of_refusal refusal.Full = code.Full
code_of_refusal refusal.Spent = code.Spent
code_of_refusal refusal.Unknown = code.Unknown
code_of_refusal refusal.Gone = code.Gone
code_of_refusal refusal.Pending = code.Pending
code_of_refusal refusal.Open = code.Open
code_of_refusal refusal.Shut = code.Shut
code_of_refusal refusal.NotDrained = code.NotDrained

-- what the call of Rattle answered, and the code of it
abbrev pub Tells : {A : Type 0} → (Result A Refusal → Type 0) → (Result A Refusal → Code) → Code → Type 0
Tells {A} does code_of told = (answer : Result A Refusal) × does answer × (told ≡ code_of answer)
