-- Exit statuses.
use Rattle.std.specs.Prelude.{ℕ, Bool, true, false, Result, Ok, Err}
use Rattle.text_words.specs.declared.fault.Fault.{Fault}
use Rattle.text_words.specs.declared.fault.Fault.TheVariants.{Text, Read, Write, Memory}
use Rattle.text_words.specs.declared.status.Status.{Status}
use Rattle.text_words.specs.declared.status.Status.TheVariants as status

-- the status of a fault
abbrev pub fault_status : {C : Type 0} → Fault C → Status
fault_status (Text line cause) = status.Refused
fault_status Read = status.Device
fault_status Write = status.Device
fault_status Memory = status.Memory

-- the status of an answer, which is false if what was asked for was judged and has a fault
abbrev pub status_of : {C : Type 0} → Result Bool (Fault C) → Status
status_of (Ok true) = status.Done
status_of (Ok false) = status.FaultFound
status_of (Err fault) = fault_status fault

-- its number
abbrev pub code_of : Status → ℕ
code_of status.Done = 0
code_of status.FaultFound = 1
code_of status.Refused = 2
code_of status.Device = 3
code_of status.Memory = 4
