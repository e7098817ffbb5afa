-- What is printed of a fault, and the exit status of an answer.
use Rattle.std.specs.Prelude.{ℕ, Bool, true, false, List, codes, Result, Ok, Err}
use Rattle.text_words.specs.Causes as causes
use Rattle.text_words.specs.Faults as text
use Rattle.text_words.specs.Statuses.{fault_status}
use Rattle.text_words.specs.declared.fault.Fault.{Fault}
use Rattle.text_words.specs.declared.status.Status.{Status}
use Rattle.text_words.specs.declared.status.Status.TheVariants as status
use Rattle.fairexec_script.specs.declared.fault.ThreadsCause.{ThreadsCause}
use Rattle.fairexec_script.specs.declared.fault.ThreadsCause.TheVariants.{Line, NotForThreads, TooManyForCap, TooManyPolls}
use Rattle.fairexec_script.specs.declared.fault.ThreadsFault.{ThreadsFault}
use Rattle.fairexec_script.specs.declared.fault.ThreadsFault.TheVariants.{Of, Thread}

-- the text of a cause
abbrev pub cause_text : ThreadsCause → List ℕ
cause_text (Line cause) = causes.cause_text cause
cause_text NotForThreads = codes "not for threads"
cause_text TooManyForCap = codes "too many for cap"
cause_text TooManyPolls = codes "too many polls"

-- the text of a fault
abbrev pub fault_text : ThreadsFault → List ℕ
fault_text (Of fault) = text.fault_text cause_text fault
fault_text Thread = codes "no thread"

-- the exit status of an answer, which is false if the journals have a fault; want of memory and want of a thread have one status
abbrev pub status_of : Result Bool ThreadsFault → Status
status_of (Ok true) = status.Done
status_of (Ok false) = status.FaultFound
status_of (Err (Of fault)) = fault_status fault
status_of (Err Thread) = status.Memory

-- a fact of a fault that stops any call
abbrev pub IfOf : (Fault ThreadsCause → Type 0) → ThreadsFault → Type 0
IfOf fact (Of fault) = fact fault
IfOf fact Thread = Unit {0}
