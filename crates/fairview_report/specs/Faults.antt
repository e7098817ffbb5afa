-- Why nothing is shown, and what is printed of it.
use Rattle.std.specs.Prelude.{ℕ, ◌++◌, List, codes, decimal, Result, Ok, Err}
use Rattle.text_journal.specs.declared.fault.JournalCause.{JournalCause}
use Rattle.text_words.specs.declared.fault.Fault as text
use Rattle.text_words.specs.declared.fault.Fault.TheVariants as fault
use Rattle.text_journal.specs.Faults.{cause_text}
use Rattle.text_words.specs.declared.status.Status.{Status}
use Rattle.text_words.specs.declared.status.Status.TheVariants as status
use Rattle.fairview_report.specs.declared.fault.ViewFault.{ViewFault}
use Rattle.fairview_report.specs.declared.fault.ViewFault.TheVariants.{Text, Core, Read, Write, Memory}

-- the text of a fault
abbrev pub fault_text : ViewFault → List ℕ
fault_text (Text line cause) = codes "line " ++ decimal line ++ codes ": " ++ cause_text cause
fault_text (Core core) = codes "there is no core " ++ decimal core
fault_text Read = codes "read failed"
fault_text Write = codes "write failed"
fault_text Memory = codes "out of memory"

-- what stops a reader stops the view
abbrev pub fault_of : text.Fault JournalCause → ViewFault
fault_of (fault.Text line cause) = Text line cause
fault_of fault.Read = Read
fault_of fault.Write = Write
fault_of fault.Memory = Memory

-- the exit status of an answer
abbrev pub status_of : Result (Unit {0}) ViewFault → Status
status_of (Ok done) = status.Done
status_of (Err (Text line cause)) = status.Refused
status_of (Err (Core core)) = status.Refused
status_of (Err Read) = status.Device
status_of (Err Write) = status.Device
status_of (Err Memory) = status.Memory

-- a fact of the faulty line and its cause, where the text is at fault
abbrev pub IfText : (ℕ × JournalCause → Type 0) → ViewFault → Type 0
IfText fact (Text line cause) = fact (line, cause)
IfText fact (Core core) = Unit {0}
IfText fact Read = Unit {0}
IfText fact Write = Unit {0}
IfText fact Memory = Unit {0}

-- a fact of the core that there isn't
abbrev pub IfCoreless : (ℕ → Type 0) → ViewFault → Type 0
IfCoreless fact (Text line cause) = Unit {0}
IfCoreless fact (Core core) = fact core
IfCoreless fact Read = Unit {0}
IfCoreless fact Write = Unit {0}
IfCoreless fact Memory = Unit {0}

-- a fact of a failed read
abbrev pub IfRead : Type 0 → ViewFault → Type 0
IfRead fact (Text line cause) = Unit {0}
IfRead fact (Core core) = Unit {0}
IfRead fact Read = fact
IfRead fact Write = Unit {0}
IfRead fact Memory = Unit {0}

-- a fact of a failed write
abbrev pub IfUnwritten : Type 0 → ViewFault → Type 0
IfUnwritten fact (Text line cause) = Unit {0}
IfUnwritten fact (Core core) = Unit {0}
IfUnwritten fact Read = Unit {0}
IfUnwritten fact Write = fact
IfUnwritten fact Memory = Unit {0}

-- a fact of each other fault, before which nothing is written
abbrev pub IfUnshown : Type 0 → ViewFault → Type 0
IfUnshown fact (Text line cause) = fact
IfUnshown fact (Core core) = fact
IfUnshown fact Read = fact
IfUnshown fact Write = Unit {0}
IfUnshown fact Memory = fact
