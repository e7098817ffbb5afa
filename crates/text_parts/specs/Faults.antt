-- Why the bytes of a house don't become a text, and what is printed of it.
use Rattle.std.specs.Prelude.{ℕ, ◌+◌, ◌++◌, List, codes, decimal}
use Rattle.text_words.specs.declared.status.Status.{Status}
use Rattle.text_words.specs.declared.status.Status.TheVariants as status
use Rattle.text_parts.specs.declared.fault.BytesFault.{BytesFault}
use Rattle.text_parts.specs.declared.fault.BytesFault.TheVariants as fault
use Rattle.text_parts.specs.declared.part.PartCause.{PartCause}
use Rattle.text_parts.specs.declared.part.PartCause.TheVariants as part
use Rattle.text_parts.specs.declared.parts.PartsCause.{PartsCause}
use Rattle.text_parts.specs.declared.parts.PartsCause.TheVariants as cause

-- the text of what is wrong with a part
abbrev pub part_text : PartCause → List ℕ
part_text part.Cut = codes "cut"
part_text part.Form = codes "form"
part_text part.Sum = codes "sum"
part_text part.Notes = codes "notes"

-- the text of a cause
abbrev pub cause_text : PartsCause → List ℕ
cause_text cause.House = codes "head"
cause_text (cause.Part told) = part_text told
cause_text cause.Actor = codes "actor"
cause_text cause.Before = codes "before"
cause_text cause.TooMany = codes "too many"
cause_text cause.Note = codes "note"

-- the text of a fault; the first byte is the first, as the first line is
abbrev pub fault_text : BytesFault → List ℕ
fault_text (fault.Faulty place told) = codes "byte " ++ decimal (place + 1) ++ codes ": " ++ cause_text told
fault_text fault.Read = codes "read failed"
fault_text fault.Write = codes "write failed"
fault_text fault.Memory = codes "out of memory"

-- the exit status of a program that tells a fault
abbrev pub bytes_status : BytesFault → Status
bytes_status (fault.Faulty place told) = status.Refused
bytes_status fault.Read = status.Device
bytes_status fault.Write = status.Device
bytes_status fault.Memory = status.Memory

-- a fact of the place and the cause, if the bytes are faulty
abbrev pub IfBytes : (ℕ → PartsCause → Type 0) → BytesFault → Type 0
IfBytes fact (fault.Faulty place told) = fact place told
IfBytes fact fault.Read = Unit {0}
IfBytes fact fault.Write = Unit {0}
IfBytes fact fault.Memory = Unit {0}

-- a fact of a failed read
abbrev pub IfRead : Type 0 → BytesFault → Type 0
IfRead fact (fault.Faulty place told) = Unit {0}
IfRead fact fault.Read = fact
IfRead fact fault.Write = Unit {0}
IfRead fact fault.Memory = Unit {0}

-- a fact of a failed write
abbrev pub IfUnwritten : Type 0 → BytesFault → Type 0
IfUnwritten fact (fault.Faulty place told) = Unit {0}
IfUnwritten fact fault.Read = Unit {0}
IfUnwritten fact fault.Write = fact
IfUnwritten fact fault.Memory = Unit {0}
