-- What is printed of a cause.
use Rattle.std.specs.Prelude.{ℕ, List, codes}
use Rattle.text_journal.specs.declared.fault.JournalCause.{JournalCause}
use Rattle.text_journal.specs.declared.fault.JournalCause.TheVariants as cause

-- the text of a cause
abbrev pub cause_text : JournalCause → List ℕ
cause_text cause.Cut = codes "cut"
cause_text cause.Header = codes "header"
cause_text cause.Cores = codes "cores"
cause_text cause.Actor = codes "actor"
cause_text cause.Note = codes "note"
cause_text cause.TooMany = codes "too many"
cause_text cause.EndMissing = codes "end missing"
cause_text cause.AfterEnd = codes "after end"
