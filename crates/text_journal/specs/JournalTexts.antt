-- The text of journals: its lines, judged one after another.
use Rattle.std.specs.Prelude.{ℕ, List, [], ◌∷◌, length, Result, Ok, Err, nat_lt, if◌then◌else◌}
use Rattle.text_bytes.specs.Texts.{Judge, text_judged}
use Rattle.text_journal.specs.declared.draft.Part.{Part}
use Rattle.text_journal.specs.declared.draft.Part.TheVariants as part
use Rattle.text_journal.specs.declared.fault.JournalCause.{JournalCause}
use Rattle.text_journal.specs.declared.fault.JournalCause.TheVariants as cause
use Rattle.text_journal.specs.Drafts.{Drafted, empty_draft, judged, too_long, longest_line}

-- what a faulty line is told by: its number from 1 and the cause
abbrev pub Fault : Type 0
Fault = ℕ × JournalCause

-- the text ends before this line: after `end` it is whole
abbrev pub whole : ℕ → Drafted → Part → Result Drafted Fault
whole number draft part.Form = Err (number, cause.Header)
whole number draft part.Size = Err (number, cause.Cores)
whole number draft part.Notes = Err (number, cause.EndMissing)
whole number draft part.After = Ok draft

-- what stands behind the last line feed: nothing may
abbrev pub at_end : ℕ → Drafted → List ℕ → Result Drafted Fault
at_end number draft [] = whole number draft draft.part
at_end number draft (byte ∷ bytes) =
    if nat_lt longest_line (length (byte ∷ bytes)) then Err (number, too_long draft.part)
    else Err (number, cause.Cut)

abbrev pub judge : Judge Drafted JournalCause
judge = record { longest = longest_line; judged = λ draft number line. judged draft line; at_end = λ draft number rest. at_end number draft rest }

-- the journals that a text tells, or its first faulty line
abbrev pub journals_of : List ℕ → Result Drafted Fault
journals_of text = text_judged judge empty_draft text
