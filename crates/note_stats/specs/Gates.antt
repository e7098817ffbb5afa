-- What is known of what each actor sent, and how a note changes it.
use Rattle.std.specs.Prelude.{ℕ, Option, Some, None, length}
use Rattle.base_words.specs.declared.note.Note.{Note}
use Rattle.base_words.specs.declared.note.Note.TheVariants.{Took, Back, Answered, Created, Shut}
use Rattle.base_words.specs.Closing.{final_count}
use Rattle.base_words.specs.Filters.{delivered_names}
use Rattle.base_words.specs.Journal.{Journal}
use Rattle.note_stats.specs.declared.gates.GateCount.{GateCount}
use Rattle.note_stats.specs.Tallies.{one_more}

-- nothing was delivered, and the gate is open
abbrev pub open_gate : GateCount
open_gate = record { delivered = 0; count = None }

-- the actor of whose gate a note tells
abbrev pub gate_noted : {T : Type 0} → Note T → Option ℕ
gate_noted (Took name queue) = Some name.from
gate_noted (Back name reason) = Some name.from
gate_noted (Answered name answer) = Some name.from
gate_noted (Shut sender count) = Some sender
gate_noted _ = None

-- the gate after a note that tells of it
abbrev pub gate_after : {T : Type 0} → Note T → GateCount → GateCount
gate_after (Took name queue) gate = record gate { delivered = one_more gate.delivered }
gate_after (Back name reason) gate = record gate { delivered = one_more gate.delivered }
gate_after (Answered name answer) gate = record gate { delivered = one_more gate.delivered }
gate_after (Shut sender count) gate = record gate { count = Some count }
gate_after _ gate = gate

-- what these notes say of an actor's gate: how much of what it sent was delivered, and its final count, if it is shut
abbrev pub gate_of : {T : Type 0} → ℕ → Journal T → GateCount
gate_of sender journal = record { delivered = length (delivered_names sender journal); count = final_count sender journal }

-- one for a creation
abbrev pub creation_count : {T : Type 0} → Note T → ℕ
creation_count (Created queue weight) = 1
creation_count _ = 0
