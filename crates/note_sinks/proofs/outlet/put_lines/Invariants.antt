-- The lines of the notes so far stand behind the page.
use Rattle.std.proofs.Common.{◌≡◌, ◌++◌, take}
use Rattle.note_sinks.specs.Outlets.{notes_text}
use Rattle.note_sinks.proofs.outlet.put_lines.Given as goal

abbrev pub invariant-loop-note : goal.invariant-loop-note
invariant-loop-note l = l.page.items ≡ l.initial.page.items ++ notes_text l.actor (take l.note-index l.notes)
