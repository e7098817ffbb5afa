-- The notes so far were handed on.
use Rattle.std.proofs.Common.{◌≡◌, take}
use Rattle.text_parts.specs.Houses.{with_notes}
use Rattle.text_parts.proofs.parts.take_notes.Given as goal

abbrev pub invariant-loop-note : goal.invariant-loop-note
invariant-loop-note g l = l.draft ≡ with_notes (take l.note-index l.notes) l.fn.draft
