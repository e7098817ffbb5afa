use Rattle.std.proofs.Common.{◌≡◌, ◌++◌, take}
use Rattle.text_parts.specs.Parts.{body_bytes}
use Rattle.text_parts.proofs.part.put_notes.Given as goal

abbrev pub invariant-loop-note : goal.invariant-loop-note
invariant-loop-note l = l.out.items ≡ l.fn.out.items ++ body_bytes (take l.note-index l.notes)
