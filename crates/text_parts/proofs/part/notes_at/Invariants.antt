use Rattle.std.proofs.Common.{◌≡◌, ◌-◌}
use Rattle.text_parts.specs.Parts.{notes_at}
use Rattle.text_parts.proofs.ByteLaws.{with_front}
use Rattle.text_parts.proofs.part.notes_at.Given as goal

-- the notes so far and those that are read of the rest are those of all bytes
abbrev pub invariant-loop : goal.invariant-loop
invariant-loop l = with_front l.notes.items (notes_at (l.count - l.counter) l.rest) ≡ notes_at l.count l.bytes
