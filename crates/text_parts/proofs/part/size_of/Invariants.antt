use Rattle.std.proofs.Common.{◌≡◌, ◌*◌, ◌≤◌, length, take}
use Rattle.text_parts.specs.Parts.{body_bytes}
use Rattle.text_parts.proofs.part.size_of.Given as goal

abbrev pub invariant-loop-note : goal.invariant-loop-note
invariant-loop-note l = record {
  value : l.size ≡ length (body_bytes (take l.note-index l.notes));
  few : l.size ≤ 27 * l.note-index;
}
