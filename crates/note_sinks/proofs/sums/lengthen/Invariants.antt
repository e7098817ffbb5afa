-- The notes so far stand behind all others.
use Rattle.std.proofs.Common.{◌≡◌, ◌++◌, take}
use Rattle.note_sinks.proofs.sums.lengthen.Given as goal

abbrev pub invariant-loop-note : goal.invariant-loop-note
invariant-loop-note l = l.has.items ≡ l.initial.has.items ++ take l.note-index l.notes
