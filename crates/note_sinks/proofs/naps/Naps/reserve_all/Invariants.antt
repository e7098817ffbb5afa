-- The jobs of the notes so far have their places.
use Rattle.std.proofs.Common.{take}
use Rattle.std.specs.Prelude.{All}
use Rattle.note_sinks.specs.Naps.{HasPlace, KeepsNaps}
use Rattle.note_sinks.proofs.naps.Naps.reserve_all.Given as goal

abbrev pub invariant-loop-note : goal.invariant-loop-note
invariant-loop-note l = KeepsNaps l.initial.self l.self × All (HasPlace l.self) (take l.note-index l.notes)
