-- Each job rests where it rested.
use Rattle.note_sinks.specs.Naps.{RestsAlike}
use Rattle.note_sinks.proofs.naps.Naps.forget_all.Given as goal

abbrev pub invariant-loop-note : goal.invariant-loop-note
invariant-loop-note l = RestsAlike l.endings l.initial.self l.self
