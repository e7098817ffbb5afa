-- The notes so far are read.
use Rattle.std.proofs.Common.{take}
use Rattle.note_sinks.specs.Ledgers.{ReadsNotes}
use Rattle.note_sinks.specs.Naps.{KeepsPlaces}
use Rattle.note_sinks.proofs.ledger.Ledger.add_all.Given as goal

abbrev pub invariant-loop-note : goal.invariant-loop-note
invariant-loop-note l = record {
  places : KeepsPlaces l.initial.self.naps l.self.naps;
  reads : ReadsNotes l.initial.self (take l.note-index l.notes) l.self;
}
