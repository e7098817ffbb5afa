use Rattle.run_worker.proofs.Names.{IsLinked, ShutsFirst, TellsNotes, ◌+◌, ◌≡◌}
use Rattle.run_worker.proofs.gates.shut_gates.Given as goal

abbrev pub invariant-loop-sender : goal.invariant-loop-sender
invariant-loop-sender g l = record {
  first : ShutsFirst l.spared l.sender l.fn.seat l.seat;
  tells : TellsNotes l.some l.fn.seat.recorded.journal.notes l.seat.recorded.journal.notes;
  linked : IsLinked g.J.Task.meaning l.seat;
  end : l.sender-end ≡ l.fn.seat.recorded.core.cores + 1;
}
