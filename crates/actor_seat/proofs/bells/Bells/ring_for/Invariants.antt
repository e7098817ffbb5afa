use Rattle.actor_seat.proofs.Names.{drop, rung_for, ◌≡◌}
use Rattle.actor_seat.proofs.bells.Bells.ring_for.Given as goal

abbrev pub invariant-loop-note : goal.invariant-loop-note
invariant-loop-note l = record {
  names : l.self.names ≡ l.fn.self.names;
  rings : rung_for (drop l.note-index l.notes) l.self.rings ≡ rung_for l.notes l.fn.self.rings;
}
