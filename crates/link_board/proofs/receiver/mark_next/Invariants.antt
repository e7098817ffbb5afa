use Rattle.link_board.proofs.Names.{false, length, Watches, ◌+◌, ◌-◌, ◌≡◌}
use Rattle.link_board.proofs.receiver.mark_next.Given as goal

abbrev pub invariant-looks : goal.invariant-looks
invariant-looks g l = (l.seat.rows ≡ l.initial.seat.rows) × (l.seat.heap ≡ l.initial.seat.heap) × Watches l.initial.seat.me l.seat.me × (l.seat.me.view.inward.shut ≡ false) × (l.seen ≡ length l.seat.me.view.inward.seen)

abbrev pub decreases-looks : goal.decreases-looks
decreases-looks g l = l.given + l.capacity - l.seen
