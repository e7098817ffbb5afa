use Rattle.link_board.proofs.Names.{ap, Fits, HasReadyJob, rules}
use Rattle.link_board.proofs.Starting.{starts, parts}
use Rattle.link_board.proofs.opening.lay.Goals as goal

pub open-lines-requires-clause-rule : goal.open-lines-requires-clause-rule
open-lines-requires-clause-rule g c =
    starts (Fits g.J.Task.meaning) (HasReadyJob g.J.Task.meaning) _ _ _ _ _ c.in_ok-gate.ensures.place.1 c.in-Ok.ensures.place.1 c.in_ok-gate.ensures.cells c.in-Ok.ensures.cells c.cells_for-len.ensures.enough c.cells_for-len.ensures.some c.requires

pub split_seat-other-requires : goal.split_seat-other-requires
split_seat-other-requires g c = let seat = c.open-lines.ensures.seat.3 in (
  search rules,
  search rules,
  c.in_ok-gate.ensures.place.2,
  parts (Fits g.J.Task.meaning) (HasReadyJob g.J.Task.meaning) c.open-lines.result.0.key _ _ _ (ap (λ k. k.gate.ptr) c.open-lines.ensures.rows.0) (ap (λ m. m.view.sends) seat) (ap (λ m. m.view.takes) seat),
)
