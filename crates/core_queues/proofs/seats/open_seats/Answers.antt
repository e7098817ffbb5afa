use Rattle.core_queues.proofs.Words.{no_seat, resized, ◌∙◌}
use Rattle.core_queues.proofs.seats.open_seats.Goals as goal

pub returns : goal.returns
returns g c = c.sealed.ensures.items ∙ resized c.args.places _ _ _ no_seat c.in_ok-seats.ensures.items c.in_ok-seats.ensures.len c.in_ok-resize.ensures.items
