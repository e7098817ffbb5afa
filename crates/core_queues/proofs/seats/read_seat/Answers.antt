use Rattle.core_queues.proofs.Words.{ap, ParkedAt, ◌∙◌}
use Rattle.core_queues.proofs.SeatWrites.{seat_read}
use Rattle.core_queues.proofs.seats.read_seat.Goals as goal

pub returns-then-seat : goal.returns-then-seat
returns-then-seat g c =
    let read = seat_read c.args.seats.now.items c.args.key c.index-seat.result.now c.requires c.index-seat.ensures in
    (ap (λ (s : ParkedAt). s.parked) read ∙ c.if-seat.true, ap (λ (s : ParkedAt). s.queue) read, ap (λ (s : ParkedAt). s.before) read)

pub returns : goal.returns
returns g c =
    let read = seat_read c.args.seats.now.items c.args.key c.index-seat.result.now c.requires c.index-seat.ensures in
    ap (λ (s : ParkedAt). s.parked) read ∙ c.if-seat.false
