use Rattle.link_board.proofs.Names.{ap, arith, Fits, HasReadyJob, rules}
use Rattle.link_board.proofs.Joining.{joins, compares, Compares-ends}
use Rattle.link_board.proofs.Parting.{sends-joined, takes-joined, sends-last, takes-last, IsSender-parted, IsReceiver-parted, out-parted, inward-parted}
use Rattle.link_board.proofs.Starting.{parts}
use Rattle.link_board.proofs.opening.compare.Goals as goal

pub join_seat-requires : goal.join_seat-requires
join_seat-requires g c = let one = c.requires.sender in let two = c.requires.receiver in (
  search rules,
  search rules,
  search rules,
  search rules,
  two.rests.hand,
  two.rests.spare,
  c.args.board.now.placed.0,
  joins (Fits g.J.Task.meaning) (HasReadyJob g.J.Task.meaning) _ _ c.args.board.now.keyed.0 _ _ _ _ one.sends one.rests.away two.takes two.rests.away,
)

pub load-word-requires : goal.load-word-requires
load-word-requires g c = (
  search rules,
  search rules,
  c.args.board.now.placed.0,
  omega arith,
  compares (Fits g.J.Task.meaning) (HasReadyJob g.J.Task.meaning) _ _ c.args.board.now.keyed.0 _ _
      (sends-joined c.args.seat.now.me c.args.other.me c.join_seat.new.seat.me c.join_seat.ensures.3 c.requires.sender.sends)
      (takes-joined c.args.seat.now.me c.args.other.me c.join_seat.new.seat.me c.join_seat.ensures.3 c.requires.receiver.takes),
)

pub split_seat-requires : goal.split_seat-requires
split_seat-requires g c = (
  search rules,
  search rules,
  c.args.board.now.placed.0,
  parts (Fits g.J.Task.meaning) (HasReadyJob g.J.Task.meaning) _ _ _ _ c.args.board.now.keyed.0
      (sends-last c.args.seat.now.me c.args.other.me c.join_seat.new.seat.me c.join_seat.ensures.3 c.load-word.new.seat.me c.load-word.ensures.3.same c.requires.sender.sends)
      (takes-last c.args.seat.now.me c.args.other.me c.join_seat.new.seat.me c.join_seat.ensures.3 c.load-word.new.seat.me c.load-word.ensures.3.same c.requires.receiver.takes),
)

pub returns-clause-sender : goal.returns-clause-sender
returns-clause-sender g c =
    IsSender-parted c.args.seat.now.me c.args.other.me c.join_seat.new.seat.me c.join_seat.ensures.3 c.load-word.new.seat.me c.load-word.ensures.3.same c.split_seat.new.seat.me c.split_seat.ensures.old.3 c.requires.sender

pub returns-clause-receiver : goal.returns-clause-receiver
returns-clause-receiver g c =
    IsReceiver-parted c.args.seat.now.me c.args.other.me c.join_seat.new.seat.me c.join_seat.ensures.3 c.load-word.new.seat.me c.load-word.ensures.3.same c.split_seat.result.me c.split_seat.ensures.new.2 c.requires.sender c.requires.receiver

pub returns-clause-out : goal.returns-clause-out
returns-clause-out g c =
    out-parted c.args.seat.now.me c.args.other.me c.join_seat.new.seat.me c.join_seat.ensures.3 c.load-word.new.seat.me c.load-word.ensures.3.same c.split_seat.new.seat.me c.split_seat.ensures.old.3

pub returns-clause-inward : goal.returns-clause-inward
returns-clause-inward g c =
    inward-parted c.args.seat.now.me c.args.other.me c.join_seat.new.seat.me c.join_seat.ensures.3 c.load-word.new.seat.me c.load-word.ensures.3.same c.split_seat.result.me c.split_seat.ensures.new.2

pub returns-clause-joined : goal.returns-clause-joined
returns-clause-joined g c =
    (Compares-ends (Fits g.J.Task.meaning) c.args.seat.now.me c.args.other.me c.join_seat.new.seat.me c.load-word.new.seat.me (ap (λ m. m.view) c.join_seat.ensures.3) c.load-word.ensures.3).0

pub returns-clause-outcomes : goal.returns-clause-outcomes
returns-clause-outcomes g c =
    (Compares-ends (Fits g.J.Task.meaning) c.args.seat.now.me c.args.other.me c.join_seat.new.seat.me c.load-word.new.seat.me (ap (λ m. m.view) c.join_seat.ensures.3) c.load-word.ensures.3).1
