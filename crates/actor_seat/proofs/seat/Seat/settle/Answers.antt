use Rattle.actor_seat.proofs.Names.{ap, arith, IsOut, IsOutUnder, length, outcome_settled, Settles, subst, sym, ◌<◌, ◌≡◌}
use Rattle.actor_seat.proofs.LentIn.{LeavesIn, LendsIn, its_in, settled_seated, settled_stays}
use Rattle.actor_seat.proofs.Seen.{gives_seen}
use Rattle.actor_seat.proofs.seat.Seat.settle.Given.{Over}
use Rattle.actor_seat.proofs.seat.Seat.settle.Goals as goal
use Rattle.actor_seat.proofs.seat.Seat.settle.Goals.{After-in_mut, After-settle}

-- the end of the sender, as it is lent
lends : (g : Over) (c : After-in_mut g) → LendsIn g.J.Task.meaning c.args.self.now c.args.name.from c.self.inside.recorded c.self.inside.ends c.in_mut.result.now
lends g c = record { beside = c.self.invariant.beside; view_is = c.self.view_is; known = c.requires.known; is = c.in_mut.ensures.value }

-- what the call on it left
leaves : (g : Over) (c : After-settle g) → LeavesIn g.J.Task.meaning c.args.name.from c.self.inside.recorded c.settle.new.self c.in_mut.result.now c.settle.new.end
leaves g c = record {
  its_own = c.settle.ensures.beside;
  others = c.settle.ensures.others;
  outs = c.settle.ensures.outs;
  lanes = c.settle.ensures.lanes;
  seat = c.settle.ensures.seat;
  link = c.settle.ensures.untouched;
  sound = c.settle.ensures.sound;
}

-- it has seen the same orders
same : (g : Over) (c : After-settle g) → c.settle.new.end.inward.seen ≡ c.in_mut.result.now.inward.seen
same g c = gives_seen c.in_mut.result.now.inward c.args.name.number (outcome_settled c.settle.result) c.settle.new.end.inward c.settle.ensures.gives

pub in_mut-requires : goal.in_mut-requires
in_mut-requires g c = omega (arith, c.self.invariant.beside.ins_are, c.requires.known, ap (λ view. view.recorded.core.cores) c.self.view_is)

pub settle-requires : goal.settle-requires
settle-requires g c = record {
  beside = its_in (lends g (goal.at.settle-requires g c).After-in_mut);
  out = subst (λ view. IsOut view.recorded.core.out c.args.ran.before) (sym c.self.view_is) c.requires.out;
  named = subst (λ view. IsOutUnder view.recorded.core.out c.args.name) (sym c.self.view_is) c.requires.named;
  room = subst (λ view. length view.recorded.journal.notes < view.recorded.journal.room) (sym c.self.view_is) c.requires.room;
  polled = c.requires.polled;
}

pub returns-clause-settles : goal.returns-clause-settles
returns-clause-settles g c = subst (λ view. Settles g.J.Task.meaning view.recorded c.args.ran c.args.spent c.settle.result c.settle.new.self) c.self.view_is c.settle.ensures.settles

pub invariant_of-self : goal.invariant_of-self
invariant_of-self g c = let here = goal.at.invariant_of-self g c in settled_seated (lends g here.After-in_mut) _ _ _ c.settle.ensures.settles (same g here.After-settle) (leaves g here.After-settle)

pub returns-clause-seated : goal.returns-clause-seated
returns-clause-seated g c = let here = goal.at.returns-clause-seated g c in settled_seated (lends g here.After-in_mut) _ _ _ c.settle.ensures.settles (same g here.After-settle) (leaves g here.After-settle)

pub returns-clause-stays : goal.returns-clause-stays
returns-clause-stays g c = let here = goal.at.returns-clause-stays g c in settled_stays (lends g here.After-in_mut) _ _ _ c.settle.ensures.settles (same g here.After-settle) (leaves g here.After-settle)
