use Rattle.actor_seat.proofs.Names.{ap, arith, length, subst, sym, ◌+◌, ◌≤◌}
use Rattle.actor_seat.proofs.LentIn.{LeavesIn, LendsIn, delivers_does, delivers_linked, delivers_seated, from_in}
use Rattle.actor_seat.proofs.seat.Seat.deliver.Given.{Over}
use Rattle.actor_seat.proofs.seat.Seat.deliver.Goals as goal
use Rattle.actor_seat.proofs.seat.Seat.deliver.Goals.{After-deliver, After-in_mut}

-- the end of the sender, as it is lent
lends : (g : Over) (c : After-in_mut g) → LendsIn g.J.Task.meaning c.args.self.now c.args.sender c.self.inside.recorded c.self.inside.ends c.in_mut.result.now
lends g c = record { beside = c.self.invariant.beside; view_is = c.self.view_is; known = c.requires.known; is = c.in_mut.ensures.value }

-- what the call on it left
leaves : (g : Over) (c : After-deliver g) → LeavesIn g.J.Task.meaning c.in_mut.result.now.inward.from c.self.inside.recorded c.deliver.new.self c.in_mut.result.now c.deliver.new.end
leaves g c = record {
  its_own = c.deliver.ensures.beside;
  others = c.deliver.ensures.others;
  outs = c.deliver.ensures.outs;
  lanes = c.deliver.ensures.lanes;
  seat = c.deliver.ensures.seat;
  link = c.deliver.ensures.untouched;
  sound = c.deliver.ensures.sound;
}

pub in_mut-requires : goal.in_mut-requires
in_mut-requires g c = omega (arith, c.self.invariant.beside.ins_are, c.requires.known, ap (λ view. view.recorded.core.cores) c.self.view_is)

pub deliver-requires : goal.deliver-requires
deliver-requires g c = record { beside = from_in (lends g (goal.at.deliver-requires g c).After-in_mut); room = subst (λ view. length view.recorded.journal.notes + 2 ≤ view.recorded.journal.room) (sym c.self.view_is) c.requires.room }

pub invariant_of-self : goal.invariant_of-self
invariant_of-self g c = let here = goal.at.invariant_of-self g c in delivers_seated (lends g here.After-in_mut) c.deliver.result c.deliver.ensures.delivers (leaves g here.After-deliver)

pub returns-clause-seated : goal.returns-clause-seated
returns-clause-seated g c = let here = goal.at.returns-clause-seated g c in delivers_seated (lends g here.After-in_mut) c.deliver.result c.deliver.ensures.delivers (leaves g here.After-deliver)

pub returns-clause-does : goal.returns-clause-does
returns-clause-does g c = let here = goal.at.returns-clause-does g c in delivers_does (lends g here.After-in_mut) c.deliver.result c.deliver.ensures.delivers (leaves g here.After-deliver)

pub returns-clause-linked : goal.returns-clause-linked
returns-clause-linked g c = let here = goal.at.returns-clause-linked g c in delivers_linked (lends g here.After-in_mut) c.deliver.result c.deliver.ensures.delivers (leaves g here.After-deliver)
