use Rattle.actor_seat.proofs.Names.{ap, arith, core_mode, final_count, IsSome, length, subst, sym, ◌<◌, ◌∙◌}
use Rattle.actor_seat.proofs.LentIn.{LeavesIn, LendsIn, its_in, shuts_does, shuts_linked, shuts_seated}
use Rattle.actor_seat.proofs.seat.Seat.shut.Given.{Over}
use Rattle.actor_seat.proofs.seat.Seat.shut.Goals as goal
use Rattle.actor_seat.proofs.seat.Seat.shut.Goals.{After-in_mut, After-shut}

-- the end of the sender, as it is lent
lends : (g : Over) (c : After-in_mut g) → LendsIn g.J.Task.meaning c.args.self.now c.args.sender c.self.inside.recorded c.self.inside.ends c.in_mut.result.now
lends g c = record { beside = c.self.invariant.beside; view_is = c.self.view_is; known = c.requires.known; is = c.in_mut.ensures.value }

-- what the call on it left
leaves : (g : Over) (c : After-shut g) → LeavesIn g.J.Task.meaning c.args.sender c.self.inside.recorded c.shut.new.self c.in_mut.result.now c.shut.new.end
leaves g c = record {
  its_own = c.shut.ensures.beside;
  others = c.shut.ensures.others;
  outs = c.shut.ensures.outs;
  lanes = c.shut.ensures.lanes;
  seat = c.shut.ensures.seat;
  link = c.shut.ensures.untouched;
  sound = c.shut.ensures.sound;
}

pub in_mut-requires : goal.in_mut-requires
in_mut-requires g c = omega (arith, c.self.invariant.beside.ins_are, c.requires.known, ap (λ view. view.recorded.core.cores) c.self.view_is)

pub shut-requires : goal.shut-requires
shut-requires g c = record {
  beside = its_in (lends g (goal.at.shut-requires g c).After-in_mut);
  closed = subst (λ view. IsSome (core_mode view.recorded.journal.notes)) (sym c.self.view_is) c.requires.closed;
  untold = ap (λ view. final_count c.args.sender view.recorded.journal.notes) c.self.view_is ∙ c.requires.untold;
  room = subst (λ view. length view.recorded.journal.notes < view.recorded.journal.room) (sym c.self.view_is) c.requires.room;
}

pub invariant_of-self : goal.invariant_of-self
invariant_of-self g c = let here = goal.at.invariant_of-self g c in shuts_seated (lends g here.After-in_mut) c.shut.result c.shut.ensures.shuts c.shut.ensures.tells (leaves g here.After-shut)

pub returns-clause-seated : goal.returns-clause-seated
returns-clause-seated g c = let here = goal.at.returns-clause-seated g c in shuts_seated (lends g here.After-in_mut) c.shut.result c.shut.ensures.shuts c.shut.ensures.tells (leaves g here.After-shut)

pub returns-clause-does : goal.returns-clause-does
returns-clause-does g c = let here = goal.at.returns-clause-does g c in shuts_does (lends g here.After-in_mut) c.shut.result c.shut.ensures.shuts c.shut.ensures.tells (leaves g here.After-shut)

pub returns-clause-linked : goal.returns-clause-linked
returns-clause-linked g c = let here = goal.at.returns-clause-linked g c in shuts_linked (lends g here.After-in_mut) c.shut.result c.shut.ensures.shuts c.shut.ensures.tells (leaves g here.After-shut)
