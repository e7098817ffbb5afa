use Rattle.run_worker.proofs.Names.{ap, arith, is_some, LeavesReturning, stays_along}
use Rattle.run_worker.proofs.Alone.{alone_grows, alone_now}
use Rattle.run_worker.proofs.Gated.{ending_now, ending_acts, ending_notes_none, returned_leaves}
use Rattle.run_worker.proofs.gates.end.Given.{Over}
use Rattle.run_worker.proofs.gates.end.Goals as goal
use Rattle.run_worker.proofs.gates.end.Goals.{After-close-alone}

-- it is in mode `Return`
leaves : (g : Over) (c : After-close-alone g) → LeavesReturning c.args.seat.now c.close-alone.new.self
leaves g c = returned_leaves c.args.seat.now c.close-alone.new.self c.close-alone.result c.close-alone.ensures.closes c.close-alone.ensures.stays

pub shut_gates-requires-clause-closed : goal.shut_gates-requires-clause-closed
shut_gates-requires-clause-closed g c = ap is_some (returned_leaves c.args.seat.now c.close-alone.new.self c.close-alone.result c.close-alone.ensures.closes c.close-alone.ensures.stays).returning

pub returns-clause-ending : goal.returns-clause-ending
returns-clause-ending g c =
    ending_now c.args.seat.now c.close-alone.new.self c.shut_gates.new.seat c.requires.linked c.requires.spare (leaves g (goal.at.returns-clause-ending g c).After-close-alone) (omega (arith, c.requires.cores, c.close-alone.ensures.stays.seat.cores)) c.shut_gates.ensures.shuts

pub returns-clause-acts : goal.returns-clause-acts
returns-clause-acts g c =
    ending_acts c.args.seat.now c.close-alone.new.self c.shut_gates.new.seat c.requires.linked c.requires.spare (leaves g (goal.at.returns-clause-acts g c).After-close-alone) (omega (arith, c.requires.cores, c.close-alone.ensures.stays.seat.cores)) c.shut_gates.ensures.shuts c.requires.short
    c.requires.acts

pub returns-clause-polls : goal.returns-clause-polls
returns-clause-polls g c = ending_notes_none c.args.seat.now c.close-alone.new.self c.shut_gates.new.seat _ _ (leaves g (goal.at.returns-clause-polls g c).After-close-alone) c.shut_gates.ensures.shuts

pub returns-clause-stays : goal.returns-clause-stays
returns-clause-stays g c = stays_along _ _ _ c.close-alone.ensures.stays c.shut_gates.ensures.shuts.stays

pub returns-clause-alone : goal.returns-clause-alone
returns-clause-alone g c =
    alone_grows c.close-alone.result c.close-alone.new.self.recorded.journal.notes c.shut_gates.new.seat.recorded.journal.notes c.shut_gates.ensures.shuts.stays.grows
    (alone_now c.args.seat.now.recorded c.close-alone.new.self.recorded c.close-alone.result c.requires.linked.recorded.kept.no_answer c.close-alone.ensures.closes)
