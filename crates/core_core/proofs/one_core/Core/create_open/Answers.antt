use Rattle.core_core.proofs.Names.{arith, CreatesQueue, subst}
use Rattle.core_core.proofs.Outcomes.{same_cores, delivers_created}
use Rattle.core_core.proofs.one_core.Core.create_open.Goals as goal

pub count-requires : goal.count-requires
count-requires g c =
    let same = same_cores c.args.self.now c.args.shares c.create-made.result.0 c.create-made.new.self c.create-made.result.1.items c.create-made.ensures.creates in
    omega (arith, c.requires.sender, same)

pub returns-in-Ok-clause-delivers : goal.returns-in-Ok-clause-delivers
returns-in-Ok-clause-delivers g c =
    let made = subst (λ made. CreatesQueue c.args.self.now c.args.shares made c.create-made.new.self c.create-made.result.1.items) c.in-Ok.is c.create-made.ensures.creates in
    let both = delivers_created c.args.self.now c.args.shares c.create-made.new.self c.count.new.self c.args.name made.1 made.2 c.count.ensures.counts in
    (made.0, both.0, both.1, c.two_notes-notes.ensures)

pub returns-in-Ok-clause-bounded : goal.returns-in-Ok-clause-bounded
returns-in-Ok-clause-bounded g c = c.count.ensures.bounded

pub returns-in-Err-TooMany-clause-bounded : goal.returns-in-Err-TooMany-clause-bounded
returns-in-Err-TooMany-clause-bounded g c = c.count.ensures.bounded

pub returns-in-Err-Memory-clause-bounded : goal.returns-in-Err-Memory-clause-bounded
returns-in-Err-Memory-clause-bounded g c = c.count.ensures.bounded

pub create-made-requires : goal.create-made-requires
create-made-requires g c = (assumption, c.requires.is_open)

pub two_notes-notes-requires : goal.two_notes-notes-requires
two_notes-notes-requires g c = assumption

pub one_note-requires : goal.one_note-requires
one_note-requires g c = assumption

pub one_note-requires-in-Err-Memory : goal.one_note-requires-in-Err-Memory
one_note-requires-in-Err-Memory g c = assumption
