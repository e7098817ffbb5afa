use Rattle.core_core.proofs.Names.{sym, ◌∙◌}
use Rattle.core_core.proofs.Outcomes.{none_if_not, not_none}
use Rattle.core_core.proofs.one_core.Core.deliver_create.Goals as goal

pub returns-then-is_closed-clause-delivers : goal.returns-then-is_closed-clause-delivers
returns-then-is_closed-clause-delivers g c =
    (not_none c.args.self.now.mode (sym c.is_closed.ensures ∙ c.if-is_closed.true), c.count.ensures.counts, c.one_note.ensures)

pub create_open-requires : goal.create_open-requires
create_open-requires g c =
    (assumption, (c.requires, none_if_not c.args.self.now.mode (sym c.is_closed.ensures ∙ c.if-is_closed.false)))

pub count-requires : goal.count-requires
count-requires g c = c.requires

pub returns-then-is_closed-clause-bounded : goal.returns-then-is_closed-clause-bounded
returns-then-is_closed-clause-bounded g c = c.count.ensures.bounded

pub returns-clause-delivers : goal.returns-clause-delivers
returns-clause-delivers g c = c.create_open.ensures.delivers

pub returns-clause-bounded : goal.returns-clause-bounded
returns-clause-bounded g c = c.create_open.ensures.bounded

pub one_note-requires : goal.one_note-requires
one_note-requires g c = assumption
