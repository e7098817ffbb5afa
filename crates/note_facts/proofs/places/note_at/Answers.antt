use Rattle.std.proofs.Common.{sym, ◌∙◌}
use Rattle.note_facts.proofs.Walks.{at_next, note_there}
use Rattle.note_facts.proofs.places.note_at.Goals as goal

pub returns : goal.returns
returns c = at_next c.args.journal.now.notes c.args.place c.in-Some.note (sym c.in-Some.ensures)

pub unreachable-requires : goal.unreachable-requires
unreachable-requires c = note_there c.args.journal.now.notes c.args.place c.requires (sym c.get.ensures ∙ c.in_default.is)
