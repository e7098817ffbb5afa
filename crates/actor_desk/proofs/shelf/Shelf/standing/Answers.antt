use Rattle.std.proofs.Common.{Some, sym, ap, ◌∙◌}
use Rattle.actor_desk.proofs.Marks.{shows}
use Rattle.actor_desk.proofs.Kept.{shows-collected}
use Rattle.actor_desk.proofs.shelf.Shelf.standing.Goals as goal

pub returns-in-None : goal.returns-in-None
returns-in-None g c = rw (← c.self.view_is) (shows c.self.inside.kept c.self.inside.held.entries c.args.number c.in-None.ensures)

pub returns-in-Some-Waits : goal.returns-in-Some-Waits
returns-in-Some-Waits g c = rw (← c.self.view_is) (shows c.self.inside.kept c.self.inside.held.entries c.args.number (sym (ap Some c.in-Some-Waits.field-0-is) ∙ c.in-Some-Waits.ensures))

pub returns-in-Some-LetGo : goal.returns-in-Some-LetGo
returns-in-Some-LetGo g c = rw (← c.self.view_is) (shows c.self.inside.kept c.self.inside.held.entries c.args.number (sym (ap Some c.in-Some-LetGo.field-0-is) ∙ c.in-Some-LetGo.ensures))

pub returns-in-Some-Holds : goal.returns-in-Some-Holds
returns-in-Some-Holds g c = rw (← c.self.view_is) (shows-collected _ _ c.self.invariant.0 c.args.number c.in-Some-Holds.field-0-0 (sym c.in-Some-Holds.ensures ∙ ap Some c.in-Some-Holds.field-0-is))
