use Rattle.actor_core.proofs.Names.{sym, subst, ◌∙◌, ap, outstanding_count, desk_of, IsOutOf}
use Rattle.actor_core.proofs.recorded.Recorded.outstanding.Goals as goal

pub outstanding-requires : goal.outstanding-requires
outstanding-requires g c = subst (λ desk. IsOutOf c.args.core desk (g.O.OutEnd.out c.args.end.now) (g.O.OutEnd.credited c.args.end.now)) (sym (c.self.invariant.1 ∙ ap desk_of c.self.view_is)) c.requires

pub returns : goal.returns
returns g c = c.outstanding.ensures ∙ ap (λ view. outstanding_count c.args.core view.journal.notes) c.self.view_is
