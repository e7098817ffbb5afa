use Rattle.actor_seat.proofs.Names.{ap, arith, Fits, IsSeatedOutside, outstanding_count, subst, sym, ◌<◌, ◌∙◌}
use Rattle.actor_seat.proofs.OutsideSeats.{read_beside}
use Rattle.actor_seat.proofs.outside_seat.OutsideSeat.outstanding.Goals as goal

pub outstanding-requires : goal.outstanding-requires
outstanding-requires g c =
    let seen = c.self-inside.view_is in
    let seated = subst (λ inside. IsSeatedOutside (Fits g.J.Task.meaning) (record { desk = inside.desk; ends = inside.ends })) (sym seen) c.self.invariant in
    let known : c.args.core < c.self-inside.inside.0.0.cores = omega (arith, c.requires.there, ap (λ view. view.desk.cores) c.self.view_is, ap (λ inside. inside.desk.cores) seen) in
    read_beside g.J.Task.meaning _ _ seated c.args.core c.core.inside.0 known c.core.view_is c.index.result.now c.index.ensures

pub returns : goal.returns
returns g c =
    c.outstanding.ensures
    ∙ (ap (λ inside. outstanding_count c.args.core inside.desk.journal.notes) c.self-inside.view_is
    ∙ ap (λ view. outstanding_count c.args.core view.desk.journal.notes) c.self.view_is)
