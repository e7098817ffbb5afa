use Rattle.std.proofs.Common.{rules, subst, sym}
use Rattle.atomic_table.specs.Table.{Allows}
use Rattle.actor_caller.specs.Halls.{Guarded}
use Rattle.actor_caller.proofs.Halls.{releases}
use Rattle.actor_caller.proofs.hall.Hall.give.Goals as goal

pub store-requires : goal.store-requires
store-requires g c = let fits = g.T.Keyed.fits c.args.self.now.table.shared.key in let seat = c.exchange-none.new.seat in
    (search rules, search rules, subst (λ n. Allows (Guarded fits) n seat.id seat.me 0 (λ _. 0) (λ _ _. Unit {0})) (sym c.args.self.now.sized.1) (releases fits _ _ _ _ _ c.exchange-none.ensures.3 c.requires.fits))
