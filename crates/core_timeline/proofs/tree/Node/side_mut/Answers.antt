use Rattle.std.proofs.Common.{Bool, refl, sym, ap}
use Rattle.core_timeline.specs.Sides.{side_of, with_side}
use Rattle.core_timeline.proofs.tree.Node.side_mut.Goals as goal

pub returns-then-right : goal.returns-then-right
returns-then-right g c =
    ((refl, λ w. ap (λ (right : Bool). with_side right c.args.self.now w) (sym c.if-right.true)), record { value = ap (λ (right : Bool). side_of right c.args.self.now) (sym c.if-right.true); lends = tt })

pub returns-else-right : goal.returns-else-right
returns-else-right g c =
    ((refl, λ w. ap (λ (right : Bool). with_side right c.args.self.now w) (sym c.if-right.false)), record { value = ap (λ (right : Bool). side_of right c.args.self.now) (sym c.if-right.false); lends = tt })
