use Rattle.std.proofs.Common.{◌≡◌, sym, subst, false, true}
use Rattle.link_ends.specs.Calls.{MayGive}
use Rattle.link_ends.specs.Fits.{Fits}
use Rattle.link_ends.specs.Whole.{inward_of}
use Rattle.link_ends.proofs.Fields.{IsPlain-give, room_to_give}
use Rattle.link_ends.proofs.plain.PlainLinkInEnd.give.Goals as goal

pub unreachable-requires : goal.unreachable-requires
unreachable-requires g c =
    let may = subst (λ w. MayGive (Fits g.J.Task.meaning) (inward_of w) c.args.number c.args.outcome) (sym c.self.view_is) c.requires in
    let full : false ≡ true = c.in_default.ensures.variant.1 (room_to_give c.self.invariant c.args.number c.args.outcome may) in cc

pub invariant_of-self : goal.invariant_of-self
invariant_of-self g c =
    let may = subst (λ w. MayGive (Fits g.J.Task.meaning) (inward_of w) c.args.number c.args.outcome) (sym c.self.view_is) c.requires in
    IsPlain-give c.self.invariant c.args.number c.args.outcome may _ c.try_push_back.new.self c.with-self-inside.ensures c.in-Ok.ensures.ok

pub returns-clause-law : goal.returns-clause-law
returns-clause-law g c = (invariant_of-self g c).link
