use Rattle.std.proofs.Common.{◌+◌, ◌∙◌, sym, subst, Some, None}
use Rattle.std.proofs.lemmas.Option.{slice_get_within}
use Rattle.link_ends.specs.Calls.{Takes}
use Rattle.link_ends.specs.Plain.{whole_of}
use Rattle.link_ends.specs.Whole.{inward_of}
use Rattle.link_ends.proofs.Fields.{IsPlain-take, next_order}
use Rattle.link_ends.proofs.Seen.{Takes-next, Takes-none}
use Rattle.link_ends.proofs.plain.PlainLinkInEnd.take.Goals as goal

pub invariant_of-self : goal.invariant_of-self
invariant_of-self g c =
    let next = sym (next_order c.self.invariant) ∙ (sym c.pop_front.ensures.value ∙ c.in-Some.is) in
    IsPlain-take c.self.invariant _ c.pop_front.ensures.items (slice_get_within _ _ c.in-Some.order next)

pub returns-in-Some-clause-takes : goal.returns-in-Some-clause-takes
returns-in-Some-clause-takes g c =
    let i = c.self.inside in
    let next = sym (next_order c.self.invariant) ∙ (sym c.pop_front.ensures.value ∙ c.in-Some.is) in
    subst (λ w. Takes (inward_of w) (inward_of (record (whole_of i) { taken = i.taken + 1 }))
    (Some record { name = record { from = i.from; to = i.to; number = i.base + (i.taken + 1) }; order = c.in-Some.order }))
    c.self.view_is (Takes-next (whole_of i) c.in-Some.order next)

pub returns-in-Some-clause-ready : goal.returns-in-Some-clause-ready
returns-in-Some-clause-ready g c =
    let next = sym (next_order c.self.invariant) ∙ (sym c.pop_front.ensures.value ∙ c.in-Some.is) in
    c.self.invariant.link.ready_orders _ c.in-Some.order next

pub returns-in-None-clause-takes : goal.returns-in-None-clause-takes
returns-in-None-clause-takes g c =
    let i = c.self.inside in
    let none = sym (next_order c.self.invariant) ∙ (sym c.pop_front.ensures.value ∙ c.in-None.is) in
    subst (λ w. Takes (inward_of w) (inward_of (whole_of i)) None) c.self.view_is (Takes-none (whole_of i) none c.self.invariant.link.taken_sent)
