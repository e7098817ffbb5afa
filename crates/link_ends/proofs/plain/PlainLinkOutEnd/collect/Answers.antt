use Rattle.std.proofs.Common.{◌≡◌, ◌+◌, ◌∙◌, sym, subst, Some, None}
use Rattle.std.specs.Prelude.{slice_get}
use Rattle.std.proofs.lemmas.Option.{slice_get_within}
use Rattle.link_ends.specs.Calls.{Collects}
use Rattle.link_ends.specs.Plain.{whole_of}
use Rattle.link_ends.specs.Whole.{out_of}
use Rattle.link_ends.proofs.Fields.{IsPlain-collect, next_outcome}
use Rattle.link_ends.proofs.Seen.{Collects-next, Collects-none}
use Rattle.link_ends.proofs.plain.PlainLinkOutEnd.collect.Goals as goal

pub invariant_of-self : goal.invariant_of-self
invariant_of-self g c =
    let next = sym (next_outcome c.self.invariant) ∙ (sym c.pop_front.ensures.value ∙ c.in-Some.is) in
    IsPlain-collect c.self.invariant _ c.pop_front.ensures.items (slice_get_within _ _ c.in-Some.found next)

pub returns-in-Some-clause-collects : goal.returns-in-Some-clause-collects
returns-in-Some-clause-collects g c =
    let i = c.self.inside in
    let next = sym (next_outcome c.self.invariant) ∙ (sym c.pop_front.ensures.value ∙ c.in-Some.is) in
    subst (λ w. Collects (out_of w) (out_of (record (whole_of i) { got = i.got + 1 })) (Some c.in-Some.found))
    c.self.view_is (Collects-next (whole_of i) c.in-Some.found next)

pub returns-in-Some-clause-next : goal.returns-in-Some-clause-next
returns-in-Some-clause-next g c =
    let next = sym (next_outcome c.self.invariant) ∙ (sym c.pop_front.ensures.value ∙ c.in-Some.is) in
    subst (λ w. Some c.in-Some.found ≡ slice_get w.given w.got) c.self.view_is (sym next)

pub returns-in-None-clause-collects : goal.returns-in-None-clause-collects
returns-in-None-clause-collects g c =
    let i = c.self.inside in
    let none = sym (next_outcome c.self.invariant) ∙ (sym c.pop_front.ensures.value ∙ c.in-None.is) in
    subst (λ w. Collects (out_of w) (out_of (whole_of i)) None) c.self.view_is (Collects-none (whole_of i) none c.self.invariant.link.got_given)

pub returns-in-None-clause-next : goal.returns-in-None-clause-next
returns-in-None-clause-next g c =
    let none = sym (next_outcome c.self.invariant) ∙ (sym c.pop_front.ensures.value ∙ c.in-None.is) in
    subst (λ w. None ≡ slice_get w.given w.got) c.self.view_is (sym none)
