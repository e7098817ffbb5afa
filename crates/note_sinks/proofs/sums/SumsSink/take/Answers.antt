use Rattle.std.proofs.Common.{◌≡◌, ◌∙◌, ℕ, Contains, List, ap, length, map, subst, sym}
use Rattle.std.proofs.lemmas.List.{length-reverse, map-append}
use Rattle.std.proofs.lemmas.List.Elements.{Contains-push}
use Rattle.note_sinks.proofs.SumLemmas.{refused, taken}
use Rattle.note_sinks.specs.Sums.{SumsView}
use Rattle.note_sinks.proofs.sums.SumsSink.take.Goals as goal

pub invariant_of-self : goal.invariant_of-self
invariant_of-self c = refused c.self.inside.burst c.self.inside.count _ _ _ _ c.self.invariant c.deref_mut.ensures.value c.reserve.ensures.known

pub invariant_of-self-2 : goal.invariant_of-self-2
invariant_of-self-2 c =
    taken c.self.inside.burst c.self.inside.count _ _ _ _ _ _ _ _ c.args.notes.now c.self.inside.has.items _ c.self.invariant c.deref_mut.ensures.value c.reserve.ensures.known
    c.deref_mut-2.ensures.value c.add_all.ensures c.deref_mut-3.ensures.value c.forget.ensures c.saturating_add-self-inside-2.ensures c.lengthen.ensures

pub returns-then-is_err-clause-told : goal.returns-then-is_err-clause-told
returns-then-is_err-clause-told c =
    let counts = map (λ had. length had.items) in
    let taken = c.self.inside.has.items in
    let refused : counts c.with-self-inside.result.items ≡ _ = ap counts c.with-self-inside.ensures ∙ map-append (λ had. length had.items) c.self.inside.refused_at.items _ in
    let told = subst (λ (items : List ℕ). Contains items (length taken)) (sym refused) (Contains-push (counts c.self.inside.refused_at.items) (length taken)) in
    subst (λ count. Contains (counts c.with-self-inside.result.items) count) (sym (length-reverse taken) ∙ ap (λ (sums : SumsView). length sums.has) c.self.view_is) told
