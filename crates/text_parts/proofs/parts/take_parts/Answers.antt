use Rattle.std.proofs.Common.{[], ◌∷◌, ◌++◌, arith, subst, sym, ap}
use Rattle.text_journal.specs.Drafts.{Drafted}
use Rattle.text_journal.specs.Handed.{IsBegun}
use Rattle.text_parts.specs.Houses.{MakeDraft}
use Rattle.text_parts.proofs.HouseLemmas.{makes_more, part_begun}
use Rattle.text_parts.proofs.parts.take_parts.Goals as goal

pub loop-rest-preserved : goal.loop-rest-preserved
loop-rest-preserved g c =
    let old = c.loop-rest.draft in
    let step = c.in-Ok.ensures.ok in
    let part = step.0 in
    let so_far = c.loop-rest.invariant.made in
    let last = c.loop-rest.invariant.last in
    let shorter = c.in-Ok.ensures.shorter in
    let more = makes_more so_far.0 c.args.draft.now old c.args.bytes.now c.loop-rest.rest.now c.in-Ok.behind.now part so_far.1 step.1 step.2 in
    record {
      begun = subst IsBegun (sym (ap (λ (d : Drafted). d.part) step.3)) (part_begun old part c.loop-rest.invariant.begun);
      last = omega (arith, last, shorter);
      made = (so_far.0 ++ part ∷ [], subst (λ (d : Drafted). MakeDraft (so_far.0 ++ part ∷ []) c.args.draft.now c.args.bytes.now d c.in-Ok.behind.now) (sym step.3) more);
    }
