use Rattle.std.proofs.Common.{◌+◌, ◌-◌, ◌<◌, ◌∷◌, [], length, length-append, ap, sym, ◌∙◌, arith}
use Rattle.text_journal.specs.Drafts.{Drafted, raised}
use Rattle.text_journal.proofs.DraftLemmas.{raised_more}
use Rattle.text_journal.proofs.draft.Draft.raise_to.Goals as goal

pub loop-i-preserved : goal.loop-i-preserved
loop-i-preserved g c =
    let step = c.in_ok-next_actor.ensures.ok in
    let less : c.loop-i._i < c.args.actor = omega arith in
    let place = c.loop-i.invariant.place in
    let longer = ap (λ (d : Drafted). length d.earlier) step in
    record {
      same = ap (λ (d : Drafted). raised (c.args.actor - (c.loop-i._i + 1)) d) step ∙ sym (raised_more c.args.actor c.loop-i._i c.loop-i.self less) ∙ c.loop-i.invariant.same;
      place = omega (arith, longer, length-append c.loop-i.self.earlier (c.loop-i.self.notes ∷ []));
      cores = ap (λ (d : Drafted). d.cores) step ∙ c.loop-i.invariant.cores;
      part = ap (λ (d : Drafted). d.part) step ∙ c.loop-i.invariant.part;
    }
