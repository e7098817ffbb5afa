use Rattle.std.proofs.Common.{ℕ, arith, subst}
use Rattle.std.specs.Prelude.{IfSome}
use Rattle.std.specs.Vec.Iter.{into_iter_items, into_iter_len}
use Rattle.judge_parts.specs.Fronts.{IsFrontOf}
use Rattle.judge_parts.proofs.Fronts.{AreReadOf, read_all, read_more}
use Rattle.judge_parts.proofs.front.front_of_parts.Goals as goal

pub loop-source-preserved : goal.loop-source-preserved
loop-source-preserved g c =
    let loop = c.loop-source in let steps = c.in-Some.ensures.steps in
    record {
      reserved = omega (arith, loop.invariant.reserved, c.push_reserved.ensures.capacity);
      made = rw c.push_reserved.ensures.items
          (read_more g.S.Source.remaining c.args.sources.items (into_iter_items loop.source-iterator) (into_iter_items c.next.new.self)
          (into_iter_len loop.source-iterator) (into_iter_len c.next.new.self) loop.journals.items c.in-Some.source c.in-Some-front_of.journal loop.invariant.made steps.0 steps.1
          (subst (λ (actor : ℕ). IfSome (g.S.Source.remaining c.in-Some.source) (λ bytes. IsFrontOf actor bytes c.in-Some-front_of.journal.notes))
          (omega (arith, c.len-place.ensures, loop.journals.ok.0)) c.in-Some-front_of.ensures));
    }

pub returns : goal.returns
returns g c =
    let loop = c.loop-source in
    read_all g.S.Source.remaining c.args.sources.items (into_iter_items loop.source-iterator) loop.journals.items
    (subst (λ (left : ℕ). AreReadOf g.S.Source.remaining c.args.sources.items (into_iter_items loop.source-iterator) left loop.journals.items) c.in-None.ensures.steps.0 loop.invariant.made)
    c.args.house c.requires c.of_burst.result c.of_burst.ensures
