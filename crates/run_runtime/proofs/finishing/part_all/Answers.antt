use Rattle.std.proofs.Common.{◌≡◌, ◌∙◌, refl, subst, sym}
use Rattle.std.specs.Vec.Iter.{into_iter_items, into_iter_len}
use Rattle.run_team.proofs.Lists.{IsMade, made_all, made_first, made_more, together_length}
use Rattle.run_runtime.specs.Finishing.{IsPart}
use Rattle.run_runtime.proofs.AllPassed.{ends_of_each}
use Rattle.run_runtime.proofs.finishing.part_all.Goals as goal

pub loop-one-init : goal.loop-one-init
loop-one-init g c =
    let gives = c.into_iter-one-iterator.ensures.into_iter_gives in
    let items = into_iter_items c.into_iter-one-iterator.result in
    let left = into_iter_len c.into_iter-one-iterator.result in
    let count = gives.1 ∙ c.args.all.ok.0 in
    record {
      room_ends = refl;
      room_actors = refl;
      room_locals = refl;
      locals = made_first (λ worker local. Unit {0}) c.args.all.items items left c.args.locals.items gives.0 count c.requires.no_locals;
      ends = made_first (λ worker ends. ends ≡ worker.linked.ends) c.args.all.items items left c.args.ends.items gives.0 count c.requires.no_ends;
      actors = made_first (IsPart g.J.Task.meaning g.S.Sink.has g.S.Sink.refused) c.args.all.items items left c.args.actors.items gives.0 count c.requires.no_actors;
    }

pub loop-one-preserved : goal.loop-one-preserved
loop-one-preserved g c =
    let loop = c.loop-one in let steps = c.in-Some.ensures.steps in
    let was = into_iter_items loop.one-iterator in
    let rest = into_iter_items c.next.new.self in
    let left = into_iter_len loop.one-iterator in
    let fewer = into_iter_len c.next.new.self in
    record {
      room_ends = c.push_reserved.ensures.capacity ∙ loop.invariant.room_ends;
      room_actors = c.push_reserved-in-loop-one.ensures.capacity ∙ loop.invariant.room_actors;
      room_locals = c.push_reserved-in-loop-one-2.ensures.capacity ∙ loop.invariant.room_locals;
      locals = rw c.push_reserved-in-loop-one-2.ensures.items
          (made_more (λ worker local. Unit {0}) c.args.all.items was rest left fewer loop.all_locals.items c.in-Some.one c.part-its_ends.result.2 loop.invariant.locals steps.0 steps.1 tt);
      ends = rw c.push_reserved.ensures.items
          (made_more (λ worker ends. ends ≡ worker.linked.ends) c.args.all.items was rest left fewer loop.all_ends.items c.in-Some.one c.part-its_ends.result.0 loop.invariant.ends steps.0 steps.1 c.part-its_ends.ensures.ends);
      actors = rw c.push_reserved-in-loop-one.ensures.items
          (made_more (IsPart g.J.Task.meaning g.S.Sink.has g.S.Sink.refused) c.args.all.items was rest left fewer loop.all_actors.items c.in-Some.one c.part-its_ends.result.1 loop.invariant.actors steps.0 steps.1 c.part-its_ends.ensures.part);
    }

pub returns-clause-parts : goal.returns-clause-parts
returns-clause-parts g c =
    let rest = into_iter_items c.loop-one.one-iterator in
    let none = c.in-None.ensures.steps.0 in
    record {
      ends_are = ends_of_each c.args.all.items c.loop-one.all_ends.items
          (made_all (λ worker ends. ends ≡ worker.linked.ends) c.args.all.items rest c.loop-one.all_ends.items
          (subst (λ left. IsMade (λ worker ends. ends ≡ worker.linked.ends) c.args.all.items rest left c.loop-one.all_ends.items) none c.loop-one.invariant.ends));
      each = made_all (IsPart g.J.Task.meaning g.S.Sink.has g.S.Sink.refused) c.args.all.items rest c.loop-one.all_actors.items
          (subst (λ left. IsMade (IsPart g.J.Task.meaning g.S.Sink.has g.S.Sink.refused) c.args.all.items rest left c.loop-one.all_actors.items) none c.loop-one.invariant.actors);
    }

pub returns-clause-locals : goal.returns-clause-locals
returns-clause-locals g c =
    let rest = into_iter_items c.loop-one.one-iterator in
    sym (together_length (λ worker local. Unit {0}) c.args.all.items c.loop-one.all_locals.items
    (made_all (λ worker local. Unit {0}) c.args.all.items rest c.loop-one.all_locals.items
    (subst (λ left. IsMade (λ worker local. Unit {0}) c.args.all.items rest left c.loop-one.all_locals.items) c.in-None.ensures.steps.0 c.loop-one.invariant.locals)))
