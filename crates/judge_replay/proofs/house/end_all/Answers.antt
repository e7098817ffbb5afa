use Rattle.std.proofs.Common.{true, ◌∙◌, subst, arith}
use Rattle.std.specs.Vec.Iter.{into_iter_items, into_iter_len}
use Rattle.run_team.proofs.Lists.{IsMade, made_all, made_first}
use Rattle.judge_replay.specs.Houses.{IsEndOf}
use Rattle.judge_replay.proofs.Ended.{ended_more}
use Rattle.judge_replay.proofs.house.end_all.Goals as goal

pub loop-core-init : goal.loop-core-init
loop-core-init c =
    let gives = c.into_iter-core-iterator.ensures.into_iter_gives in
    record {
      reserved = omega (arith, c.in_ok-all.ensures.capacity, c.len.ensures, c.args.cores.ok.0);
      made = made_first (IsEndOf true) c.args.cores.items (into_iter_items c.into_iter-core-iterator.result)
          (into_iter_len c.into_iter-core-iterator.result) c.in_ok-all.all.items gives.0 (gives.1 ∙ c.args.cores.ok.0) c.in_ok-all.ensures.items;
    }

pub loop-core-preserved : goal.loop-core-preserved
loop-core-preserved c =
    let loop = c.loop-core in let steps = c.in-Some.ensures.steps in let end = c.end-is_whole in
    record {
      reserved = omega (arith, loop.invariant.reserved, c.push_reserved.ensures.capacity);
      made = rw c.push_reserved.ensures.items
          (ended_more loop.whole end.result.0 c.args.cores.items (into_iter_items loop.core-iterator) (into_iter_items c.next.new.self)
          (into_iter_len loop.core-iterator) (into_iter_len c.next.new.self) loop.all.items c.in-Some.core end.result.1 loop.invariant.made steps.0 steps.1
          (record { read = end.ensures.whole; rest = end.ensures.rest; ends_are = end.ensures.ends; hosted = end.ensures.hosted }));
    }

pub returns : goal.returns
returns c =
    let rest = into_iter_items c.loop-core.core-iterator in
    made_all (IsEndOf c.loop-core.whole) c.args.cores.items rest c.loop-core.all.items
    (subst (λ left. IsMade (IsEndOf c.loop-core.whole) c.args.cores.items rest left c.loop-core.all.items) c.in-None.ensures.steps.0 c.loop-core.invariant.made)
