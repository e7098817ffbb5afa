use Rattle.std.proofs.Common.{◌≡◌, [], ◌∙◌, subst, arith}
use Rattle.std.specs.Vec.Iter.{into_iter_items, into_iter_len}
use Rattle.run_team.proofs.Lists.{IsMade, made_all, made_first, made_more}
use Rattle.host_core.specs.Hosted.{HostedView}
use Rattle.judge_replay.specs.Houses.{IsFresh}
use Rattle.judge_replay.proofs.Houses.{holds_next}
use Rattle.judge_replay.proofs.house.unread.Goals as goal

pub loop-hosted-init : goal.loop-hosted-init
loop-hosted-init c =
    let gives = c.into_iter-hosted-iterator.ensures.into_iter_gives in
    record {
      reserved = omega (arith, c.in_ok-made.ensures.capacity, c.len.ensures, c.args.cores.ok.0);
      made = made_first IsFresh c.args.cores.items (into_iter_items c.into_iter-hosted-iterator.result)
          (into_iter_len c.into_iter-hosted-iterator.result) c.in_ok-made.made.items gives.0 (gives.1 ∙ c.args.cores.ok.0) c.in_ok-made.ensures.items;
    }

pub of-requires : goal.of-requires
of-requires c =
    holds_next (λ (hosted : HostedView). hosted.recorded.journal.passed ≡ []) c.args.cores.items c.loop-hosted.invariant.made.done (into_iter_items c.loop-hosted.hosted-iterator)
    (into_iter_items c.next.new.self) c.in-Some.hosted c.requires c.loop-hosted.invariant.made.split c.in-Some.ensures.steps.0

pub loop-hosted-preserved : goal.loop-hosted-preserved
loop-hosted-preserved c =
    let loop = c.loop-hosted in let steps = c.in-Some.ensures.steps in
    record {
      reserved = omega (arith, loop.invariant.reserved, c.push_reserved.ensures.capacity);
      made = rw c.push_reserved.ensures.items
          (made_more IsFresh c.args.cores.items (into_iter_items loop.hosted-iterator) (into_iter_items c.next.new.self)
          (into_iter_len loop.hosted-iterator) (into_iter_len c.next.new.self) loop.made.items c.in-Some.hosted c.of.result loop.invariant.made steps.0 steps.1 (record { linked = c.of.ensures.linked; none = c.of.ensures.none }));
    }

pub returns : goal.returns
returns c =
    let rest = into_iter_items c.loop-hosted.hosted-iterator in
    made_all IsFresh c.args.cores.items rest c.loop-hosted.made.items
    (subst (λ left. IsMade IsFresh c.args.cores.items rest left c.loop-hosted.made.items) c.in-None.ensures.steps.0 c.loop-hosted.invariant.made)
