use Rattle.std.proofs.Common.{◌≡◌, [], ◌∙◌, subst, arith}
use Rattle.std.specs.Vec.Iter.{into_iter_items, into_iter_len}
use Rattle.run_team.proofs.Lists.{IsMade, made_all, made_first, made_more}
use Rattle.actor_seat.specs.Opening.{AreEndsOf, IsOpenedOver}
use Rattle.host_house.proofs.Opened.{holds_next}
use Rattle.host_house.proofs.house.open_cores.Goals as goal

pub loop-ends-init : goal.loop-ends-init
loop-ends-init c =
    let gives = c.into_iter-ends-iterator.ensures.into_iter_gives in
    record {
      reserved = omega (arith, c.in_ok-opened.ensures.capacity, c.len.ensures, c.args.all.ok.0);
      made = made_first (IsOpenedOver c.args.cores c.args.cap c.args.burst c.args.room) c.args.all.items (into_iter_items c.into_iter-ends-iterator.result)
          (into_iter_len c.into_iter-ends-iterator.result) c.in_ok-opened.opened.items gives.0 (gives.1 ∙ c.args.all.ok.0) c.in_ok-opened.ensures.items;
    }

pub open-requires : goal.open-requires
open-requires c =
    holds_next (AreEndsOf c.args.cores c.args.cap) c.args.all.items c.loop-ends.invariant.made.done (into_iter_items c.loop-ends.ends-iterator)
    (into_iter_items c.next.new.self) c.in-Some.ends c.requires.each c.loop-ends.invariant.made.split c.in-Some.ensures.steps.0

pub loop-ends-preserved : goal.loop-ends-preserved
loop-ends-preserved c =
    let loop = c.loop-ends in let steps = c.in-Some.ensures.steps in
    record {
      reserved = omega (arith, loop.invariant.reserved, c.push_reserved.ensures.capacity);
      made = rw c.push_reserved.ensures.items
          (made_more (IsOpenedOver c.args.cores c.args.cap c.args.burst c.args.room) c.args.all.items (into_iter_items loop.ends-iterator) (into_iter_items c.next.new.self)
          (into_iter_len loop.ends-iterator) (into_iter_len c.next.new.self) loop.opened.items c.in-Some.ends c.in_ok-open.field-0 loop.invariant.made steps.0 steps.1 c.in_ok-open.ensures);
    }

pub returns : goal.returns
returns c =
    let rest = into_iter_items c.loop-ends.ends-iterator in
    made_all (IsOpenedOver c.args.cores c.args.cap c.args.burst c.args.room) c.args.all.items rest c.loop-ends.opened.items
    (subst (λ left. IsMade (IsOpenedOver c.args.cores c.args.cap c.args.burst c.args.room) c.args.all.items rest left c.loop-ends.opened.items) c.in-None.ensures.steps.0 c.loop-ends.invariant.made)
