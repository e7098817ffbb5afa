use Rattle.std.proofs.Common.{◌∙◌, refl, sym, subst}
use Rattle.std.proofs.lemmas.Iterator.Adapters.{YieldsList-from_vec}
use Rattle.std.proofs.lemmas.Iterator.Consumers.{YieldsList-so_far, YieldsList-turn, YieldsList-end}
use Rattle.std.proofs.lemmas.List.{map-id}
use Rattle.fairexec_script.specs.ThreadsLimits.{IsToldOf}
use Rattle.fairexec_threads.specs.Offers.{OffersAll}
use Rattle.fairexec_threads.proofs.Sending.{nothing_sent, place_of_order, offers_more, grows}
use Rattle.fairexec_threads.proofs.Closings.{can_close}
use Rattle.fairexec_threads.proofs.Walking.{parts}
use Rattle.fairexec_threads.proofs.calls.offer_all.Goals as goal

pub loop-told-init : goal.loop-told-init
loop-told-init c = refl

pub offer-requires : goal.offer-requires
offer-requires c =
    let all = YieldsList-from_vec {s = c.into_iter-told-iterator.result} c.args.orders.items c.into_iter-told-iterator.ensures.into_iter_gives.0 (c.into_iter-told-iterator.ensures.into_iter_gives.1 ∙ c.args.orders.ok.0) in
    let so_far = YieldsList-so_far all c.loop-told.yielded c.loop-told.told-iterator c.loop-told.yielded_by in
    let turn = YieldsList-turn all c.loop-told.yielded c.loop-told.told-iterator c.loop-told.yielded_by _ c.next.new.self c.in-Some.told c.in-Some.is c.next.ensures.steps in
    let whole = parts c.args.orders.items c.loop-told.yielded c.in-Some.told so_far turn.0 turn.1 in
    let started = nothing_sent c.args.house.now c.requires.script c.requires.none in
    let more = grows c.loop-told.yielded c.args.house.now c.loop-told.house c.loop-told.invariant in
    record {
      told = subst (λ cores. IsToldOf cores c.in-Some.told) (sym more.cores) (subst (IsToldOf c.args.house.now.desk.cores) (sym turn.1) (c.requires.told _ c.in-Some.told turn.0));
      place = place_of_order c.args.orders.items c.loop-told.yielded _ c.in-Some.told _ c.args.house.now c.loop-told.house whole c.requires.short c.requires.spare started c.loop-told.invariant;
    }

pub loop-told-preserved : goal.loop-told-preserved
loop-told-preserved c = offers_more c.loop-told.yielded c.in-Some.told c.args.house.now c.loop-told.house c.offer.new.house c.loop-told.invariant c.offer.ensures

pub returns : goal.returns
returns c =
    let all = YieldsList-from_vec {s = c.into_iter-told-iterator.result} c.args.orders.items c.into_iter-told-iterator.ensures.into_iter_gives.0 (c.into_iter-told-iterator.ensures.into_iter_gives.1 ∙ c.args.orders.ok.0) in
    let end = YieldsList-end all c.loop-told.yielded c.loop-told.told-iterator c.loop-told.yielded_by _ c.next.new.self c.in-None.is c.next.ensures.steps in
    let offers = subst (λ orders. OffersAll orders c.args.house.now c.loop-told.house) (sym (map-id c.loop-told.yielded) ∙ end.0) c.loop-told.invariant in
    let started = nothing_sent c.args.house.now c.requires.script c.requires.none in
    record {
      offers = offers;
      ready = can_close c.args.orders.items _ c.args.house.now c.loop-told.house c.requires.short c.requires.spare started offers;
    }
