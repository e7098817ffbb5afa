use Rattle.core_queues.proofs.Words.{ap, arith, has_slip, is_some, length, map, None, queues_alone, SlippedView, sym, ◌<◌, ◌∙◌}
use Rattle.core_queues.proofs.Views.{exists-view}
use Rattle.core_queues.proofs.OwnSlips.{HasOwnSlips-set, has_slip-at, own-at, linked_view-set, out-set}
use Rattle.core_queues.proofs.queues.Queues.take_slip.Goals as goal

pub index_mut-requires : goal.index_mut-requires
index_mut-requires g c =
    omega (arith, exists-view c.self.inside.room c.self.inside.jobs c.self.inside.lines.items (ap queues_alone c.self.view_is) c.requires.exists, c.queue.view_is, c.self.invariant.1.counted)

pub invariant_of-self : goal.invariant_of-self
invariant_of-self g c =
    let within = exists-view c.self.inside.room c.self.inside.jobs c.self.inside.lines.items (ap queues_alone c.self.view_is) c.requires.exists in
    (c.self.invariant.0, rw c.take.ensures.after (HasOwnSlips-set _ _ c.queue.inside.0 _ c.self.inside.slips.at.items (omega (arith, within, c.queue.view_is)) tt c.self.invariant.1), c.self.invariant.2, c.self.invariant.3)

pub returns-clause-there : goal.returns-clause-there
returns-clause-there g c =
    let within = exists-view c.self.inside.room c.self.inside.jobs c.self.inside.lines.items (ap queues_alone c.self.view_is) c.requires.exists in
    let there : c.queue.inside.0 < length c.self.inside.slips.at.items = omega (arith, within, c.queue.view_is, c.self.invariant.1.counted) in
    rw (← c.self.view_is) (ap is_some c.take.ensures.value ∙ sym (has_slip-at c.self.inside.slips.at.items c.queue.inside.0 c.args.queue c.index_mut.result.now there c.index_mut.ensures.value c.queue.view_is))

pub returns-clause-own : goal.returns-clause-own
returns-clause-own g c =
    let within = exists-view c.self.inside.room c.self.inside.jobs c.self.inside.lines.items (ap queues_alone c.self.view_is) c.requires.exists in
    let there : c.queue.inside.0 < length c.self.inside.slips.at.items = omega (arith, within, c.queue.view_is, c.self.invariant.1.counted) in
    rw c.take.ensures.value (own-at _ _ c.self.inside.slips.at.items c.queue.inside.0 c.args.queue c.index_mut.result.now c.self.invariant.1 there c.index_mut.ensures.value c.queue.view_is)

pub returns-clause-given : goal.returns-clause-given
returns-clause-given g c =
    rw (← c.self.view_is, c.take.ensures.after)
    (linked_view-set c.self.inside.room c.self.inside.jobs c.self.inside.lines.items c.self.inside.slips.at.items c.queue.inside.0 c.args.queue None c.queue.view_is)

pub returns-clause-out : goal.returns-clause-out
returns-clause-out g c =
    let seen = linked_view-set c.self.inside.room c.self.inside.jobs c.self.inside.lines.items c.self.inside.slips.at.items c.queue.inside.0 c.args.queue None c.queue.view_is in
    rw c.take.ensures.after (ap (λ (view : SlippedView g.row.J.Denot). has_slip c.args.queue view) seen ∙ out-set (map is_some c.self.inside.slips.at.items) c.args.queue)
