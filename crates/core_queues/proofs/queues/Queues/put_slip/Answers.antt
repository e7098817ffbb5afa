use Rattle.core_queues.proofs.Words.{ap, arith, queues_alone, Some, sym, ◌∙◌}
use Rattle.core_queues.proofs.Views.{exists-view}
use Rattle.core_queues.proofs.OwnSlips.{HasOwnSlips-set, linked_view-set}
use Rattle.core_queues.proofs.queues.Queues.put_slip.Goals as goal

pub index_mut-requires : goal.index_mut-requires
index_mut-requires g c =
    omega (arith, exists-view c.self.inside.room c.self.inside.jobs c.self.inside.lines.items (ap queues_alone c.self.view_is) c.requires.exists, c.place.view_is, c.queue.ensures, c.self.invariant.1.counted)

pub invariant_of-self : goal.invariant_of-self
invariant_of-self g c =
    let within = exists-view c.self.inside.room c.self.inside.jobs c.self.inside.lines.items (ap queues_alone c.self.view_is) c.requires.exists in
    rw c.replace.ensures.after (c.self.invariant.0, HasOwnSlips-set _ _ c.place.inside.0 _ c.self.inside.slips.at.items (omega (arith, within, c.place.view_is, c.queue.ensures)) (sym c.queue.ensures ∙ sym c.place.view_is) c.self.invariant.1, c.self.invariant.2, c.self.invariant.3)

pub returns : goal.returns
returns g c =
    rw (← c.self.view_is, c.replace.ensures.after)
    (linked_view-set c.self.inside.room c.self.inside.jobs c.self.inside.lines.items c.self.inside.slips.at.items c.place.inside.0 c.args.slip (Some c.args.slip) (c.place.view_is ∙ c.queue.ensures))
