use Rattle.core_core.proofs.Outcomes.{one_effect, delivers_closed}
use Rattle.core_core.proofs.one_core.Core.deliver_close.Goals as goal

pub with_effect-requires : goal.with_effect-requires
with_effect-requires g c =
    let done = c.close_queue-done in
    (assumption, one_effect c.count.new.self c.args.queue c.args.mode done.result.0 done.new.self done.result.1.items done.ensures.closes)

pub returns-clause-delivers : goal.returns-clause-delivers
returns-clause-delivers g c =
    let done = c.close_queue-done in
    delivers_closed c.args.self.now c.count.new.self done.new.self c.args.name c.args.queue c.args.mode done.result.0 c.told-told.result c.answered_note-note.result done.result.1.items c.with_effect.result.items
    c.count.ensures.counts done.ensures.closes c.told-told.ensures c.answered_note-note.ensures c.with_effect.ensures

pub count-requires : goal.count-requires
count-requires g c = c.requires

pub returns-clause-bounded : goal.returns-clause-bounded
returns-clause-bounded g c = c.close_queue-done.ensures.bounded

pub close_queue-done-requires : goal.close_queue-done-requires
close_queue-done-requires g c = assumption
