use Rattle.core_core.proofs.Outcomes.{one_effect_of_core, delivers_core_closed}
use Rattle.core_core.proofs.one_core.Core.deliver_close_core.Goals as goal

pub count-requires : goal.count-requires
count-requires g c = c.requires

pub with_effect-requires : goal.with_effect-requires
with_effect-requires g c =
    let done = c.close-done in
    (assumption, one_effect_of_core c.count.new.self c.args.mode done.result.0 done.new.self done.result.1.items done.ensures.closes)

pub returns-clause-delivers : goal.returns-clause-delivers
returns-clause-delivers g c =
    let done = c.close-done in
    let answer = c.closing_answer-answer in
    delivers_core_closed c.args.self.now c.count.new.self done.new.self c.args.name c.args.mode done.result.0 answer.result c.told-told.result c.answered_note-note.result done.result.1.items c.with_effect.result.items
    c.count.ensures.counts done.ensures.closes answer.ensures.closed answer.ensures.before c.told-told.ensures c.answered_note-note.ensures c.with_effect.ensures

pub returns-clause-bounded : goal.returns-clause-bounded
returns-clause-bounded g c = c.close-done.ensures.bounded

pub close-done-requires : goal.close-done-requires
close-done-requires g c = assumption
