use Rattle.run_worker.proofs.Names.{ap, arith, created_count, Entry, get_or_default, sym, ◌+◌, ◌∙◌, ◌∷◌}
use Rattle.base_words.specs.declared.note.Note.TheVariants.{Created}
use Rattle.run_worker.proofs.Creating.{creating_first, creating_left, creating_more, creating_on, creating_done, creating_noted}
use Rattle.run_worker.proofs.opening.create_all.Goals.{then-of-core+in_ok-create_one, else-of-core}
use Rattle.run_worker.proofs.opening.create_all.Goals as goal

pub loop-index-init : goal.loop-index-init
loop-index-init g c = creating_first c.args.core c.args.queues.now c.args.recorded.now c.requires.opening c.requires.sound

pub create_one-requires-clause-room : goal.create_one-requires-clause-room
create_one-requires-clause-room g c =
    let was = c.loop-index.invariant in
    let left =
    creating_left c.args.core c.args.queues.now c.loop-index.index (c.loop-index.index + 1) (omega arith) c.loop-index-test.true c.index-queues-index.result _ _ was
    (sym c.of.view_is ∙ c.if-of-core.true) in
    omega (arith, left, was.created.few, was.created.seat.room, c.requires.room)

pub loop-index-preserved : goal.loop-index-preserved
loop-index-preserved g c =
    elim c.if-of-core.branch [
      | then-of-core+in_ok-create_one w ↦ rw w.recorded-is
          (creating_more c.args.core c.args.queues.now c.loop-index.index (c.loop-index.index + 1) (omega arith) c.loop-index-test.true c.index-queues-index.result _ c.loop-index.recorded c.loop-index.invariant
          (sym c.of.view_is ∙ w.if-of-core.true) w.create_one.new.recorded w.in_ok-create_one.ensures.since
          (w.in_ok-create_one.ensures.noted
          ∙ ap (λ (entry : Entry). Created (created_count c.loop-index.recorded.journal.notes + 1) entry.1 ∷ c.loop-index.recorded.journal.notes)
          (get_or_default c.args.queues.now c.loop-index.index c.index-queues-index-in-loop-index.result c.index-queues-index.result c.loop-index-test.true)))
      | else-of-core w ↦ rw w.recorded-is
          (creating_on c.args.core c.args.queues.now c.loop-index.index (c.loop-index.index + 1) (omega arith) c.loop-index-test.true c.index-queues-index.result _ c.loop-index.recorded c.loop-index.invariant
          (λ one. w.if-of-core.false (c.of.view_is ∙ one)))
    ]

pub returns-clause-since : goal.returns-clause-since
returns-clause-since g c = creating_done c.args.core c.args.queues.now c.loop-index.index _ c.loop-index.recorded c.loop-index-test.false c.loop-index.invariant

pub returns-clause-noted : goal.returns-clause-noted
returns-clause-noted g c = creating_noted c.args.core c.args.queues.now c.loop-index.index _ c.loop-index.recorded c.loop-index-test.false c.loop-index.invariant
