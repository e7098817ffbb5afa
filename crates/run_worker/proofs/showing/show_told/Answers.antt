use Rattle.run_worker.proofs.Names.{closed_by_itself, false≢true, inr, refl, shown_of, subst, sym, ◌∙◌, ◌≡◌}
use Rattle.std.proofs.Common.{true}
use Rattle.run_watch.specs.Tells as board
use Rattle.run_worker.proofs.Published.{many_notes, queues_shown}
use Rattle.run_worker.proofs.showing.show_told.Goals as goal

pub returns-then-not-are_exact : goal.returns-then-not-are_exact
returns-then-not-are_exact g c =
    inr (
      inr (many_notes c.args.recorded.now.core.bursts.burst c.args.recorded.now.journal.notes c.args.queues.now c.requires.few
          (λ exact. false≢true (sym c.if-not-are_exact.true ∙ c.are_exact.ensures.1 exact))),
      refl,
    )

pub publish_own_closing-requires-clause-queues : goal.publish_own_closing-requires-clause-queues
publish_own_closing-requires-clause-queues g c =
    let told = queues_shown c.args.recorded.now (shown_of c.args.publisher.now) c.requires.shown c.args.queues.now (c.requires.exact (c.are_exact.ensures.0 c.if-not-are_exact.false)) in
    subst (λ journal. board.TellsQueues c.args.publisher.now.terms.burst journal.notes c.args.queues.now) (sym c.journal-journal.ensures) told

pub publish_own_closing-requires-clause-closed : goal.publish_own_closing-requires-clause-closed
publish_own_closing-requires-clause-closed g c = subst (λ journal. closed_by_itself journal.notes ≡ true) (sym c.journal-journal.ensures) (c.requires.alone c.if-alone.true)

pub publish-requires-clause-queues : goal.publish-requires-clause-queues
publish-requires-clause-queues g c =
    let told = queues_shown c.args.recorded.now (shown_of c.args.publisher.now) c.requires.shown c.args.queues.now (c.requires.exact (c.are_exact.ensures.0 c.if-not-are_exact.false)) in
    subst (λ journal. board.TellsQueues c.args.publisher.now.terms.burst journal.notes c.args.queues.now) (sym c.journal-journal.ensures) told
