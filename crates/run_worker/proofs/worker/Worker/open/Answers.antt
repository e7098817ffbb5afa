use Rattle.run_worker.proofs.Names.{ap, false≢true, length, Publishing, shown_of, sym, ◌∙◌}
use Rattle.run_worker.proofs.Opened.{opened_places}
use Rattle.run_worker.proofs.Published.{opened_shown}
use Rattle.run_worker.proofs.Rung.{opened_rung}
use Rattle.run_worker.proofs.worker.Worker.open.Goals as goal

pub of-worker-requires-clause-rung : goal.of-worker-requires-clause-rung
of-worker-requires-clause-rung g c =
    opened_rung c.in_ok-served.served c.args.ends.number c.args.config.now.cores c.args.config.now.queues.items c.in_ok-all.all (length c.args.bells.now.rings) c.in_ok-served.ensures.queues (ap (λ terms. terms.cores) c.in_ok-served.ensures.over.of.terms)
    c.requires.bells c.in_ok-all.ensures.rings

pub of-worker-requires-clause-shown : goal.of-worker-requires-clause-shown
of-worker-requires-clause-shown g c =
    opened_shown c.args.config.now.cores c.args.config.now.cap c.args.config.now.burst c.args.config.now.room c.args.ends c.in_ok-served.served.linked (shown_of c.in_ok-publisher.publisher) c.in_ok-served.ensures.over
    (ap (λ (publisher : Publishing). publisher.terms) c.in_ok-publisher.ensures.publisher) (ap (λ (publisher : Publishing). publisher.notes) c.in_ok-publisher.ensures.publisher)

pub of-worker-requires-clause-passes : goal.of-worker-requires-clause-passes
of-worker-requires-clause-passes g c = record {
  passed = c.requires.none ∙ sym c.in_ok-served.ensures.over.of.none_passed;
  places = opened_places c.args.config.now.cores c.args.config.now.cap c.args.config.now.burst c.args.config.now.room _ c.args.ends c.in_ok-served.served.linked c.in_ok-served.ensures.over c.requires.room;
  refuses = λ ending. absurd (false≢true (sym c.in_ok-served.ensures.ending ∙ ending));
}
