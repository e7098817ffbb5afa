use Rattle.run_worker.proofs.Names.{ap, opened_linked, sym, ◌∙◌}
use Rattle.run_worker.proofs.Opened.{opened_between, opened_acts}
use Rattle.run_worker.proofs.opening.serve_core.Goals as goal

pub of-requires-clause-linked : goal.of-requires-clause-linked
of-requires-clause-linked g c =
    opened_linked _ _ _ _ _ _ c.in_ok-recorded.recorded c.args.ends c.in_ok-recorded.ensures.since c.requires.ends (ap (λ ends. ends.number) (sym c.ends.view_is) ∙ sym c.number.view_is)

pub of-requires-clause-between : goal.of-requires-clause-between
of-requires-clause-between g c = opened_between _ _ _ _ _ _ c.in_ok-recorded.recorded c.in_ok-recorded.ensures.since

pub of-requires-clause-acts : goal.of-requires-clause-acts
of-requires-clause-acts g c = opened_acts _ _ _ _ _ _ c.in_ok-recorded.recorded c.in_ok-recorded.ensures.since
