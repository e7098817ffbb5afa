use Rattle.std.proofs.Common.{subst}
use Rattle.text_bytes.specs.Tries.{HasFailedSince}
use Rattle.text_journal.proofs.PageLemmas.{OnErr-any}
use Rattle.note_sinks.specs.Outlets.{OutletView}
use Rattle.note_sinks.proofs.outlet.Outlet.write_out.Goals as goal

pub returns-in_err-write_rest-clause-failed : goal.returns-in_err-write_rest-clause-failed
returns-in_err-write_rest-clause-failed g c =
    OnErr-any c.from_residual.result
    (subst (λ (view : OutletView g.row.W.Denot). HasFailedSince g.W.ByteSink.tries g.W.ByteSink.interrupts g.W.ByteSink.fails view.writer c.write_rest.new.writer) c.self.view_is c.in_err-write_rest.ensures.failed)
