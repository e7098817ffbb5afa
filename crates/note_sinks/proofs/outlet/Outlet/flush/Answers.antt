use Rattle.std.proofs.Common.{sym, subst}
use Rattle.text_bytes.specs.Tries.{IsNoFewer}
use Rattle.text_bytes.proofs.TryLemmas.{failed_last}
use Rattle.note_sinks.specs.Outlets.{OutletView}
use Rattle.note_sinks.proofs.outlet.Outlet.flush.Goals as goal

pub returns-clause-failed : goal.returns-clause-failed
returns-clause-failed g c =
    failed_last g.W.ByteSink.tries g.W.ByteSink.interrupts g.W.ByteSink.fails c.args.self.now.writer c.self.inside.writer c.flush.new.sink c.flush.result
    (subst (λ (view : OutletView g.row.W.Denot). IsNoFewer (g.W.ByteSink.tries c.args.self.now.writer) (g.W.ByteSink.tries view.writer)) (sym c.self.view_is) c.write_out.ensures.tried)
    c.flush.ensures.failed
