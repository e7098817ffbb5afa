use Rattle.std.proofs.Common.{subst}
use Rattle.std.specs.Prelude.{OnErr}
use Rattle.text_bytes.specs.Tries.{HasFailedSince}
use Rattle.note_sinks.specs.Lines.{LinesView}
use Rattle.note_sinks.proofs.TextLemmas.{holds_written}
use Rattle.note_sinks.proofs.lines.Lines.make_room.Goals as goal

pub invariant_of-self : goal.invariant_of-self
invariant_of-self g c = holds_written g.W.ByteSink.contents c.self.inside.actor c.self.inside.refusals c.self.inside.refusals c.self.inside.shortages c.self.inside.shortages _ _ _ _ _ _ c.self.inside.has.items c.self.invariant c.write_out.ensures.writes

pub returns-clause-failed : goal.returns-clause-failed
returns-clause-failed g c =
    subst (λ (view : LinesView g.row.W.Denot). OnErr c.write_out.result (HasFailedSince g.W.ByteSink.tries g.W.ByteSink.interrupts g.W.ByteSink.fails view.writer c.write_out.new.self.writer)) c.self.view_is
    c.write_out.ensures.failed
