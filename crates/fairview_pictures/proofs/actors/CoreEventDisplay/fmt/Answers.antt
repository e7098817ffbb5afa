use Rattle.std.proofs.Common.{subst}
use Rattle.std.specs.Fmt.{HasWritten}
use Rattle.fairview_pictures.specs.Traces.{core_event}
use Rattle.fairview_pictures.specs.declared.actors.CoreEvent.{CoreEvent}
use Rattle.fairview_pictures.proofs.actors.CoreEventDisplay.fmt.Goals as goal

pub returns-clause-writes : goal.returns-clause-writes
returns-clause-writes g c =
    λ plain ok.
    subst (λ (event : CoreEvent). HasWritten {W = g.row.W.Denot} g.W.Write.write_str_gives c.args.f.now (core_event event.0) c.write.new.self) c.self.view_is
    (c.write.ensures.writes plain ok)
