use Rattle.std.specs.Prelude.{◌++◌, Bool, codes, decimal}
use Rattle.std.proofs.Common.{subst}
use Rattle.std.specs.Fmt.{HasWritten}
use Rattle.fairview_pictures.specs.Events.{micros, truth}
use Rattle.fairview_pictures.proofs.events.PollTailDisplay.fmt.Goals as goal

pub returns-clause-writes : goal.returns-clause-writes
returns-clause-writes g c =
    λ plain ok.
    subst (λ (done : Bool).
    HasWritten {W = g.row.W.Denot} g.W.Write.write_str_gives c.args.f.now
    (codes ",\"dur\":" ++ (micros c.args.self.now.0.time ++ (codes ",\"args\":{\"turn\":" ++ (decimal c.args.self.now.0.turn ++ (codes ",\"done\":" ++ (truth done ++ codes "}}"))))))
    c.write.new.self) c.is_done.ensures (c.write.ensures.writes plain ok)
