use Rattle.std.specs.Prelude.{ℕ, List, ◌++◌, codes, decimal}
use Rattle.std.proofs.Common.{subst}
use Rattle.std.specs.Fmt.{HasWritten}
use Rattle.fairview_report.specs.PollTexts.{turn_text, job_text}
use Rattle.fairview_report.proofs.poll_line.PollLineDisplay.fmt.Goals as goal

pub returns-clause-writes : goal.returns-clause-writes
returns-clause-writes g c =
    λ plain ok.
    subst (λ (word : List ℕ).
    HasWritten {W = g.row.W.Denot} g.W.Write.write_str_gives c.args.f.now
    (turn_text c.args.self.now.0 c.args.self.now.1
    ++ (codes "," ++ (job_text c.args.self.now.1 ++ (codes "," ++ (decimal c.args.self.now.1.picked.virtual_runtime ++ (codes "," ++ word))))))
    c.write.new.self) c.word-end.ensures (c.write.ensures.writes plain ok)
