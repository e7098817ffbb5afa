use Rattle.std.proofs.Common.{arith}
use Rattle.std.proofs.lemmas.Result.{on_ok_weaker}
use Rattle.fairview_report.proofs.walks.WalksNoteTaker.take.Goals as goal

pub returns : goal.returns
returns g c =
    on_ok_weaker c.read.result
    (
    λ reads handed short walked.
    record {
      same_cores = walked.same_cores;
      same_burst = walked.same_burst;
      before = walked.before;
      known = reads c.args.self.now.burst handed.notes (omega (arith, short)) walked.known;
    }
    )
    c.read.ensures.read
