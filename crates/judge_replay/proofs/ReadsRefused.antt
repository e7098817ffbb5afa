-- Each of the small cases is refused.
use Rattle.std.proofs.Common.{length, ap, arith}
use Rattle.judge_replay.specs.BadReads.{ReadsAreRefused}

pub reads_refused : ReadsAreRefused
reads_refused = record {
  lost = λ note is. cc is;
  twice = λ note is. absurd (omega (arith, ap length is));
  waits = λ note is. cc is;
  differs = λ note is. cc is;
  forgotten = λ note house none is. cc (none, is);
  untold = λ note house none is. cc is;
}
