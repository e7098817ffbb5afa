use Rattle.judge_replay.proofs.ReadsRefused.{reads_refused}
use Rattle.judge_replay.proofs.laws.bad_reads_are_refused.Goals as goal

pub returns : goal.returns
returns c = reads_refused
