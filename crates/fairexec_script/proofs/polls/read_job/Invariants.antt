-- What is read so far and the words that are left write what the words wrote at the start.
use Rattle.std.proofs.Common.{◌≡◌, ◌+◌, length}
use Rattle.fairexec_script.specs.Polls.{polls_field, IsPartOf}
use Rattle.fairexec_script.proofs.polls.read_job.Given as goal

abbrev pub invariant-loop-i : goal.invariant-loop-i
invariant-loop-i l = record {
  left : l._i + length l.words ≡ l.count + 1;
  part : IsPartOf l.cores (polls_field l.cores l.initial.words) l.found l.job l.words;
}
