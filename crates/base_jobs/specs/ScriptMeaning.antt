-- What a script job means.
use Rattle.std.specs.Prelude.{◌≡◌, ◌==◌, ℕ, length, slice_get}
use Rattle.std.proofs.Common.{subst}
use Rattle.base_jobs.specs.Meanings.{Meaning, IsMeaning}
use Rattle.base_jobs.specs.Same.{same_value}
use Rattle.base_jobs.specs.Scripts.{Script, Does, IsAnswer, time_told}

-- its task is its polls: each does its own word, and it is done where all were made; the answer is that of the last word
abbrev pub script_meaning : Meaning Script ℕ
script_meaning =
    record {
      same = λ a b. a.polls ≡ b.polls;
      done = λ job. job.polled == length job.polls;
      can_poll = λ job. Unit {0};
      made = λ job. job.polled;
      says = λ job. time_told job.polls job.polled;
      polls = λ job made calls step told. Does (slice_get job.polls made) calls step told;
      answers = λ job out. IsAnswer job.polls out;
    }

-- jobs of the same polls are alike
pub script_laws : IsMeaning script_meaning
script_laws =
    record {
      same_task = same_value (λ (job : Script). job.polls);
      answers_same = λ a b out same here. subst (λ polls. IsAnswer polls out) same here;
      polls_same = λ a b made calls step told same owed. subst (λ polls. Does (slice_get polls made) calls step told) same owed;
      can_poll_same = λ a b same can. can;
    }
