use Rattle.base_jobs.proofs.ExampleLemmas.{IsGcd-mod}
use Rattle.base_jobs.proofs.example.WorkJob.poll.Goals as goal

pub returns-then-right-ne0-clause-same : goal.returns-then-right-ne0-clause-same
returns-then-right-ne0-clause-same g c = λ out. rw c.in-Divisor.is (IsGcd-mod c.in-Divisor.left c.in-Divisor.right out)
