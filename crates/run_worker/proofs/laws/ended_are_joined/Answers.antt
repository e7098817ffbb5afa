use Rattle.run_worker.proofs.Ending.{ended_together, ended_drained}
use Rattle.run_worker.proofs.Names.{all_ends, desk_among, ends_at, in_at, out_at, worker_at}
use Rattle.run_worker.proofs.laws.ended_are_joined.Goals as goal

pub returns : goal.returns
returns g c cores cap burst workers outside assembly have is = (
  c.recorded_are_joined.ensures cores cap burst (desk_among workers outside) (λ core. (worker_at core workers).recorded)
      (λ sender core. (out_at core (ends_at sender (all_ends workers outside))).out)
      (λ sender core. (out_at core (ends_at sender (all_ends workers outside))).credited)
      (λ sender core. (in_at sender (ends_at core (all_ends workers outside))).inward)
      assembly (ended_together have) is,
  ended_drained have assembly is,
)
