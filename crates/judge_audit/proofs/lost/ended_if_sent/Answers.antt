use Rattle.judge_audit.proofs.Names.{ap, arith, JobId, ◌≡◌}
use Rattle.judge_audit.proofs.lost.ended_if_sent.Goals as goal

pub returns-else-name-core : goal.returns-else-name-core
returns-else-name-core c =
    λ assembly journal before orders history.
    let here : c.in-Sent.name.to ≡ c.args.core = omega (arith, ap (λ (name : JobId). name.to) c.name.view_is) in
    rw c.in-Sent.is (
      λ yes to. (c.has_ended_under.ensures assembly journal orders history).0 yes,
      λ ended. (c.has_ended_under.ensures assembly journal orders history).1 (ended here),
    )
