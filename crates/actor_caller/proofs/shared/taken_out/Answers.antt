use Rattle.actor_caller.proofs.CallsMade.{beside_made}
use Rattle.actor_caller.proofs.shared.taken_out.Goals as goal

pub with_house-requires : goal.with_house-requires
with_house-requires g c =
    let beside = beside_made g.J.Task.meaning (g.H.Beside.team c.args.house) _ _ c.requires c.close-inside.ensures in
    rw c.into_inner.ensures beside
