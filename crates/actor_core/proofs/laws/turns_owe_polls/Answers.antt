use Rattle.actor_core.proofs.Names.{⊎_elim}
use Rattle.actor_core.proofs.Beginnings.{pick_begins, further_begins}
use Rattle.actor_core.proofs.OwedTurns.{turn_keeps}
use Rattle.actor_core.proofs.laws.turns_owe_polls.Goals as goal

pub returns : goal.returns
returns g c before after old ends name queue started settled new later turn owed = ⊎_elim
    (λ turn. turn_keeps old ends name queue started settled new later turn (pick_begins old name queue started turn.ran.before turn.picked turn.picks) owed)
    (λ turn. turn_keeps old ends name queue started settled new later turn (further_begins old name queue started turn.ran.before turn.picked turn.picks) owed) turn
