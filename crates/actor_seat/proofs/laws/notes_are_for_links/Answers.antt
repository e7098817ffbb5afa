use Rattle.actor_seat.proofs.Names.{ℕ}
use Rattle.actor_seat.proofs.BellsRefused.{notes_for}
use Rattle.actor_seat.proofs.laws.notes_are_for_links.Goals as goal

pub returns : goal.returns
returns c = notes_for ℕ
