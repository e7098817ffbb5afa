use Rattle.model_world.proofs.LinkWords.{◌≤◌, map, vec_capacity}
use Rattle.model_world.proofs.LinkRows.{row_links}
use Rattle.model_world.proofs.Opening.{AreFreshRows}
use Rattle.model_world.proofs.links.Links.open.Given as goal

abbrev pub invariant-loop-sender : goal.invariant-loop-sender
invariant-loop-sender g l = (l.count ≤ vec_capacity l.rows) × AreFreshRows l.sender l.cores l.cap (map row_links l.rows.items)
