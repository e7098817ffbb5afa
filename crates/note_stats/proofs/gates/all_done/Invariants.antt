use Rattle.std.proofs.Common.{◌≡◌, ℕ, ◌<◌, get_or}
use Rattle.std.specs.Prelude.{Some}
use Rattle.note_stats.specs.Gates.{open_gate}
use Rattle.note_stats.proofs.gates.all_done.Given as goal

abbrev pub invariant-loop-sender : goal.invariant-loop-sender
invariant-loop-sender l = (sender : ℕ) → sender < l.sender → (get_or l.senders sender open_gate).count ≡ Some (get_or l.senders sender open_gate).delivered
