use Rattle.std.proofs.Common.{◌≡◌, length}
use Rattle.fair_parts.proofs.folder.part_files.Given as goal

abbrev pub invariant-loop-actor : goal.invariant-loop-actor
invariant-loop-actor g l = length l.files.items ≡ l.actor
