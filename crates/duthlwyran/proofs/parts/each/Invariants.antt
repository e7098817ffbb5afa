use Rattle.std.proofs.Common.{◌≡◌, ◌≤◌, length}
use Rattle.duthlwyran.proofs.parts.each.Given as goal

abbrev pub invariant-loop : goal.invariant-loop
invariant-loop g l = (length l.all.items ≡ l.counter) × (l.counter ≤ l.count)
