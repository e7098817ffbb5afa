use Rattle.std.proofs.Common.{◌≡◌, ◌<◌, [], length, ℕ}
use Rattle.link_ring.specs.Grid.{ends_at}
use Rattle.link_ring.proofs.opening.bare.Given as goal

abbrev pub invariant-loop-number : goal.invariant-loop-number
invariant-loop-number g l =
    (length l.all.items ≡ l.number)
    × ((a : ℕ) → a < l.number → ends_at a l.all.items ≡ record { number = a; outs = []; ins = [] })
