use Rattle.core_queues.proofs.Words.{arith, inl, inr, refl, ℕ, ◌<◌, ◌≡◌}
use Rattle.core_queues.proofs.parks.follow.Goals as goal

some-count : (n : ℕ) → (n ≡ 0 → ⊥) → 0 < n
some-count n none = omega arith

pub link-requires : goal.link-requires
link-requires g c = c.requires.tail (some-count c.args.line.count c.if-line-eq0.false)

pub returns-then-line-eq0 : goal.returns-then-line-eq0
returns-then-line-eq0 g c = record { links = inl (c.if-line-eq0.true, refl, refl); tail = refl; count = refl }

pub returns : goal.returns
returns g c = record { links = inr (some-count c.args.line.count c.if-line-eq0.false, refl, c.link.ensures); tail = refl; count = refl }
