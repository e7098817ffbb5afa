use Rattle.core_queues.proofs.Words.{arith, false, inl, inr, refl, ℕ, ◌<◌, ◌≡◌}
use Rattle.core_queues.proofs.Marked.{still_filled}
use Rattle.core_queues.proofs.waiting.move_head.Goals as goal

some-count : (n : ℕ) → (n ≡ 0 → ⊥) → 0 < n
some-count n none = omega arith

pub start-requires : goal.start-requires
start-requires g c = c.requires.head

pub link-requires : goal.link-requires
link-requires g c =
    still_filled c.args.jobs.now c.start.new.jobs c.args.from.head c.args.to.tail c.start.ensures.0 false c.start.ensures.1 (c.requires.tail (some-count c.args.to.count c.if-to-eq0.false))

pub returns-then-to-eq0 : goal.returns-then-to-eq0
returns-then-to-eq0 g c = record {
  front = c.start.ensures.0;
  between = c.start.new.jobs;
  starts = c.start.ensures.1;
  links = inl (c.if-to-eq0.true, refl, refl);
  tail = refl;
  count = refl;
  left = rw c.start.ensures.2 refl;
}

pub returns : goal.returns
returns g c = record {
  front = c.start.ensures.0;
  between = c.start.new.jobs;
  starts = c.start.ensures.1;
  links = inr (some-count c.args.to.count c.if-to-eq0.false, refl, c.link.ensures);
  tail = refl;
  count = refl;
  left = rw c.start.ensures.2 refl;
}
