use Rattle.core_queues.proofs.Words.{inl, inr, refl}
use Rattle.core_queues.proofs.Marked.{still_filled}
use Rattle.core_queues.proofs.waiting.requeue.Goals as goal

pub start-next-requires : goal.start-next-requires
start-next-requires g c = c.requires.head

pub link-requires : goal.link-requires
link-requires g c = still_filled c.args.jobs.now c.start-next.new.jobs c.args.line.head c.args.line.tail c.start-next.ensures.0 c.args.woken c.start-next.ensures.1 c.requires.tail

pub returns-then-line-eq1 : goal.returns-then-line-eq1
returns-then-line-eq1 g c = record {
  front = c.start-next.ensures.0;
  between = c.start-next.new.jobs;
  starts = c.start-next.ensures.1;
  links = inl (c.if-line-eq1.true, refl, refl);
  tail = refl;
  count = refl;
}

pub returns : goal.returns
returns g c = record {
  front = c.start-next.ensures.0;
  between = c.start-next.new.jobs;
  starts = c.start-next.ensures.1;
  links = inr (c.if-line-eq1.false, c.start-next.ensures.2, c.link.ensures);
  tail = refl;
  count = refl;
}
