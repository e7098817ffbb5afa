use Rattle.core_queues.proofs.Words.{ContainsKey, false, refl, Skips, subst, ◌<◌}
use Rattle.core_queues.proofs.Marked.{still_filled, skipped_filled}
use Rattle.core_queues.proofs.parks.move_out.Goals as goal

pub start-next-requires : goal.start-next-requires
start-next-requires g c = c.requires.there

pub skip-shorter-requires : goal.skip-shorter-requires
skip-shorter-requires g c = record {
  before = λ not_head. still_filled c.args.jobs.now c.start-next.new.jobs c.args.key c.args.before c.start-next.ensures.0 false c.start-next.ensures.1 (c.requires.before not_head);
  some = c.requires.some;
}

pub follow-longer-requires : goal.follow-longer-requires
follow-longer-requires g c = record {
  tail = λ some.
      skipped_filled c.start-next.new.jobs c.skip-shorter.new.jobs c.args.from c.args.key c.args.before c.start-next.result c.skip-shorter.result c.args.to.tail c.skip-shorter.ensures
      (still_filled c.args.jobs.now c.start-next.new.jobs c.args.key c.args.to.tail c.start-next.ensures.0 false c.start-next.ensures.1 (c.requires.tail some));
  short = c.requires.short;
}

pub returns : goal.returns
returns g c = record {
  gone = c.start-next.ensures.0;
  started = c.start-next.new.jobs;
  between = c.skip-shorter.new.jobs;
  starts = c.start-next.ensures.1;
  next_is = c.start-next.ensures.2;
  skips = subst (λ next. Skips c.start-next.new.jobs c.args.from c.args.key c.args.before next c.skip-shorter.new.jobs c.skip-shorter.result) c.start-next.ensures.2 c.skip-shorter.ensures;
  follows = c.follow-longer.ensures;
}
