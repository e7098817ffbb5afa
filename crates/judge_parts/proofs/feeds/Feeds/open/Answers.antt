use Rattle.std.proofs.Common.{ap, ◌∙◌, arith}
use Rattle.std.specs.Vec.Iter.{into_iter_items, into_iter_len}
use Rattle.judge_parts.proofs.Fresh.{fresh_feed, fresh_feeds, fresh_told, opened_more}
use Rattle.judge_parts.proofs.feeds.Feeds.open.Goals as goal

pub loop-source-preserved : goal.loop-source-preserved
loop-source-preserved g c =
    let loop = c.loop-source in let steps = c.in-Some.ensures.steps in
    record {
      reserved = omega (arith, loop.invariant.reserved, c.push_reserved.ensures.capacity);
      made = rw (c.push_reserved.ensures.items, c.with-opened.ensures)
          (opened_more c.args.sources.items (into_iter_items loop.source-iterator) (into_iter_items c.next.new.self)
          (into_iter_len loop.source-iterator) (into_iter_len c.next.new.self) loop.opened.items loop.feeds.items c.in-Some.source c.open.result loop.invariant.made steps.0 steps.1
          (c.open.ensures ∙ ap (λ actor. fresh_feed actor c.in-Some.source) (omega (arith, c.len-in-loop-source.ensures, loop.feeds.ok.0, loop.invariant.made.count, steps.1, c.requires.few))));
    }

pub invariant_of-result : goal.invariant_of-result
invariant_of-result g c = fresh_feeds g.S.Source.remaining c.loop-source.opened.items c.loop-source.feeds.items c.loop-source.invariant.made.fresh

pub returns-clause-none : goal.returns-clause-none
returns-clause-none g c = fresh_told c.loop-source.opened.items c.loop-source.feeds.items c.loop-source.invariant.made.fresh
