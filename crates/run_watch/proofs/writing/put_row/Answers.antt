use Rattle.std.proofs.Common.{◌≡◌, [], ap, ◌∙◌, length, arith, subst}
use Rattle.run_watch.specs.Views.{with_row}
use Rattle.run_watch.specs.Words.{HasAt, core_words}
use Rattle.run_watch.proofs.Rows.{HasAt-kept}
use Rattle.run_watch.proofs.writing.put_row.Goals as goal

pub put_words-requires-clause-within : goal.put_words-requires-clause-within
put_words-requires-clause-within c = let wide : length c.core_words-head.result ≡ 7 = ap length c.core_words-head.ensures in omega (arith, wide, c.requires.places.1)

pub put_queues-requires-clause-places : goal.put_queues-requires-clause-places
put_queues-requires-clause-places c = (c.requires.places.0, c.put_words.ensures.writes.wide ∙ c.requires.places.1)

pub returns-clause-table : goal.returns-clause-table
returns-clause-table c = c.put_queues.ensures.table ∙ c.put_words.ensures.table

pub returns-clause-view : goal.returns-clause-view
returns-clause-view c = c.put_queues.ensures.view ∙ ap (λ v. with_row v c.put_queues.new.row.items) c.put_words.ensures.view

pub returns-clause-wide : goal.returns-clause-wide
returns-clause-wide c = c.put_queues.ensures.writes.wide ∙ c.put_words.ensures.writes.wide

pub returns-clause-core : goal.returns-clause-core
returns-clause-core c =
    let head = subst (λ words. HasAt c.put_words.new.row.items 0 words) c.core_words-head.ensures c.put_words.ensures.writes.has in
    HasAt-kept 0 7 (core_words c.args.core.now (length c.args.queues.now) c.args.closed) [] c.put_words.new.row.items c.put_queues.new.row.items head (omega arith) c.put_queues.ensures.writes
