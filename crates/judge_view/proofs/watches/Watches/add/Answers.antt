use Rattle.std.proofs.Common.{◌∷◌, get_or}
use Rattle.base_words.specs.Limits.{most_queues}
use Rattle.judge_view.specs.Watches.{no_watch}
use Rattle.judge_view.proofs.WatchSteps.{busy_known, below_known, waiting_known, watch_next}
use Rattle.judge_view.proofs.watches.Watches.add.Goals as goal

pub returns-clause-knows : goal.returns-clause-knows
returns-clause-knows c =
    λ before short fits knows.
    let note = c.args.note.now in
    let old = c.args.self.now in
    let accounts = c.add-3.ensures.known before fits short knows.accounts in
    let tallies = c.add-2.ensures before fits.queue short knows.accounts knows.tallies in
    record {
      parks = c.in_ok-add.ensures.knows before short knows.parks;
      accounts = accounts;
      tallies = tallies;
      each =
          λ queue less.
          watch_next queue note before (get_or old.each queue no_watch) (get_or c.owe_all.new.each queue no_watch) (get_or c.see_all.new.each queue no_watch) _ _ _ _
          c.settled_time.ensures (busy_known old.accounts before knows.accounts queue) (below_known old.accounts before knows.accounts most_queues)
          (waiting_known c.add-3.new.self (note ∷ before) accounts c.add-2.new.self tallies queue) (c.owe_all.ensures queue less) (c.see_all.ensures queue less)
          (knows.each queue less);
    }
