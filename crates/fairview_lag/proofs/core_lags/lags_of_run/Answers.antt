use Rattle.std.proofs.Common.{[], ◌++◌, ◌∙◌}
use Rattle.base_words.specs.Assembly.{journal_of}
use Rattle.fairview_lag.specs.Pairs.{core_pairs}
use Rattle.fairview_marks.proofs.Lists.{before_all, after_one}
use Rattle.fairview_lag.specs.declared.pairs.PairLag.{PairLag}
use Rattle.fairview_lag.proofs.core_lags.lags_of_run.Goals as goal

pub loop-core-init : goal.loop-core-init
loop-core-init c = c.new-pairs.ensures.items ∙ before_all {A = PairLag} (λ core. core_pairs c.args.assembly.now.burst core (journal_of core c.args.assembly.now)) []

pub loop-core-preserved : goal.loop-core-preserved
loop-core-preserved c =
    after_one (λ core. core_pairs c.args.assembly.now.burst core (journal_of core c.args.assembly.now)) c.loop-core.core [] c.loop-core.pairs.items
    c.push_core.new.pairs.items c.loop-core.invariant
    (c.in_ok-push_core.ensures ∙ (λ i. c.loop-core.pairs.items ++ core_pairs (c.burst.ensures i) c.loop-core.core (c.journal.ensures i)))
