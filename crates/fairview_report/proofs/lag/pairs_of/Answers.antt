use Rattle.std.proofs.Common.{ℕ, [], ap, ◌∙◌, arith}
use Rattle.base_words.specs.Assembly.{journal_of}
use Rattle.fairview_lag.specs.Pairs.{core_pairs}
use Rattle.fairview_lag.specs.PairWalks.{KnowsLags}
use Rattle.fairview_lag.specs.declared.pairs.PairLag.{PairLag}
use Rattle.fairview_marks.specs.Lists.{lists_below}
use Rattle.fairview_marks.proofs.Lists.{before_all, after_one}
use Rattle.fairview_report.proofs.WalkLemmas.{tells_at}
use Rattle.fairview_report.proofs.lag.pairs_of.Goals as goal

pub loop-core-init : goal.loop-core-init
loop-core-init c =
    λ assembly knows. c.new-pairs.ensures.items ∙ before_all {A = PairLag} (λ core. core_pairs assembly.burst core (journal_of core assembly)) []

pub loop-core-preserved : goal.loop-core-preserved
loop-core-preserved c =
    λ assembly knows.
    let walked = c.args.walked.now in
    after_one (λ core. core_pairs assembly.burst core (journal_of core assembly)) c.loop-core.core [] c.loop-core.pairs.items c.push_pairs.new.pairs.items
    (c.loop-core.invariant assembly knows)
    (c.in_ok-push_pairs.ensures.all assembly.burst (journal_of c.loop-core.core assembly)
    (tells_at (λ lags burst journal. KnowsLags {T = ℕ} burst lags journal) walked.cores walked.burst walked.each.items assembly c.loop-core.core c.index.result.now knows (omega arith) c.index.ensures))

pub returns : goal.returns
returns c =
    λ assembly knows.
    let same = knows.same_cores in
    c.loop-core.invariant assembly knows ∙ ap (lists_below (λ core. core_pairs assembly.burst core (journal_of core assembly))) (omega (arith, same))
