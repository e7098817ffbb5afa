use Rattle.std.proofs.Common.{◌++◌, ℕ, ap, ◌∙◌, arith, string_bytes}
use Rattle.base_words.specs.Assembly.{journal_of}
use Rattle.judge_view.specs.Watches.{KnowsShares}
use Rattle.fairview_marks.specs.Lists.{lists_below}
use Rattle.fairview_report.specs.ShareTexts.{core_text}
use Rattle.fairview_marks.proofs.Lists.{before_all, after_one}
use Rattle.fairview_report.proofs.WalkLemmas.{tells_at}
use Rattle.fairview_report.proofs.share.put_cores.Goals as goal

pub loop-core-init : goal.loop-core-init
loop-core-init c = λ assembly knows. before_all (λ core. core_text c.args.form assembly.burst core (journal_of core assembly)) (string_bytes c.args.page.now)

pub loop-core-preserved : goal.loop-core-preserved
loop-core-preserved c =
    λ assembly knows.
    let walked = c.args.walked.now in
    after_one (λ core. core_text c.args.form assembly.burst core (journal_of core assembly)) c.loop-core.core (string_bytes c.args.page.now) (string_bytes c.loop-core.page)
    (string_bytes c.put_core.new.page) (c.loop-core.invariant assembly knows)
    (c.in_ok-put_core.ensures assembly.burst (journal_of c.loop-core.core assembly)
    (tells_at (λ shares burst journal. KnowsShares {T = ℕ} burst shares journal) walked.cores walked.burst walked.each.items assembly c.loop-core.core c.index.result.now knows (omega arith) c.index.ensures))

pub returns : goal.returns
returns c =
    λ assembly knows.
    let same = knows.same_cores in
    c.loop-core.invariant assembly knows
    ∙ ap (λ count. string_bytes c.args.page.now ++ lists_below (λ core. core_text c.args.form assembly.burst core (journal_of core assembly)) count) (omega (arith, same))
