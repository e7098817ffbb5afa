use Rattle.std.proofs.Common.{ℕ, arith, string_bytes}
use Rattle.base_words.specs.Assembly.{journal_of}
use Rattle.judge_view.specs.Waits.{AreSpans}
use Rattle.fairview_report.specs.WaitTexts.{IsCoreText}
use Rattle.fairview_report.proofs.TextLemmas.{puts_none, puts_one, puts_all}
use Rattle.fairview_report.proofs.WalkLemmas.{tells_at}
use Rattle.fairview_report.proofs.wait.put_waits.Goals as goal

pub loop-core-init : goal.loop-core-init
loop-core-init c = λ assembly are. puts_none (λ core. IsCoreText c.args.plain core (journal_of core assembly)) (string_bytes c.args.page.now)

pub loop-core-preserved : goal.loop-core-preserved
loop-core-preserved c =
    λ assembly are.
    let walked = c.args.walked.now in
    puts_one (λ core. IsCoreText c.args.plain core (journal_of core assembly)) c.loop-core.core (string_bytes c.args.page.now) (string_bytes c.loop-core.page)
    (string_bytes c.put_core.new.page) (c.loop-core.invariant assembly are)
    (c.in_ok-put_core.ensures (journal_of c.loop-core.core assembly)
    (tells_at (λ spans burst journal. AreSpans spans journal) walked.cores walked.burst walked.each.items assembly c.loop-core.core c.index.result.now are (omega arith) c.index.ensures))

pub returns : goal.returns
returns c =
    λ assembly are.
    let same = are.same_cores in
    puts_all (λ core. IsCoreText c.args.plain core (journal_of core assembly)) c.loop-core.core assembly.cores (string_bytes c.args.page.now) (string_bytes c.loop-core.page)
    (omega (arith, same)) (c.loop-core.invariant assembly are)
