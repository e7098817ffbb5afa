use Rattle.std.proofs.Common.{◌≡◌, ◌++◌, ◌∙◌, ℕ, ap, subst, string_bytes}
use Rattle.base_words.specs.Assembly.{journal_of}
use Rattle.base_words.specs.Journal.{Journal}
use Rattle.fairexec_report.specs.Outcomes.{lines_told}
use Rattle.fairexec_report.proofs.TextLemmas.{before_cores, after_core}
use Rattle.fairexec_report.proofs.outcome_text.put_outcomes.Goals as goal

pub loop-core-init : goal.loop-core-init
loop-core-init c = before_cores c.args.assembly.now (string_bytes c.args.page.now)

pub loop-core-preserved : goal.loop-core-preserved
loop-core-preserved c =
    after_core c.loop-core.core c.args.assembly.now _ _ _ c.loop-core.invariant
    (subst (λ (journal : Journal ℕ). string_bytes c.put_core.new.page ≡ string_bytes c.loop-core.page ++ lines_told c.args.assembly.now c.loop-core.core journal)
    (c.journal.ensures ∙ ap (λ (actor : ℕ). journal_of actor c.args.assembly.now) c.cores-outside.ensures.value)
    (c.in_ok-put_core.ensures c.args.assembly.now (rw c.deref.ensures.value c.in_ok-outcomes.ensures)))
