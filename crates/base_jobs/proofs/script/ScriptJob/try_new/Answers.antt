use Rattle.std.proofs.Common.{arith, refl, sym, ◌∙◌}
use Rattle.std.proofs.lemmas.Bool.{false≢true}
use Rattle.std.proofs.lemmas.List.{take_all}
use Rattle.base_jobs.proofs.ScriptLemmas.{no_script-open_last, no_script-done_early, IsScript-kept}
use Rattle.base_jobs.proofs.script.ScriptJob.try_new.Goals as goal

pub returns-in_default-clause-script : goal.returns-in_default-clause-script
returns-in_default-clause-script c = (
  (λ no. absurd (false≢true no)),
  (λ script. absurd (no_script-open_last _ _ _ c.in_ok-last.ensures.cases.0 c.in_default.not-Done script)),
)

pub returns-in-Done-poll-clause-script : goal.returns-in-Done-poll-clause-script
returns-in-Done-poll-clause-script c = (
  (λ no. absurd (false≢true no)),
  (λ script. absurd (no_script-done_early _ _ _ _ _ _ _ c.in_ok-last.ensures.cases.0 c.loop-poll-test.true (sym c.poll-item.is ∙ c.in-Done-poll.is) script)),
)

pub returns-clause-script : goal.returns-clause-script
returns-clause-script c = (
  (λ yes.
      IsScript-kept _ _ _ _ _ _ c.in_ok-last.ensures.cases.0 c.in-Done.is
      (c.loop-poll.invariant.kept ∙ take_all c.loop-poll.poll-index c.in_ok-last.early.now (omega arith)) (omega (arith, c.loop-poll.invariant.count))),
  (λ script. refl),
)
