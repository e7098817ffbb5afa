use Rattle.std.proofs.Common.{sym, ◌∙◌, Some, None, not}
use Rattle.text_words.specs.Words.{words}
use Rattle.fairexec_script.specs.Limits.{MayFollow, IsSized}
use Rattle.fairexec_script.specs.ThreadsLimits.{TellsNoPark}
use Rattle.fairexec_script.proofs.LimitLemmas.{IfOk-from_each}
use Rattle.fairexec_script.proofs.ThreadsLimitLemmas.{size_told_ok, line_told_ok}
use Rattle.fairexec_script.proofs.NoParks.{line_told_never, size_told_never}
use Rattle.fairexec_script.proofs.threads_draft.Draft.line_at.Goals as goal

pub returns-in-None-clause-follows : goal.returns-in-None-clause-follows
returns-in-None-clause-follows c =
    rw (← c.self.view_is, c.in-None.is)
    (IfOk-from_each _ (MayFollow None) (λ line e. size_told_ok (words c.args.text.now) line (sym c.size_told.ensures ∙ e)))

pub returns-in-Some-clause-follows : goal.returns-in-Some-clause-follows
returns-in-Some-clause-follows c =
    let sized : IsSized (Some (c.in-Some.cores, c.in-Some.field-0-1)) = rw c.in-Some.is at c.self.invariant.0.sized in
    rw (← c.self.view_is, c.in-Some.is)
    (IfOk-from_each _ (MayFollow (Some (c.in-Some.cores, c.in-Some.field-0-1)))
    (λ line e. line_told_ok (c.in-Some.cores, c.in-Some.field-0-1) (not c.is_empty.result) (words c.args.text.now) line sized.some_cores (sym c.line_told.ensures ∙ e)))

pub returns-in-None-clause-never : goal.returns-in-None-clause-never
returns-in-None-clause-never c = IfOk-from_each _ TellsNoPark (λ line e. size_told_never (words c.args.text.now) line (sym c.size_told.ensures ∙ e))

pub returns-in-Some-clause-never : goal.returns-in-Some-clause-never
returns-in-Some-clause-never c = IfOk-from_each _ TellsNoPark (λ line e. line_told_never c.in-Some.cores (not c.is_empty.result) (words c.args.text.now) line (sym c.line_told.ensures ∙ e))
