use Rattle.std.proofs.Common.{sym, ◌∙◌, Some, None, not}
use Rattle.text_words.specs.Words.{words}
use Rattle.fairexec_script.specs.Limits.{MayFollow, IsSized}
use Rattle.fairexec_script.proofs.LimitLemmas.{first_line_ok, later_line_ok, IfOk-from_each}
use Rattle.fairexec_script.proofs.draft.Draft.line_at.Goals as goal

pub returns-in-None-clause-follows : goal.returns-in-None-clause-follows
returns-in-None-clause-follows c =
    rw (← c.self.view_is, c.in-None.is)
    (IfOk-from_each _ (MayFollow None) (λ line e. first_line_ok (words c.args.text.now) line (sym c.first_line.ensures ∙ e)))

pub returns-in-Some-clause-follows : goal.returns-in-Some-clause-follows
returns-in-Some-clause-follows c =
    let sized : IsSized (Some (c.in-Some.cores, c.in-Some.field-0-1)) = rw c.in-Some.is at c.self.invariant.limits.sized in
    rw (← c.self.view_is, c.in-Some.is)
    (IfOk-from_each _ (MayFollow (Some (c.in-Some.cores, c.in-Some.field-0-1)))
    (λ line e. later_line_ok (c.in-Some.cores, c.in-Some.field-0-1) (not c.is_empty.result) (words c.args.text.now) line sized.some_cores (sym c.later_line.ensures ∙ e)))
