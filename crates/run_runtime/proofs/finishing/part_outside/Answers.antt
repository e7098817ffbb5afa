use Rattle.std.proofs.Common.{◌∙◌, ◌++◌, sym, ap}
use Rattle.run_runtime.proofs.AllPassed.{rest_handed}
use Rattle.run_runtime.proofs.finishing.part_outside.Goals as goal

pub returns-clause-rest : goal.returns-clause-rest
returns-clause-rest g c =
    rest_handed g.S.Sink.has g.S.Sink.refused c.args.desk.journal c.pass_on-answer.new.self.journal _ c.pass_on-answer.new.sink c.pass_on-answer.result c.into_kept-kept.result c.requires c.pass_on-answer.ensures.passes
    (ap (λ journal. c.into_kept-kept.result.notes ++ journal.passed) (sym c.into_journal.ensures) ∙ (c.into_kept-kept.ensures.notes ∙ ap (λ journal. journal.notes) c.into_journal.ensures))
