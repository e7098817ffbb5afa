use Rattle.std.proofs.Common.{◌∙◌, sym}
use Rattle.std.proofs.lemmas.Option.{IfSome_then}
use Rattle.std.proofs.lemmas.Result.{IfOk-weaker}
use Rattle.text_journal.proofs.OnlyTexts.{assembly_passed, kept_text}
use Rattle.text_journal.proofs.source.read_journal.Goals as goal

pub returns-clause-ok : goal.returns-clause-ok
returns-clause-ok g c =
    IfOk-weaker c.pass_journal.result _ _
    (λ assembly told. IfSome_then (g.S.Source.remaining c.args.source.now) told (λ text it. (it.0, it.1, it.2 ∙ sym (assembly_passed it.0)))) c.pass_journal.ensures.ok

pub returns-clause-same_text : goal.returns-clause-same_text
returns-clause-same_text g c =
    IfOk-weaker c.pass_journal.result _ _ (λ assembly. kept_text (g.S.Source.remaining c.args.source.now) assembly) c.pass_journal.ensures.same_text
