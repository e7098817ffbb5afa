use Rattle.std.proofs.lemmas.Result.{IfOk-weaker}
use Rattle.text_journal.proofs.OnlyTexts.{handed_text}
use Rattle.text_journal.proofs.source.pass_journal.Goals as goal

pub returns-clause-same_text : goal.returns-clause-same_text
returns-clause-same_text g c =
    IfOk-weaker c.read_lines.result _ _ (λ whole. handed_text g.T.NoteTaker.makes whole (g.S.Source.remaining c.args.source.now)) (rw c.new.ensures at c.read_lines.ensures.ok)
