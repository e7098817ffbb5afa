use Rattle.std.proofs.Common.{◌≡◌, [], Ok, Err, ◌∙◌}
use Rattle.std.proofs.lemmas.Result.{IfOk-weaker}
use Rattle.text_bytes.specs.Readings.{at}
use Rattle.text_bytes.specs.Texts.{text_from}
use Rattle.text_bytes.proofs.FaultLemmas.{IfErr_faulty}
use Rattle.text_bytes.proofs.TextLemmas.{at_last}
use Rattle.text_bytes.proofs.reader.LineReader.finish.Goals as goal

pub returns-clause-ok : goal.returns-clause-ok
returns-clause-ok g c =
    let judge = g.D.LineDraft.judge in
    let here = at c.args.draft c.args.self.now.number c.args.self.now.line.items in
    IfOk-weaker c.finish.result _ _ (λ whole told. (told.0, at_last judge here c.requires.ready.feedless ∙ told.1, told.2)) (rw c.as_slice.ensures.value at c.finish.ensures.ok)

pub returns-clause-faulty : goal.returns-clause-faulty
returns-clause-faulty g c =
    let judge = g.D.LineDraft.judge in
    let here = at c.args.draft c.args.self.now.number c.args.self.now.line.items in
    IfErr_faulty c.finish.result _ (λ fault. text_from judge here [] ≡ Err fault)
    (λ fault told. at_last judge here c.requires.ready.feedless ∙ told) (rw c.as_slice.ensures.value at c.finish.ensures.faulty)
