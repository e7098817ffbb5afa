use Rattle.std.proofs.Common.{refl}
use Rattle.fairview.proofs.BytesLemmas.{file_none, file_text, tells_none, tells_text}
use Rattle.fairview.proofs.text_of.Goals as goal

pub returns-in-None-clause-text : goal.returns-in-None-clause-text
returns-in-None-clause-text g c =
    rw c.in-None.is (tells_text g.I.Source c.args.input.now c.text_of_parts.new.source (λ text. text.items) c.text_of_parts.result c.text_of_parts.ensures.ok c.text_of_parts.ensures.end)

pub returns-in-None-clause-none : goal.returns-in-None-clause-none
returns-in-None-clause-none g c =
    rw c.in-None.is (tells_none g.I.Source c.args.input.now c.text_of_parts.new.source c.text_of_parts.result c.text_of_parts.ensures.faulty c.text_of_parts.ensures.failed c.text_of_parts.ensures.device)

pub returns-in-Ok-clause-text : goal.returns-in-Ok-clause-text
returns-in-Ok-clause-text g c =
    let read = c.text_of_parts-in-Ok in
    rw c.in-Some.is (file_text _ _ _ _ _ refl (λ text. text.items) read.result (tells_text _ c.in-Ok.source read.new.source (λ text. text.items) read.result read.ensures.ok read.ensures.end))

pub returns-in-Ok-clause-none : goal.returns-in-Ok-clause-none
returns-in-Ok-clause-none g c =
    let read = c.text_of_parts-in-Ok in
    rw c.in-Some.is (file_none _ _ _ _ _ refl read.result (tells_none _ c.in-Ok.source read.new.source read.result read.ensures.faulty read.ensures.failed read.ensures.device))
