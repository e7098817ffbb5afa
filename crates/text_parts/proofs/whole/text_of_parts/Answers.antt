use Rattle.std.proofs.lemmas.Result.{IfErr-weaker, IfOk-weaker}
use Rattle.text_parts.specs.Houses.{IsFault}
use Rattle.text_parts.specs.Wholes.{MakesText}
use Rattle.text_parts.proofs.WholeLemmas.{IfBytes-weaker, all_read, never_read}
use Rattle.text_parts.proofs.whole.text_of_parts.Goals as goal

pub returns-in-Ok-clause-ok : goal.returns-in-Ok-clause-ok
returns-in-Ok-clause-ok g c =
    let read = c.in-Ok.ensures in
    IfOk-weaker c.text_in.result _ _
    (λ text. all_read (g.S.Source.remaining c.args.source.now) (g.S.Source.remaining c.read_all.new.source) c.in-Ok.bytes.items (MakesText text.items) read.ok read.end)
    (rw c.deref.ensures.value at c.text_in.ensures.ok)

pub returns-in-Ok-clause-faulty : goal.returns-in-Ok-clause-faulty
returns-in-Ok-clause-faulty g c =
    let read = c.in-Ok.ensures in
    IfErr-weaker c.text_in.result _ _
    (λ told. IfBytes-weaker told (IsFault c.in-Ok.bytes.items) _
    (λ place why. all_read (g.S.Source.remaining c.args.source.now) (g.S.Source.remaining c.read_all.new.source) c.in-Ok.bytes.items (λ all. IsFault all place why) read.ok read.end))
    (rw c.deref.ensures.value at c.text_in.ensures.faulty)

pub returns-in-Ok-clause-failed : goal.returns-in-Ok-clause-failed
returns-in-Ok-clause-failed g c = IfErr-weaker c.text_in.result _ _ (λ told. never_read told _) c.text_in.ensures.read

pub returns-in-Err-clause-faulty : goal.returns-in-Err-clause-faulty
returns-in-Err-clause-faulty g c = IfBytes-weaker c.in-Err.fault (λ place why. ⊥) _ (λ place why never. absurd never) c.in-Err.ensures.faulty
