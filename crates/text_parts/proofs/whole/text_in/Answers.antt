use Rattle.std.proofs.lemmas.Result.{IfErr-weaker, IfOk-weaker}
use Rattle.text_parts.proofs.WholeLemmas.{IfBytes-weaker}
use Rattle.text_parts.proofs.whole.text_in.Goals as goal

pub returns-in-Ok-clause-ok : goal.returns-in-Ok-clause-ok
returns-in-Ok-clause-ok c = IfOk-weaker c.text_of.result _ _ (λ text same. (c.in-Ok.assembly, c.in-Ok.ensures.ok.0, c.in-Ok.ensures.ok.1, same)) c.text_of.ensures.ok

pub returns-in-Ok-clause-faulty : goal.returns-in-Ok-clause-faulty
returns-in-Ok-clause-faulty c = IfErr-weaker c.text_of.result _ _ (λ told. IfBytes-weaker told (λ place why. ⊥) _ (λ place why never. absurd never)) c.text_of.ensures.faulty
