use Rattle.text_words.proofs.KnownLemmas.{Keeps-from_none, Keeps-chain}
use Rattle.text_words.proofs.steady.write_some.Goals as goal

pub returns-in-Ok-eq0-clause-err : goal.returns-in-Ok-eq0-clause-err
returns-in-Ok-eq0-clause-err g c =
    Keeps-chain _ _ _ c.loop-i.invariant (Keeps-from_none _ _ (rw c.in-Ok-eq0.field-0-test at c.in-Ok-eq0.ensures.bytes))
