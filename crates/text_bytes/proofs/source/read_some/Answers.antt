use Rattle.std.proofs.Common.{◌≡◌, inr, subst, arith}
use Rattle.text_bytes.specs.Tries.{AreInterrupted}
use Rattle.text_bytes.proofs.source.read_some.Goals as goal

pub returns-clause-failed : goal.returns-clause-failed
returns-clause-failed g c =
    let all : c.loop-i._i ≡ 1000 = omega arith in
    inr (subst (λ count. AreInterrupted g.S.Source.tries g.S.Source.interrupts count c.args.source.now c.loop-i.source) all c.loop-i.invariant.interrupted)
