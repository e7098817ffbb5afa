use Rattle.std.proofs.Common.{◌≡◌, inr, subst, arith}
use Rattle.text_bytes.specs.Tries.{AreInterrupted}
use Rattle.text_bytes.proofs.steady.write_some.Goals as goal

pub returns-clause-failed : goal.returns-clause-failed
returns-clause-failed g c =
    let all : c.loop-i._i ≡ 1000 = omega arith in
    inr (subst (λ count. AreInterrupted g.S.ByteSink.tries g.S.ByteSink.interrupts count c.args.sink.now c.loop-i.sink) all c.loop-i.invariant.interrupted)
