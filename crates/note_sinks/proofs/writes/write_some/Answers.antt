use Rattle.std.proofs.Common.{◌≡◌, inr, subst, arith}
use Rattle.text_bytes.specs.Tries.{AreInterrupted}
use Rattle.note_sinks.proofs.writes.write_some.Goals as goal

pub returns-clause-failed : goal.returns-clause-failed
returns-clause-failed g c =
    let all : c.loop-i._i ≡ 1000 = omega arith in
    inr (subst (λ count. AreInterrupted g.W.ByteSink.tries g.W.ByteSink.interrupts count c.args.writer.now c.loop-i.writer) all c.loop-i.invariant.interrupted)
