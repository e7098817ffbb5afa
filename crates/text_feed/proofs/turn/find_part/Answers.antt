use Rattle.text_feed.proofs.FaultLemmas.{failed_read}
use Rattle.text_feed.proofs.TakeLemmas.{reads_more}
use Rattle.text_feed.proofs.turn.find_part.Goals as goal

pub returns-in-Ok-false-clause-reads : goal.returns-in-Ok-false-clause-reads
returns-in-Ok-false-clause-reads g c =
    reads_more g.S.Source.remaining c.args.intake.now c.loop.intake c.read_more.new.self c.loop.invariant.reads c.read_more.ensures.reads

pub returns-in-Err-clause-failed : goal.returns-in-Err-clause-failed
returns-in-Err-clause-failed g c =
    failed_read g.S.Source.tries g.S.Source.interrupts g.S.Source.fails c.args.intake.now.source c.loop.intake.source c.read_more.new.self.source c.in-Err.error
    c.loop.invariant.tried c.in-Err.ensures.failed
