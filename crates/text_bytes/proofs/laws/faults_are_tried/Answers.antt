use Rattle.text_bytes.proofs.LawLemmas.{faults_tried}
use Rattle.text_bytes.proofs.laws.faults_are_tried.Goals as goal

pub returns : goal.returns
returns g c = faults_tried g.S.ByteSink.tries g.S.ByteSink.interrupts g.S.ByteSink.fails
