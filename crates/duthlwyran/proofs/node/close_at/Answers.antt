use Rattle.duthlwyran.proofs.node.close_at.Goals as goal

pub returns : goal.returns
returns g c = record { answer = c.close_core-answer.result; closes = c.close_core-answer.ensures }
