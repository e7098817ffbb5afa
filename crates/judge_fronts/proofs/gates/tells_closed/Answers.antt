use Rattle.judge_fronts.proofs.gates.tells_closed.Goals as goal

pub returns-in-Gate : goal.returns-in-Gate
returns-in-Gate c = rw c.in-Gate.is c.shuts.ensures
