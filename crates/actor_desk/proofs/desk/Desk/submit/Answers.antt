use Rattle.actor_desk.proofs.desk.Desk.submit.Goals as goal

-- a refused order is told as the end told it
pub returns-in-Err-clause-submits : goal.returns-in-Err-clause-submits
returns-in-Err-clause-submits g c = λ there. rw (← c.to.view_is) c.in-Err.ensures.submits
