use Rattle.actor_core.proofs.PollsRefused.{polls_refused, one_is_owed}
use Rattle.actor_core.proofs.RefusalsCounted.{refusals_counted}
use Rattle.actor_core.proofs.TurnsRefused.{further_polls_counted}
use Rattle.actor_core.proofs.laws.bad_polls_are_refused.Goals as goal

pub returns-clause-refused : goal.returns-clause-refused
returns-clause-refused c = polls_refused

pub returns-clause-owed : goal.returns-clause-owed
returns-clause-owed c = one_is_owed

pub returns-clause-counted : goal.returns-clause-counted
returns-clause-counted c = refusals_counted

pub returns-clause-further : goal.returns-clause-further
returns-clause-further c = further_polls_counted
