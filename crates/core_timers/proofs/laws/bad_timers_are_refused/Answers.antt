use Rattle.core_timers.proofs.TimersRefused.{words_refuse, sets_refuses, going_refuses}
use Rattle.core_timers.proofs.laws.bad_timers_are_refused.Goals as goal

pub returns-clause-words : goal.returns-clause-words
returns-clause-words c = words_refuse

pub returns-clause-sets : goal.returns-clause-sets
returns-clause-sets c = sets_refuses

pub returns-clause-going : goal.returns-clause-going
returns-clause-going c = going_refuses
