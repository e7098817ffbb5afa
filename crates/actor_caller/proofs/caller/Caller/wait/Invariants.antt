use Rattle.std.proofs.Common.{Err}
use Rattle.base_words.specs.declared.names.TicketError.TheVariants.{Pending}
use Rattle.link_ends.specs.Fits.{Fits}
use Rattle.actor_caller.specs.Tickets.{RedeemsHere}
use Rattle.actor_caller.specs.Waiting.{Waits}
use Rattle.actor_caller.proofs.caller.Caller.wait.Given as goal

abbrev pub invariant-loop : goal.invariant-loop
invariant-loop g l = Waits (λ was tried. RedeemsHere (Fits g.J.Task.meaning) l.ticket was (Err Pending) tried) l.fn.self l.self
