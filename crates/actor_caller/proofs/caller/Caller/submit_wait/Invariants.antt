use Rattle.std.proofs.Common.{◌≡◌, Err}
use Rattle.base_words.specs.declared.order.SendError.TheVariants.{Full}
use Rattle.actor_caller.specs.declared.error.SubmitError.TheVariants.{Send}
use Rattle.actor_caller.specs.Sends.{SubmitsTo}
use Rattle.actor_caller.specs.Waiting.{Waits}
use Rattle.actor_caller.proofs.caller.Caller.submit_wait.Given as goal

abbrev pub invariant-loop : goal.invariant-loop
invariant-loop g l = record {
  same : l.order ≡ l.fn.order;
  waits : Waits (λ was tried. SubmitsTo 3 l.to l.fn.order was (Err (Send (Full l.fn.order))) tried) l.fn.self l.self;
}
