use Rattle.std.proofs.Common.{subst}
use Rattle.std.specs.Prelude.{Some, None}
use Rattle.actor_caller.specs.Closings.{IsFirstOpenOf}
use Rattle.actor_caller.proofs.Opened.{all_closed, first_open_of}
use Rattle.actor_caller.proofs.caller.Caller.first_open.Goals as goal

pub returns-in-Some : goal.returns-in-Some
returns-in-Some g c =
    first_open_of _ c.args.self.now c.in-Some.core c.self.view_is c.self.invariant.1.runtime (subst (λ closing. IsFirstOpenOf closing (Some c.in-Some.core)) c.as_slice.ensures c.in-Some.ensures)

pub returns-in-None : goal.returns-in-None
returns-in-None g c = all_closed _ c.args.self.now c.self.view_is c.self.invariant.1.runtime (subst (λ closing. IsFirstOpenOf closing None) c.as_slice.ensures c.in-None.ensures)
