use Rattle.std.proofs.Common.{◌≡◌, refl, subst}
use Rattle.link_ends.specs.Fits.{Fits}
use Rattle.actor_caller.specs.State.{RuntimeView}
use Rattle.actor_caller.specs.Stored.{IsRuntime, view_of}
use Rattle.actor_caller.proofs.caller.Caller.into_parts.Goals as goal

pub returns-clause-is : goal.returns-clause-is
returns-clause-is g c =
    subst (λ (view : RuntimeView _ _). view_of g.S.Sink.asks g.S.Sink.mark c.self.inside.outside view.closing (g.H.Beside.team c.self.inside.house) view.room view.rung view.refused c.self.inside.sink c.self.inside.watchers.items ≡ view) c.self.view_is refl

pub returns-clause-runtime : goal.returns-clause-runtime
returns-clause-runtime g c =
    subst (λ (view : RuntimeView _ _). IsRuntime (Fits g.J.Task.meaning)
    (view_of g.S.Sink.asks g.S.Sink.mark c.self.inside.outside view.closing (g.H.Beside.team c.self.inside.house) view.room view.rung view.refused c.self.inside.sink c.self.inside.watchers.items)) c.self.view_is c.self.invariant.1.runtime

pub returns-clause-passed : goal.returns-clause-passed
returns-clause-passed g c = c.self.invariant.1.has_passed

pub returns-clause-watched : goal.returns-clause-watched
returns-clause-watched g c = c.self.invariant.0
