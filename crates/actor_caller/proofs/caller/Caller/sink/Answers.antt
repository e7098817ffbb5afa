use Rattle.std.proofs.Common.{◌≡◌, [], ◌∷◌, ◌++◌, length, subst}
use Rattle.std.specs.Prelude.{Some, slice_get}
use Rattle.link_ring.proofs.Windows.{slice_get-last}
use Rattle.actor_caller.proofs.caller.Caller.sink.Goals as goal

pub returns-clause-mark : goal.returns-clause-mark
returns-clause-mark g c =
    let team = g.H.Beside.team c.self.inside.house in
    subst (λ view. slice_get view.marks (length view.workers) ≡ Some (g.S.Sink.mark c.self.inside.sink)) c.self.view_is
    (subst (λ count. slice_get (team.marks ++ g.S.Sink.mark c.self.inside.sink ∷ []) count ≡ Some (g.S.Sink.mark c.self.inside.sink)) c.self.invariant.0.marks (slice_get-last team.marks (g.S.Sink.mark c.self.inside.sink)))
