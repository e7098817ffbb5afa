use Rattle.actor_desk.proofs.Names.{subst, Fits, IsLent}
use Rattle.actor_desk.specs.Lent.{LentView}
use Rattle.actor_desk.proofs.post.RecordedPost.into_parts.Goals as goal

pub returns-clause-lent : goal.returns-clause-lent
returns-clause-lent g c = subst (λ (post : LentView _ _ _). IsLent (Fits g.J.Task.meaning) g.O.OutEnd.out g.O.OutEnd.credited post.lent) c.self.view_is c.self.invariant
