use Rattle.actor_desk.proofs.Names.{sym, ◌∙◌, true≢false, eq-eqb, lt-ltb}
use Rattle.actor_desk.proofs.Redeemed.{foreign}
use Rattle.actor_desk.proofs.recorded_desk.RecordedDesk.knows.Goals as goal

pub returns-then-eq-clause-unknown : goal.returns-then-eq-clause-unknown
returns-then-eq-clause-unknown g c = λ past. foreign c.self.view_is c.self.invariant.0 (c.name.view_is ∙ c.name-name.ensures) (λ own there. true≢false (sym (lt-ltb _ _ there) ∙ past))

pub returns-else-eq-clause-unknown : goal.returns-else-eq-clause-unknown
returns-else-eq-clause-unknown g c = λ other. foreign c.self.view_is c.self.invariant.0 (c.name.view_is ∙ c.name-name.ensures) (λ own there. true≢false (sym (c.eq.ensures ∙ eq-eqb _ _ own) ∙ c.if-eq.false))
