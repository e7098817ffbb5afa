use Rattle.std.proofs.Common.{inl, refl, rules}
use Rattle.fairview.proofs.show.Goals as goal

pub returns-in-None : goal.returns-in-None
returns-in-None g c = rw c.in-None.is (search rules)

pub returns-in-Ok : goal.returns-in-Ok
returns-in-Ok g c = rw c.in-Some.is (inl (c.in-Ok.source, c.view_text-in-Ok.new.source, search rules), refl)
