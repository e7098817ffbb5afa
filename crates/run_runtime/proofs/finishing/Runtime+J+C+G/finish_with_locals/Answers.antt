use Rattle.std.proofs.Common.{◌≡◌, ◌<◌, ℕ, refl, subst}
use Rattle.std.specs.Prelude.{true}
use Rattle.actor_caller.specs.Closings.{IsFirstOpen}
use Rattle.actor_caller.specs.State.{closing_at}
use Rattle.run_runtime.proofs.WholeJournals.{finished_whole}
use Rattle.run_runtime.proofs.finishing.Runtime+J+C+G.finish_with_locals.Goals as goal

pub returns-in-Some-clause-finishes : goal.returns-in-Some-clause-finishes
returns-in-Some-clause-finishes g c = (subst (IsFirstOpen c.in-Some.core) c.self.view_is c.in-Some.ensures, refl)

pub end-passed-requires : goal.end-passed-requires
end-passed-requires g c = subst (λ view. (core : ℕ) → core < view.desk.cores → closing_at core view ≡ true) c.self.view_is c.in-None.ensures

pub returns-in-None-clause-finishes : goal.returns-in-None-clause-finishes
returns-in-None-clause-finishes g c = finished_whole g.J.Task.meaning _ _ (λ sink count told. told) c.args.self c.end-passed.result.0 c.whole_assembly.result c.whole_assembly.ensures c.end-passed.ensures.passed
