-- What the links between all actors end as, where one of them was lent.
use Rattle.std.specs.Prelude.{ℕ, List}
use Rattle.std.specs.Borrow.{Lends, MutBor, Fml, u64}
use denote.RattleType.{RattleType}
use Rattle.base_jobs.specs.declared.job.Task.{Ghosts}
use Rattle.link_ends.specs.contracts.plain.PlainLink as link
use Rattle.link_ends.specs.declared.plain.Whole.{Whole}
use Rattle.model_world.specs.contracts.links.Links as rows
use Rattle.model_world.specs.Links.{with_link}

-- the links end with the last one behind `lent` in its place
abbrev pub LendsLink : (J L : RattleType) → (task : Ghosts J.Denot ℕ L.Denot) → MutBor (List (List (Whole J.Denot ℕ))) → ℕ → ℕ → MutBor (Whole J.Denot ℕ) → Fml
LendsLink J L task links sender core lent = Lends (rows.the_row J L task) (link.the_row J u64 L task) links lent (with_link links.now sender core)
