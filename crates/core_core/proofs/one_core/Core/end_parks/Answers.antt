use Rattle.core_core.proofs.Names.{sym, ◌∙◌}
use Rattle.core_core.proofs.one_core.Core.end_parks.Goals as goal

pub has_work-requires : goal.has_work-requires
has_work-requires g c = c.requires.exists

pub unpark_busy-requires : goal.unpark_busy-requires
unpark_busy-requires g c = record { exists = c.requires.exists; work = sym c.has_work.ensures ∙ c.if-has_work.true }

pub unpark_idle-requires : goal.unpark_idle-requires
unpark_idle-requires g c = record { exists = c.requires.exists; idle = sym c.has_work.ensures ∙ c.if-has_work.false }
