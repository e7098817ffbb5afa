use Rattle.run_worker.proofs.Names.{drop}
use Rattle.std.specs.Prelude.{All}
use Rattle.run_worker.specs.Timing.{IsSilent}
use Rattle.run_worker.proofs.sleeping.nobody_hears.Given as goal

abbrev pub invariant-loop-note : goal.invariant-loop-note
invariant-loop-note l = All IsSilent (drop l.note-index l.notes) → All IsSilent l.fn.notes
