use Rattle.fair_parts.specs.Folders.{IsBytesOf}
use Rattle.fair_parts.proofs.folder.append_parts.Given as goal

abbrev pub invariant-loop-actor : goal.invariant-loop-actor
invariant-loop-actor g l = IsBytesOf g.R.File.Read.remaining l.bytes.items
