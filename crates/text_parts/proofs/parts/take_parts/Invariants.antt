-- The parts so far were taken, and the rest is left.
use Rattle.std.proofs.Common.{◌≤◌, List, length}
use Rattle.text_journal.specs.Handed.{IsBegun}
use Rattle.text_parts.specs.Houses.{MakeDraft}
use Rattle.text_parts.specs.Parts.{PartView}
use Rattle.text_parts.proofs.parts.take_parts.Given as goal

abbrev pub invariant-loop-rest : goal.invariant-loop-rest
invariant-loop-rest g l = record {
  begun : IsBegun l.draft.part;
  last : length l.rest ≤ l.size;
  made : (parts : List PartView) × MakeDraft parts l.fn.draft l.bytes l.draft l.rest;
}

abbrev pub decreases-loop-rest : goal.decreases-loop-rest
decreases-loop-rest g l = length l.rest
