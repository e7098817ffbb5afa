-- So far bytes were read, and nothing else.
use Rattle.text_bytes.specs.Tries.{IsNoFewer}
use Rattle.text_feed.specs.Intakes.{Reads}
use Rattle.text_feed.proofs.turn.find_part.Given as goal

abbrev pub invariant-loop : goal.invariant-loop
invariant-loop g l = record {
  reads : Reads g.S.Source.remaining l.initial.intake l.intake;
  tried : IsNoFewer (g.S.Source.tries l.initial.intake.source) (g.S.Source.tries l.intake.source);
}
