-- So far parts with no note were taken.
use Rattle.std.proofs.Common.{[]}
use Rattle.text_bytes.specs.Tries.{IsNoFewer}
use Rattle.text_feed.specs.Intakes.{Takes}
use Rattle.text_feed.proofs.turn.next_notes.Given as goal

abbrev pub invariant-loop : goal.invariant-loop
invariant-loop g l = record {
  takes : Takes g.S.Source.remaining l.actor l.before l.initial.intake [] l.intake;
  tried : IsNoFewer (g.S.Source.tries l.initial.intake.source) (g.S.Source.tries l.intake.source);
}
