use Rattle.std.proofs.Common.{◌≡◌, ℕ, List, [], arith, length, rules, subst}
use Rattle.std.proofs.lemmas.List.{nil_from_length}
use Rattle.base_words.specs.declared.note.Note.{Note}
use Rattle.text_feed.specs.Intakes.{Takes}
use Rattle.text_feed.proofs.FaultLemmas.{failed_read}
use Rattle.text_feed.proofs.TakeLemmas.{reads_none, takes_more, takes_none}
use Rattle.text_feed.proofs.turn.next_notes.Goals as goal

pub loop-init : goal.loop-init
loop-init g c = record {
  takes = takes_none g.S.Source.remaining c.args.actor c.args.before c.args.intake.now c.args.intake.now (reads_none g.S.Source.remaining c.args.intake.now);
  tried = omega arith;
}

pub returns-then-not-is_empty-clause-takes : goal.returns-then-not-is_empty-clause-takes
returns-then-not-is_empty-clause-takes g c =
    takes_more g.S.Source.remaining c.args.actor c.args.before c.args.intake.now c.loop.intake c.next_part.new.intake c.in-Ok-Some.notes.items
    c.loop.invariant.takes (rw c.in-Ok-Some.field-0-is at c.in-Ok-Some.ensures.takes)

pub returns-in-Ok-None-clause-takes : goal.returns-in-Ok-None-clause-takes
returns-in-Ok-None-clause-takes g c =
    takes_more g.S.Source.remaining c.args.actor c.args.before c.args.intake.now c.loop.intake c.next_part.new.intake []
    c.loop.invariant.takes (rw c.in-Ok-None.field-0-is at c.in-Ok-None.ensures.takes)

pub returns-in-Err-clause-takes : goal.returns-in-Err-clause-takes
returns-in-Err-clause-takes g c =
    takes_more g.S.Source.remaining c.args.actor c.args.before c.args.intake.now c.loop.intake c.next_part.new.intake [] c.loop.invariant.takes c.in-Err.ensures.takes

pub returns-in-Err-clause-failed : goal.returns-in-Err-clause-failed
returns-in-Err-clause-failed g c =
    failed_read g.S.Source.tries g.S.Source.interrupts g.S.Source.fails c.args.intake.now.source c.loop.intake.source c.next_part.new.intake.source c.in-Err.error
    c.loop.invariant.tried c.in-Err.ensures.failed

pub loop-preserved : goal.loop-preserved
loop-preserved g c =
    let notes = c.in-Ok-Some.notes.items in
    let none : length notes ≡ 0 = search rules in
    let intake = c.next_part.new.intake in
    let takes = rw c.in-Ok-Some.field-0-is at c.in-Ok-Some.ensures.takes in
    record {
      takes =
          takes_more g.S.Source.remaining c.args.actor c.args.before c.args.intake.now c.loop.intake intake [] c.loop.invariant.takes
          (subst (λ (found : List (Note ℕ)). Takes g.S.Source.remaining c.args.actor c.args.before c.loop.intake found intake) (nil_from_length notes none) takes);
      tried = omega (arith, c.loop.invariant.tried, c.next_part.ensures.tried);
    }
