use Rattle.std.proofs.Common.{◌≡◌, ℕ, ◌<◌, length, sym, subst, ◌∙◌, refl, arith}
use Rattle.base_words.specs.Journal.{Journal, at_place}
use Rattle.note_facts.specs.Accounts.{greatest_count}
use Rattle.note_facts.proofs.Walks.{at_start, whole_walk}
use Rattle.judge_view.specs.Clocks.{clock_of}
use Rattle.judge_view.proofs.ClockSteps.{length-at_place}
use Rattle.fairview_marks.proofs.PollSteps.{clock_read}
use Rattle.fairview_pictures.specs.Cuts.{time_before, time_reached}
use Rattle.fairview_pictures.proofs.cut.time_before.Goals as goal

pub loop-place-init : goal.loop-place-init
loop-place-init c = record {
  clock = rw (at_start c.args.journal.now.notes) c.new-clock.ensures;
  time = rw (at_start c.args.journal.now.notes) refl;
}

pub loop-place-preserved : goal.loop-place-preserved
loop-place-preserved c =
    let notes = c.args.journal.now.notes in
    let before = at_place c.loop-place.place notes in
    let short : length before < greatest_count = omega (arith, length-at_place c.loop-place.place notes, c.len-place-end.ensures.value, c.len-place-end.ensures.limits) in
    let clock = clock_read c.loop-place.clock c.add.new.self c.note_at.result before short c.add.ensures c.loop-place.invariant.clock in
    record {
      clock = subst (λ (journal : Journal ℕ). c.add.new.self ≡ clock_of journal) (sym c.note_at.ensures) clock;
      time =
          subst (λ (journal : Journal ℕ). c.time_reached-time.result ≡ time_before c.args.turn journal) (sym c.note_at.ensures)
          (c.time_reached-time.ensures ∙ (λ i. time_reached (clock i) c.args.turn (c.loop-place.invariant.time i)));
    }

pub returns : goal.returns
returns c = whole_walk (λ journal. c.loop-place.time ≡ time_before c.args.turn journal) c.args.journal.now.notes c.loop-place.place (omega arith) c.loop-place.invariant.time
