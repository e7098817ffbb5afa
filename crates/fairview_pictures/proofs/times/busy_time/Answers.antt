use Rattle.std.proofs.Common.{◌≡◌, ℕ, ◌<◌, length, sym, subst, arith}
use Rattle.base_words.specs.Journal.{Journal, at_place}
use Rattle.note_facts.specs.Accounts.{greatest_count}
use Rattle.judge_view.specs.Clocks.{clock_of}
use Rattle.judge_view.proofs.ClockSteps.{length-at_place}
use Rattle.fairview_marks.proofs.PollSteps.{clock_read}
use Rattle.fairview_pictures.proofs.times.busy_time.Goals as goal

pub loop-place-preserved : goal.loop-place-preserved
loop-place-preserved c =
    let notes = c.args.journal.now.notes in
    let before = at_place c.loop-place.place notes in
    let short : length before < greatest_count = omega (arith, length-at_place c.loop-place.place notes, c.len-place-end.ensures.value, c.len-place-end.ensures.limits) in
    subst (λ (journal : Journal ℕ). c.add.new.self ≡ clock_of journal) (sym c.note_at.ensures)
    (clock_read c.loop-place.clock c.add.new.self c.note_at.result before short c.add.ensures c.loop-place.invariant)
