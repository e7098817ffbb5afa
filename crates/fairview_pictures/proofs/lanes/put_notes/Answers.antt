use Rattle.std.proofs.Common.{◌≡◌, ◌++◌, ℕ, ◌<◌, length, sym, subst, string_bytes, arith}
use Rattle.base_words.specs.Journal.{Journal, at_place}
use Rattle.note_facts.specs.Accounts.{greatest_count}
use Rattle.note_facts.proofs.Walks.{at_start, whole_walk}
use Rattle.judge_view.proofs.ClockSteps.{length-at_place}
use Rattle.fairview_marks.specs.Bars.{KnowsPolls}
use Rattle.fairview_pictures.specs.Gantts.{notes_text}
use Rattle.fairview_pictures.proofs.GanttLemmas.{before_notes, after_note}
use Rattle.fairview_pictures.proofs.lanes.put_notes.Goals as goal

pub loop-place-init : goal.loop-place-init
loop-place-init c = record {
  polls = subst (λ (journal : Journal ℕ). KnowsPolls c.new-polls.result journal) (sym (at_start c.args.journal.now.notes)) c.new-polls.ensures;
  put = rw (at_start c.args.journal.now.notes) (before_notes c.args.frame.now (string_bytes c.args.page.now));
}

pub loop-place-preserved : goal.loop-place-preserved
loop-place-preserved c =
    let notes = c.args.journal.now.notes in
    let before = at_place c.loop-place.place notes in
    let short : length before < greatest_count = omega (arith, length-at_place c.loop-place.place notes, c.len-place-end.ensures.value, c.len-place-end.ensures.limits) in
    record {
      polls = subst (λ (journal : Journal ℕ). KnowsPolls c.add.new.self journal) (sym c.note_at-note.ensures) (c.in_ok-add.ensures.knows before short c.loop-place.invariant.polls);
      put =
          subst (λ (journal : Journal ℕ). string_bytes c.put_note.new.page ≡ string_bytes c.args.page.now ++ notes_text c.args.frame.now journal) (sym c.note_at-note.ensures)
          (after_note c.args.frame.now c.note_at-note.result before _ _ _ c.loop-place.invariant.put (c.in_ok-put_note.ensures before c.loop-place.invariant.polls));
    }

pub returns : goal.returns
returns c =
    whole_walk (λ journal. string_bytes c.loop-place.page ≡ string_bytes c.args.page.now ++ notes_text c.args.frame.now journal) c.args.journal.now.notes c.loop-place.place
    (omega arith) c.loop-place.invariant.put
