use Rattle.std.proofs.Common.{◌≡◌, ℕ, ◌<◌, length, sym, subst, ap, ◌++◌, ◌∙◌, arith, append-nil, string_bytes}
use Rattle.base_words.specs.Journal.{Journal, at_place}
use Rattle.note_facts.specs.Accounts.{greatest_count}
use Rattle.note_facts.proofs.Walks.{at_start, whole_walk}
use Rattle.judge_view.specs.Stories.{KnowsStory, chapters}
use Rattle.judge_view.proofs.ClockSteps.{length-at_place}
use Rattle.fairview_report.specs.StoryTexts.{chapter_if, chapters_text}
use Rattle.fairview_report.proofs.StoryLemmas.{chapter_put}
use Rattle.fairview_report.proofs.story.put_chapters.Goals as goal

pub loop-place-init : goal.loop-place-init
loop-place-init c =
    let start = sym (at_start c.args.journal.now.notes) in
    record {
      put = sym (append-nil (string_bytes c.args.page.now)) ∙ ap (λ notes. string_bytes c.args.page.now ++ chapters_text c.args.teller (chapters c.args.part c.args.name.now notes)) start;
      knows = subst (λ (notes : Journal ℕ). KnowsStory c.args.part c.args.name.now c.new-walk.result notes) start c.new-walk.ensures;
    }

pub loop-place-preserved : goal.loop-place-preserved
loop-place-preserved c =
    let notes = c.args.journal.now.notes in
    let before = at_place c.loop-place.place notes in
    let short : length before < greatest_count = omega (arith, length-at_place c.loop-place.place notes, c.len-place-end.ensures.value, c.len-place-end.ensures.limits) in
    let read = c.add.ensures c.args.part c.args.name.now before short c.loop-place.invariant.knows in
    let same = sym c.note_at-note.ensures in
    record {
      put =
          chapter_put c.args.teller c.args.part c.args.name.now c.note_at-note.result before (string_bytes c.args.page.now) (string_bytes c.loop-place.page) (string_bytes c.put_chapter.new.page)
          c.loop-place.invariant.put (c.in_ok-put_chapter.ensures ∙ ap (λ chapter. string_bytes c.loop-place.page ++ chapter_if c.args.teller chapter) read.told)
          ∙ ap (λ notes. string_bytes c.args.page.now ++ chapters_text c.args.teller (chapters c.args.part c.args.name.now notes)) same;
      knows = subst (λ (notes : Journal ℕ). KnowsStory c.args.part c.args.name.now c.add.new.self notes) same read.knows;
    }

pub returns : goal.returns
returns c =
    whole_walk (λ (journal : Journal ℕ). string_bytes c.loop-place.page ≡ string_bytes c.args.page.now ++ chapters_text c.args.teller (chapters c.args.part c.args.name.now journal))
    c.args.journal.now.notes c.loop-place.place (omega arith) c.loop-place.invariant.put
