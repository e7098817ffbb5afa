-- The lines of a story, one note after another.
use Rattle.std.proofs.Common.{◌≡◌, ℕ, List, [], ◌∷◌, ◌++◌, refl, sym, ap, ◌∙◌, append_assoc, append-nil}
use Rattle.std.specs.Prelude.{Option, Some, None, codes}
use Rattle.base_words.specs.declared.names.JobId.{JobId}
use Rattle.base_words.specs.declared.note.Note.{Note}
use Rattle.base_words.specs.Journal.{Journal, with_last}
use Rattle.judge_view.specs.Stories.{chapter_told, chapters}
use Rattle.judge_view.specs.declared.stories.Chapter.{Chapter}
use Rattle.judge_view.specs.declared.stories.Part.{Part}
use Rattle.fairview_report.specs.StoryTexts.{chapter_if, chapter_line, chapters_text}

-- the lines of some chapters and of one more
lines-append : (actor : ℕ) (told : List Chapter) (more : List Chapter) → chapters_text actor (told ++ more) ≡ chapters_text actor told ++ chapters_text actor more
lines-append actor [] more = refl
lines-append actor (chapter ∷ told) more =
    let line = chapter_line actor chapter ++ codes "\n" in
    ap (λ bytes. line ++ bytes) (lines-append actor told more) ∙ sym (append_assoc line (chapters_text actor told) (chapters_text actor more))

one_more : (actor : ℕ) (told : List Chapter) (last : Option Chapter) → chapters_text actor told ++ chapter_if actor last ≡ chapters_text actor (with_last told last)
one_more actor told None = append-nil (chapters_text actor told)
one_more actor told (Some chapter) =
    sym (lines-append actor told (chapter ∷ []) ∙ ap (λ bytes. chapters_text actor told ++ bytes) (append-nil (chapter_line actor chapter ++ codes "\n")))

pub chapter_put : (actor : ℕ) (part : Part) (name : JobId) (note : Note ℕ) (before : Journal ℕ) (start page new : List ℕ) →
    page ≡ start ++ chapters_text actor (chapters part name before) → new ≡ page ++ chapter_if actor (chapter_told part name (note ∷ before)) →
    new ≡ start ++ chapters_text actor (chapters part name (note ∷ before))
chapter_put actor part name note before start page new so_far put =
    let line = chapter_if actor (chapter_told part name (note ∷ before)) in
    let told = chapters part name before in
    put ∙ (ap (λ bytes. bytes ++ line) so_far ∙ (append_assoc start (chapters_text actor told) line
    ∙ ap (λ bytes. start ++ bytes) (one_more actor told (chapter_told part name (note ∷ before)))))
