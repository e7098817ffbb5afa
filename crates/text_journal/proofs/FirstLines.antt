-- The first two lines tell their numbers.
use Rattle.std.proofs.Common.{◌≡◌, ℕ, ◌==◌, [], ◌∷◌, Result, Ok, sym, ap, ◌∙◌}
use Rattle.std.specs.List.{slice_split}
use Rattle.base_words.specs.Assembly.{Assembly}
use Rattle.base_words.specs.Spelled.{IsWithinLimits}
use Rattle.text_words.specs.Words.{first, second}
use Rattle.text_journal.specs.Texts.{form_line, size_line, head_of}
use Rattle.text_journal.specs.declared.fault.JournalCause.{JournalCause}
use Rattle.text_journal.specs.Drafts.{Drafted, empty_draft, judged}
use Rattle.text_journal.specs.ReadLaws.{FirstLinesTell}
use Rattle.text_journal.proofs.HeadLines.{least_burst, form_taken, size_taken, head_feedless}
use Rattle.text_journal.proofs.Raising.{drafted}
use Rattle.text_journal.proofs.ReadBack.{split_lines}
use Rattle.text_journal.proofs.ReadTexts.{sized}

-- the two lines
told_lines : (assembly : Assembly ℕ) → IsWithinLimits assembly.cores assembly.cap assembly.burst →
    slice_split (λ byte. byte == 10) (head_of assembly.cores assembly.cap assembly.burst) ≡ form_line assembly.burst ∷ size_line assembly.cores assembly.cap assembly.burst ∷ [] ∷ []
unfolding head_of
told_lines assembly limits =
    let heads = head_feedless assembly.cores assembly.cap assembly.burst limits in
    split_lines (form_line assembly.burst ∷ size_line assembly.cores assembly.cap assembly.burst ∷ []) (heads.0, (heads.1, tt))

same_draft : (draft also : Drafted) → ◌≡◌ {A = Result Drafted JournalCause} (Ok draft) (Ok also) → draft ≡ also
same_draft draft also told = cc

pub lines_tell : FirstLinesTell
lines_tell one other spelled also same =
    let lines = sym (told_lines one spelled.limits) ∙ ap (slice_split (λ byte. byte == 10)) same ∙ told_lines other also.limits in
    let forms : ◌≡◌ {A = Drafted} (sized (least_burst one.burst)) (sized (least_burst other.burst)) =
    same_draft (sized (least_burst one.burst)) (sized (least_burst other.burst)) (sym (form_taken one.burst) ∙ ap (λ ws. judged empty_draft (first ws)) lines ∙ form_taken other.burst) in
    let sizes : ◌≡◌ {A = Drafted} (drafted one.cores one.cap one.burst [] []) (drafted other.cores other.cap other.burst [] []) =
    same_draft (drafted one.cores one.cap one.burst [] []) (drafted other.cores other.cap other.burst [] [])
    (sym (size_taken one.cores one.cap one.burst spelled.limits)
    ∙ ap (λ draft. judged draft (size_line one.cores one.cap one.burst)) forms
    ∙ ap (λ ws. judged (sized (least_burst other.burst)) (second ws)) lines
    ∙ size_taken other.cores other.cap other.burst also.limits) in
    (ap (λ (draft : Drafted). draft.cores) sizes, ap (λ (draft : Drafted). draft.cap) sizes, ap (λ (draft : Drafted). draft.burst) sizes)
