use Rattle.std.proofs.Common.{◌≡◌, ◌++◌, ℕ, sym, subst, string_bytes, arith}
use Rattle.base_words.specs.Journal.{Journal, at_place}
use Rattle.note_facts.proofs.Walks.{at_start, whole_walk}
use Rattle.fairexec_report.specs.Outcomes.{lines_told, line_told}
use Rattle.fairexec_report.proofs.TextLemmas.{before_notes, after_note}
use Rattle.fairexec_report.proofs.outcome_text.put_core.Goals as goal

pub loop-place-init : goal.loop-place-init
loop-place-init c = λ assembly knows. rw (at_start c.args.sent.now.notes) (before_notes assembly c.args.core (string_bytes c.args.page.now))

pub loop-place-preserved : goal.loop-place-preserved
loop-place-preserved c =
    λ assembly knows.
    subst (λ (journal : Journal ℕ). string_bytes c.put_line.new.page ≡ string_bytes c.args.page.now ++ lines_told assembly c.args.core journal) (sym c.note_at-note.ensures)
    (after_note assembly c.args.core c.note_at-note.result (at_place c.loop-place.place c.args.sent.now.notes) _ _ _ (c.loop-place.invariant assembly knows)
    (subst (λ name. string_bytes c.put_line.new.page ≡ string_bytes c.loop-place.page ++ line_told assembly name) c.name_sent.ensures (c.in_ok-put_line.ensures assembly knows)))

pub returns : goal.returns
returns c =
    λ assembly knows.
    whole_walk (λ journal. string_bytes c.loop-place.page ≡ string_bytes c.args.page.now ++ lines_told assembly c.args.core journal) c.args.sent.now.notes c.loop-place.place (omega arith)
    (c.loop-place.invariant assembly knows)
