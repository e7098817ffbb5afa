use Rattle.std.proofs.Common.{ℕ, rules, subst, IsTrue}
use Rattle.std.specs.Prelude.{All}
use Rattle.std.proofs.lemmas.List.Elements.{All-more}
use Rattle.std.proofs.lemmas.List.{take_all}
use Rattle.base_words.specs.Spelled as spec
use Rattle.note_journal.specs.Writers.{terms_seen}
use Rattle.note_journal.proofs.SpelledLemmas.{each_from_all, each_at}
use Rattle.note_journal.proofs.spelled.are_spelled.Goals as goal

pub loop-note-preserved : goal.loop-note-preserved
loop-note-preserved c =
    let P = spec.IsSpelledNote {T = ℕ} (terms_seen c.args.writer) in
    All-more P c.as_slice-note-items.result.now c.loop-note.note-index c.note-item.result c.loop-note-test.true c.loop-note.invariant
    (subst P c.note-item.is (c.is_spelled_note.ensures.0 (search rules)))

pub returns-then-not-is_spelled_note : goal.returns-then-not-is_spelled_note
returns-then-not-is_spelled_note c = (
  λ no. absurd (search rules),
  λ each. subst IsTrue c.if-not-is_spelled_note.true (c.is_spelled_note.ensures.1
      (each_at (spec.IsSpelledNote (terms_seen c.args.writer)) c.args.journal.now.notes
      c.as_slice-note-items.result.now c.loop-note.note-index c.note-item.result c.as_slice-note-items.ensures c.loop-note-test.true c.note-item.is each)),
)

pub returns : goal.returns
returns c =
    let P = spec.IsSpelledNote {T = ℕ} (terms_seen c.args.writer) in
    (λ yes. each_from_all P c.args.journal.now.notes (subst (All P) c.as_slice-note-items.ensures (subst (All P) (take_all c.loop-note.note-index c.as_slice-note-items.result.now c.loop-note-test.false) c.loop-note.invariant)), λ each. search rules)
