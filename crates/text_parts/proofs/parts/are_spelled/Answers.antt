use Rattle.std.proofs.Common.{ℕ, IsTrue, rules, subst, sym}
use Rattle.std.specs.Prelude.{All}
use Rattle.std.proofs.lemmas.List.{take_all}
use Rattle.std.proofs.lemmas.List.Elements.{All-get_or, All-more}
use Rattle.base_words.specs.Spelled.{IsSpelledNote}
use Rattle.note_journal.specs.Writers.{terms_seen}
use Rattle.text_parts.proofs.parts.are_spelled.Goals as goal

pub loop-note-preserved : goal.loop-note-preserved
loop-note-preserved c =
    let P = IsSpelledNote {T = ℕ} (terms_seen c.args.writer) in
    All-more P c.args.notes.now c.loop-note.note-index c.note-item.result c.loop-note-test.true c.loop-note.invariant (subst P c.note-item.is (c.is_spelled_note.ensures.0 (search rules)))

pub returns-then-not-is_spelled_note : goal.returns-then-not-is_spelled_note
returns-then-not-is_spelled_note c =
    let P = IsSpelledNote {T = ℕ} (terms_seen c.args.writer) in (
      λ no. absurd (search rules),
      λ all. subst IsTrue c.if-not-is_spelled_note.true (c.is_spelled_note.ensures.1 (subst P (sym c.note-item.is) (All-get_or P c.args.notes.now c.loop-note.note-index c.note-item.result c.loop-note-test.true all))),
    )

pub returns : goal.returns
returns c =
    let P = IsSpelledNote {T = ℕ} (terms_seen c.args.writer) in
    (λ yes. subst (All P) (take_all c.loop-note.note-index c.args.notes.now c.loop-note-test.false) c.loop-note.invariant, λ all. search rules)
