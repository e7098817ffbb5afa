use Rattle.base_words.proofs.Prefixes.{IsPrefix-along}
use Rattle.text_parts.proofs.Puts.{note_put}
use Rattle.text_parts.proofs.part.put_notes.Goals as goal

pub returns-in_err-put_note-clause-front : goal.returns-in_err-put_note-clause-front
returns-in_err-put_note-clause-front c = IsPrefix-along _ _ _ (_, c.loop-note.invariant) c.put_note.ensures.front

pub returns-clause-front : goal.returns-clause-front
returns-clause-front c = (_, c.loop-note.invariant)

pub loop-note-preserved : goal.loop-note-preserved
loop-note-preserved c =
    note_put c.args.notes.now c.loop-note.note-index c.note-item.result c.args.out.now.items c.loop-note.out.items c.put_note.new.out.items c.loop-note-test.true c.note-item.is
    c.loop-note.invariant c.in_ok-put_note.ensures.bytes
