use Rattle.std.proofs.Common.{ℕ, ap, arith, length, length-append, subst, sym, take, ◌∙◌}
use Rattle.std.specs.Prelude.{reverse}
use Rattle.std.proofs.lemmas.List.{length-reverse, length-take}
use Rattle.base_words.specs.declared.note.Note.{Note}
use Rattle.text_journal.specs.Drafts.{Drafted}
use Rattle.text_journal.specs.Handed.{IsBegun}
use Rattle.text_parts.specs.Houses.{with_notes}
use Rattle.text_journal.specs.Passing.{with_handed}
use Rattle.text_parts.proofs.HouseLemmas.{handed_more}
use Rattle.text_parts.proofs.parts.take_notes.Goals as goal

pub hand-requires : goal.hand-requires
hand-requires g c =
    let so_far = take c.loop-note.note-index c.args.notes.now in
    let old = c.args.draft.now in
    let is = c.loop-note.invariant in
    let count = ap (λ (d : Drafted). length d.notes) is in
    let few = c.requires.few in
    record {
      part = subst IsBegun (sym (ap (λ (d : Drafted). d.part) is)) c.requires.begun;
      few = omega (arith, count, few, length-append (reverse so_far) old.notes, length-reverse so_far, length-take c.loop-note.note-index c.args.notes.now);
    }

pub loop-note-preserved : goal.loop-note-preserved
loop-note-preserved g c =
    let notes = c.args.notes.now in
    let i = c.loop-note.note-index in
    c.in-Ok.ensures.ok ∙ ap (with_handed c.note-item.result) c.loop-note.invariant
    ∙ ap (λ (note : Note ℕ). with_handed note (with_notes (take i notes) c.args.draft.now)) c.note-item.is ∙ handed_more c.args.draft.now notes i c.note-item.result c.loop-note-test.true
