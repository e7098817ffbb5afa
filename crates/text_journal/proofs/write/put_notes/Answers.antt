use Rattle.std.proofs.Common.{sym, ◌+◌, subst, ap, ◌∙◌}
use Rattle.std.specs.Prelude.{string_bytes}
use Rattle.text_journal.specs.Pages.{Puts}
use Rattle.text_bytes.specs.Tries.{IsNoFewer}
use Rattle.text_bytes.proofs.TryLemmas.{no_fewer, failed_since}
use Rattle.text_journal.proofs.PageLemmas.{puts_more, puts_out, front_now, front_of_page, OnErr-any}
use Rattle.text_journal.proofs.LineLemmas.{front_text, actor_text_split, actor_text_whole, front_text_more}
use Rattle.text_journal.proofs.TryLemmas.{known_unwritten}
use Rattle.text_journal.proofs.write.put_notes.Goals as goal
use Rattle.text_journal.proofs.write.put_notes.Goals.{then-len-ge-FULL+in_ok-write_page, else-len-ge-FULL}

pub returns-in_err-put_note-clause-err : goal.returns-in_err-put_note-clause-err
returns-in_err-put_note-clause-err g c =
    OnErr-any c.from_residual.result
    (front_now _ _ _ _ _ _ _ c.loop-note.invariant.puts (actor_text_split c.args.actor c.args.journal.now.notes c.as_slice-note-items.result.now c.loop-note.note-index c.as_slice-note-items.ensures))

pub returns-in_err-write_page-clause-err : goal.returns-in_err-write_page-clause-err
returns-in_err-write_page-clause-err g c =
    let notes = c.as_slice-note-items.result.now in
    let more = front_text_more c.args.actor notes c.loop-note.note-index c.note-item.result c.loop-note-test.true c.note-item.is in
    OnErr-any c.from_residual-in_err-write_page.result
    (front_of_page _ (string_bytes c.put_note.new.page) _ _ _ _ _ _
    (puts_more _ _ (string_bytes c.put_note.new.page) _ _ _ _ _ c.loop-note.invariant.puts c.in_ok-put_note.ensures more)
    c.in_err-write_page.ensures.err
    (actor_text_split c.args.actor c.args.journal.now.notes notes (c.loop-note.note-index + 1) c.as_slice-note-items.ensures))

pub returns-in_err-write_page-clause-failed : goal.returns-in_err-write_page-clause-failed
returns-in_err-write_page-clause-failed g c =
    known_unwritten c.from_residual-in_err-write_page.result
    (failed_since g.S.ByteSink.tries g.S.ByteSink.interrupts g.S.ByteSink.fails c.args.sink.now c.loop-note.sink c.write_page.new.sink c.loop-note.invariant.tried c.in_err-write_page.ensures.failed)

pub loop-note-preserved : goal.loop-note-preserved
loop-note-preserved g c =
    let notes = c.as_slice-note-items.result.now in
    let more = front_text_more c.args.actor notes c.loop-note.note-index c.note-item.result c.loop-note-test.true c.note-item.is in
    let puts = puts_more _ _ (string_bytes c.put_note.new.page) _ _ _ _ _ c.loop-note.invariant.puts c.in_ok-put_note.ensures more in
    let Put = Puts (string_bytes c.args.page.now) in
    let text = front_text c.args.actor notes (c.loop-note.note-index + 1) in
    elim c.if-len-ge-FULL.branch [
      | then-len-ge-FULL+in_ok-write_page w ↦ record {
        puts = subst (λ sink. Put (string_bytes c.if-len-ge-FULL.page) (g.S.ByteSink.contents c.args.sink.now) (g.S.ByteSink.contents sink) text) (sym w.sink-is)
            (puts_out _ _ (string_bytes c.if-len-ge-FULL.page) _ _ _ _ puts w.in_ok-write_page.ensures.ok (ap (λ page. string_bytes page) w.page-is ∙ w.in_ok-write_page.ensures.empty));
        tried = subst (λ sink. IsNoFewer (g.S.ByteSink.tries c.args.sink.now) (g.S.ByteSink.tries sink)) (sym w.sink-is)
            (no_fewer _ _ _ c.loop-note.invariant.tried w.write_page.ensures.tried);
      }
      | else-len-ge-FULL w ↦ record {
        puts = subst (λ sink. Put (string_bytes c.if-len-ge-FULL.page) (g.S.ByteSink.contents c.args.sink.now) (g.S.ByteSink.contents sink) text) (sym w.sink-is)
            (subst (λ page. Put (string_bytes page) (g.S.ByteSink.contents c.args.sink.now) (g.S.ByteSink.contents c.loop-note.sink) text) (sym w.page-is) puts);
        tried = subst (λ sink. IsNoFewer (g.S.ByteSink.tries c.args.sink.now) (g.S.ByteSink.tries sink)) (sym w.sink-is) c.loop-note.invariant.tried;
      }
    ]

pub returns-clause-ok : goal.returns-clause-ok
returns-clause-ok g c =
    subst (Puts (string_bytes c.args.page.now) (string_bytes c.loop-note.page) (g.S.ByteSink.contents c.args.sink.now) (g.S.ByteSink.contents c.loop-note.sink))
    (actor_text_whole c.args.actor c.args.journal.now.notes c.as_slice-note-items.result.now c.loop-note.note-index c.as_slice-note-items.ensures c.loop-note-test.false)
    c.loop-note.invariant.puts
