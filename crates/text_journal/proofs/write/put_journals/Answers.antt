use Rattle.std.proofs.Common.{arith, subst}
use Rattle.std.specs.Prelude.{string_bytes}
use Rattle.std.proofs.lemmas.Result.{err_from_is_err_and}
use Rattle.text_journal.specs.Pages.{Puts}
use Rattle.text_bytes.proofs.TryLemmas.{no_fewer}
use Rattle.text_journal.proofs.PageLemmas.{puts_then, front_then, OnErr-any}
use Rattle.text_journal.proofs.LineLemmas.{journals_text_whole, journals_text_next, front_journals_more}
use Rattle.text_journal.proofs.TryLemmas.{unwritten_since}
use Rattle.text_journal.proofs.write.put_journals.Goals as goal

pub returns-in_err-put_notes-clause-err : goal.returns-in_err-put_notes-clause-err
returns-in_err-put_notes-clause-err g c =
    let count = c.cores-actor-end.ensures in
    OnErr-any c.from_residual.result
    (front_then _ _ _ _ _ _ _ _ _ c.loop-actor.invariant.puts c.in_err-put_notes.ensures.err
    (journals_text_next c.args.assembly.now c.loop-actor.actor c.journal.result.now.notes (omega arith) c.journal.ensures))

pub returns-in_err-put_notes-clause-failed : goal.returns-in_err-put_notes-clause-failed
returns-in_err-put_notes-clause-failed g c =
    let failed = unwritten_since g.S.ByteSink.tries g.S.ByteSink.interrupts g.S.ByteSink.fails c.args.sink.now c.loop-actor.sink c.put_notes.new.sink c.in_err-put_notes.field-0.0 c.loop-actor.invariant.tried c.in_err-put_notes.ensures.failed in
    let told = err_from_is_err_and c.from_residual.result c.from_residual.ensures.1 in
    rw (told.1, told.2) failed

pub loop-actor-preserved : goal.loop-actor-preserved
loop-actor-preserved g c =
    let count = c.cores-actor-end.ensures in
    record {
      puts = puts_then _ _ _ _ _ _ _ _ _ c.loop-actor.invariant.puts c.in_ok-put_notes.ensures.ok
          (front_journals_more c.args.assembly.now c.loop-actor.actor c.journal.result.now.notes (omega arith) c.journal.ensures);
      tried = no_fewer _ _ _ c.loop-actor.invariant.tried c.put_notes.ensures.tried;
    }

pub returns-clause-ok : goal.returns-clause-ok
returns-clause-ok g c =
    let count = c.cores-actor-end.ensures in
    subst (Puts (string_bytes c.args.page.now) (string_bytes c.loop-actor.page) (g.S.ByteSink.contents c.args.sink.now) (g.S.ByteSink.contents c.loop-actor.sink))
    (journals_text_whole c.args.assembly.now.journals c.loop-actor.actor (omega arith))
    c.loop-actor.invariant.puts
