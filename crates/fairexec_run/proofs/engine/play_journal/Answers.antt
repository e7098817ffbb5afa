use Rattle.std.proofs.Common.{inl, sym, subst, refl, ◌∙◌}
use Rattle.std.proofs.KnownBytes.{Keeps-refl}
use Rattle.std.proofs.lemmas.Result.{on_ok_weaker, on_err_weaker}
use Rattle.fairexec_script.specs.Limits.{HasFewQueues}
use Rattle.fairexec_script.specs.Scripts.{drafted}
use Rattle.text_journal.proofs.PageLemmas.{OnErr-any}
use Rattle.fairexec_run.specs.Transcripts.{RunsOf}
use Rattle.fairexec_run.proofs.EventLimits.{AreReady, are_ready}
use Rattle.fairexec_run.proofs.OpeningLemmas.{opened_as}
use Rattle.fairexec_run.proofs.RunLemmas.{run_spelled}
use Rattle.fairexec_run.proofs.PlayLemmas.{journal_first, journal_printed, journal_begun}
use Rattle.text_journal.proofs.TryLemmas.{call_unwritten_since}
use Rattle.fairexec_run.proofs.engine.play_journal.Goals as goal

pub open_model-requires-clause-few : goal.open_model-requires-clause-few
open_model-requires-clause-few g c = subst HasFewQueues (sym c.as_slice.ensures.value) c.args.script.few

pub returns-in_err-model-clause-err : goal.returns-in_err-model-clause-err
returns-in_err-model-clause-err g c = OnErr-any c.from_residual.result (inl (Keeps-refl (g.S.ByteSink.contents c.args.sink.now)))

pub returns-in_err-events-clause-err : goal.returns-in_err-events-clause-err
returns-in_err-events-clause-err g c = OnErr-any c.from_residual-in_err-events.result (inl (Keeps-refl (g.S.ByteSink.contents c.args.sink.now)))

pub returns-in_err-page-clause-err : goal.returns-in_err-page-clause-err
returns-in_err-page-clause-err g c = OnErr-any c.from_residual-in_err-page.result (inl (Keeps-refl (g.S.ByteSink.contents c.args.sink.now)))

pub run-assembly-requires-clause-unbegun : goal.run-assembly-requires-clause-unbegun
run-assembly-requires-clause-unbegun g c = c.in_ok-model.ensures.ok.may.unbegun

pub run-assembly-requires-clause-ready : goal.run-assembly-requires-clause-ready
run-assembly-requires-clause-ready g c = subst AreReady (sym c.in_ok-events.ensures.ok) (are_ready c.args.script.cores c.args.script.events.items c.args.script.happen)

pub print_journal-requires : goal.print_journal-requires
print_journal-requires g c = run_spelled _ _ _ _ _ c.in_ok-model.model c.in_ok-model.ensures.ok c.args.script.sized c.args.script.bursts _ c.run-assembly.result c.run-assembly.ensures.run c.run-assembly.ensures.joined

pub returns-in_err-print_journal-clause-err : goal.returns-in_err-print_journal-clause-err
returns-in_err-print_journal-clause-err g c =
    let opened = opened_as _ _ _ _ _ _ _ c.in_ok-model.model c.in_ok-model.ensures.ok (c.len.ensures ∙ c.args.script.events.ok.0) c.as_slice.ensures.value in
    let runs = subst (λ events. RunsOf events c.in_ok-model.model c.run-assembly.result) c.in_ok-events.ensures.ok c.run-assembly.ensures.run in
    let spelled = run_spelled _ _ _ _ _ c.in_ok-model.model c.in_ok-model.ensures.ok c.args.script.sized c.args.script.bursts _ c.run-assembly.result c.run-assembly.ensures.run c.run-assembly.ensures.joined in
    OnErr-any c.from_residual-in_err-print_journal.result
    (journal_first (drafted c.args.script) _ _ refl c.in_ok-model.model opened c.run-assembly.result runs spelled c.run-assembly.ensures.joined c.run-assembly.ensures.sound c.args.stats _ _ c.in_err-print_journal.ensures.err)

pub returns-clause-ok : goal.returns-clause-ok
returns-clause-ok g c =
    let opened = opened_as _ _ _ _ _ _ _ c.in_ok-model.model c.in_ok-model.ensures.ok (c.len.ensures ∙ c.args.script.events.ok.0) c.as_slice.ensures.value in
    let runs = subst (λ events. RunsOf events c.in_ok-model.model c.run-assembly.result) c.in_ok-events.ensures.ok c.run-assembly.ensures.run in
    let spelled = run_spelled _ _ _ _ _ c.in_ok-model.model c.in_ok-model.ensures.ok c.args.script.sized c.args.script.bursts _ c.run-assembly.result c.run-assembly.ensures.run c.run-assembly.ensures.joined in
    on_ok_weaker c.print_rear.result
    (
    journal_printed (drafted c.args.script) _ _ refl c.in_ok-model.model opened c.run-assembly.result runs spelled c.run-assembly.ensures.joined c.run-assembly.ensures.sound
    (g.S.ByteSink.contents c.args.sink.now) _ c.in_ok-print_journal.ensures.ok _ c.in_ok-page.ensures.bytes c.args.stats (g.S.ByteSink.contents c.print_rear.new.sink)
    )
    c.print_rear.ensures.ok

pub returns-clause-err : goal.returns-clause-err
returns-clause-err g c =
    let opened = opened_as _ _ _ _ _ _ _ c.in_ok-model.model c.in_ok-model.ensures.ok (c.len.ensures ∙ c.args.script.events.ok.0) c.as_slice.ensures.value in
    let runs = subst (λ events. RunsOf events c.in_ok-model.model c.run-assembly.result) c.in_ok-events.ensures.ok c.run-assembly.ensures.run in
    let spelled = run_spelled _ _ _ _ _ c.in_ok-model.model c.in_ok-model.ensures.ok c.args.script.sized c.args.script.bursts _ c.run-assembly.result c.run-assembly.ensures.run c.run-assembly.ensures.joined in
    on_err_weaker c.print_rear.result
    (
    journal_begun (drafted c.args.script) _ _ refl c.in_ok-model.model opened c.run-assembly.result runs spelled c.run-assembly.ensures.joined c.run-assembly.ensures.sound
    (g.S.ByteSink.contents c.args.sink.now) _ c.in_ok-print_journal.ensures.ok _ c.in_ok-page.ensures.bytes c.args.stats (g.S.ByteSink.contents c.print_rear.new.sink)
    )
    c.print_rear.ensures.err

pub returns-clause-failed : goal.returns-clause-failed
returns-clause-failed g c =
    call_unwritten_since g.S.ByteSink.tries g.S.ByteSink.interrupts g.S.ByteSink.fails c.args.sink.now c.print_journal.new.sink c.print_rear.new.sink c.print_rear.result c.print_journal.ensures.tried c.print_rear.ensures.failed
