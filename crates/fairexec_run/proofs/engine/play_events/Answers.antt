use Rattle.std.proofs.Common.{inl, sym, subst, refl, ◌∙◌}
use Rattle.std.proofs.KnownBytes.{Keeps-refl}
use Rattle.std.proofs.lemmas.Result.{on_ok_weaker, on_err_weaker}
use Rattle.fairexec_script.specs.Limits.{HasFewQueues}
use Rattle.fairexec_script.specs.Scripts.{drafted}
use Rattle.text_journal.proofs.PageLemmas.{OnErr-any}
use Rattle.fairexec_run.proofs.OpeningLemmas.{opened_roomy, opened_events, opened_as}
use Rattle.fairexec_run.proofs.PlayLemmas.{first_begun, events_printed, events_begun}
use Rattle.text_journal.proofs.TryLemmas.{call_unwritten_since}
use Rattle.fairexec_run.proofs.engine.play_events.Goals as goal

pub open_model-requires-clause-few : goal.open_model-requires-clause-few
open_model-requires-clause-few g c = subst HasFewQueues (sym c.as_slice.ensures.value) c.args.script.few

pub returns-in_err-model-clause-err : goal.returns-in_err-model-clause-err
returns-in_err-model-clause-err g c = OnErr-any c.from_residual.result (inl (Keeps-refl (g.S.ByteSink.contents c.args.sink.now)))

pub returns-in_err-page-clause-err : goal.returns-in_err-page-clause-err
returns-in_err-page-clause-err g c = OnErr-any c.from_residual-in_err-page.result (inl (Keeps-refl (g.S.ByteSink.contents c.args.sink.now)))

pub print_events-requires-clause-roomy : goal.print_events-requires-clause-roomy
print_events-requires-clause-roomy g c =
    opened_roomy _ _ _ _ _ c.in_ok-model.model (opened_as _ _ _ _ _ _ _ c.in_ok-model.model c.in_ok-model.ensures.ok (c.len.ensures ∙ c.args.script.events.ok.0) c.as_slice.ensures.value) c.args.script.sized c.args.script.bursts

pub print_events-requires-clause-there : goal.print_events-requires-clause-there
print_events-requires-clause-there g c = opened_events _ _ _ _ c.as_slice.result.now c.in_ok-model.model c.in_ok-model.ensures.ok c.args.script.events.items c.args.script.happen

pub returns-in_err-print_events-clause-err : goal.returns-in_err-print_events-clause-err
returns-in_err-print_events-clause-err g c =
    let opened = opened_as _ _ _ _ _ _ _ c.in_ok-model.model c.in_ok-model.ensures.ok (c.len.ensures ∙ c.args.script.events.ok.0) c.as_slice.ensures.value in
    OnErr-any c.from_residual-in_err-print_events.result
    (first_begun (drafted c.args.script) _ _ refl c.in_ok-model.model opened _ c.in_ok-page.ensures.bytes _ c.args.stats _ c.in_err-print_events.ensures.err)

pub returns-clause-ok : goal.returns-clause-ok
returns-clause-ok g c =
    let opened = opened_as _ _ _ _ _ _ _ c.in_ok-model.model c.in_ok-model.ensures.ok (c.len.ensures ∙ c.args.script.events.ok.0) c.as_slice.ensures.value in
    on_ok_weaker c.print_rear.result
    (
    events_printed (drafted c.args.script) _ _ refl c.in_ok-model.model opened _ c.in_ok-page.ensures.bytes (g.S.ByteSink.contents c.args.sink.now) c.print_events.new.model _ _ c.in_ok-print_events.ensures.ok c.complete.ensures c.joined.ensures c.sound.ensures
    c.args.stats (g.S.ByteSink.contents c.print_rear.new.sink)
    )
    c.print_rear.ensures.ok

pub returns-clause-err : goal.returns-clause-err
returns-clause-err g c =
    let opened = opened_as _ _ _ _ _ _ _ c.in_ok-model.model c.in_ok-model.ensures.ok (c.len.ensures ∙ c.args.script.events.ok.0) c.as_slice.ensures.value in
    on_err_weaker c.print_rear.result
    (
    events_begun (drafted c.args.script) _ _ refl c.in_ok-model.model opened _ c.in_ok-page.ensures.bytes (g.S.ByteSink.contents c.args.sink.now) c.print_events.new.model _ _ c.in_ok-print_events.ensures.ok c.complete.ensures c.joined.ensures c.sound.ensures
    c.args.stats (g.S.ByteSink.contents c.print_rear.new.sink)
    )
    c.print_rear.ensures.err

pub returns-clause-failed : goal.returns-clause-failed
returns-clause-failed g c =
    call_unwritten_since g.S.ByteSink.tries g.S.ByteSink.interrupts g.S.ByteSink.fails c.args.sink.now c.print_events.new.sink c.print_rear.new.sink c.print_rear.result c.print_events.ensures.tried c.print_rear.ensures.failed
