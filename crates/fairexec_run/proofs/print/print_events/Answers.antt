use Rattle.std.proofs.Common.{◌≡◌, ◌+◌, ◌-◌, ◌++◌, ◌∷◌, [], length, length-append, arith, sym, subst, ◌∙◌, string_bytes}
use Rattle.std.proofs.lemmas.Iterator.Adapters.{YieldsList-from_vec}
use Rattle.std.proofs.lemmas.Iterator.Consumers.{YieldsList-so_far, YieldsList-turn, YieldsList-end}
use Rattle.std.proofs.lemmas.List.{map-id}
use Rattle.text_journal.proofs.PageLemmas.{OnErr-any}
use Rattle.text_bytes.proofs.TryLemmas.{no_fewer, failed_since}
use Rattle.fairexec_script.specs.Limits.{IsEventOf}
use Rattle.fairexec_run.specs.Outputs.{WritesAll}
use Rattle.fairexec_run.proofs.EventTexts.{writes_more, writes_out, writes_first, page_first, left_over, left_after, roomy_more, roomy_here}
use Rattle.text_journal.proofs.TryLemmas.{known_unwritten}
use Rattle.fairexec_run.proofs.print.print_events.Goals as goal

pub print_event-requires : goal.print_event-requires
print_event-requires g c =
    let all = YieldsList-from_vec {s = c.into_iter-event-iterator.result} c.args.events.items c.into_iter-event-iterator.ensures.into_iter_gives.0 (c.into_iter-event-iterator.ensures.into_iter_gives.1 ∙ c.args.events.ok.0) in
    let turn = YieldsList-turn all c.loop-event.yielded c.loop-event.event-iterator c.loop-event.yielded_by _ c.next.new.self c.in-Some.event c.in-Some.is c.next.ensures.steps in
    let within = turn.0 in
    record {
      roomy = roomy_here _ _ _ _ (length c.args.events.items - length c.loop-event.yielded - 1) c.loop-event.model c.loop-event.invariant.roomy (omega arith);
      there = subst (λ cores. IsEventOf cores c.in-Some.event) (sym c.loop-event.invariant.roomy.cores_are) (subst (IsEventOf c.args.model.now.cores) (sym turn.1) (c.requires.there _ c.in-Some.event turn.0));
    }

pub loop-event-preserved-in-Continue-branch-2 : goal.loop-event-preserved-in-Continue-branch-2
loop-event-preserved-in-Continue-branch-2 g c =
    let all = YieldsList-from_vec {s = c.into_iter-event-iterator.result} c.args.events.items c.into_iter-event-iterator.ensures.into_iter_gives.0 (c.into_iter-event-iterator.ensures.into_iter_gives.1 ∙ c.args.events.ok.0) in
    let turn = YieldsList-turn all c.loop-event.yielded c.loop-event.event-iterator c.loop-event.yielded_by _ c.next.new.self c.in-Some.event c.in-Some.is c.next.ensures.steps in
    let within = turn.0 in
    let one = c.in_ok-print_event.ensures.ok in
    let count : length (c.loop-event.yielded ++ c.in-Some.event ∷ []) ≡ length c.loop-event.yielded + 1 = length-append c.loop-event.yielded (c.in-Some.event ∷ []) in
    let more = writes_more c.loop-event.yielded _ _ _ _ _ _ c.loop-event.invariant.writes c.in-Some.event _ _ one.0 one.1 one.2 in
    record {
      writes = writes_out _ _ _ _ _ _ _ more _ _ c.in_ok-print_page.ensures.ok c.in_ok-print_page.ensures.empty;
      roomy = roomy_more _ _ _ _ _ c.in-Some.event _ _ one.0 c.loop-event.invariant.roomy one.1 (omega arith);
      tried = no_fewer _ _ _ c.loop-event.invariant.tried c.print_page.ensures.tried;
    }

pub loop-event-preserved : goal.loop-event-preserved
loop-event-preserved g c =
    let all = YieldsList-from_vec {s = c.into_iter-event-iterator.result} c.args.events.items c.into_iter-event-iterator.ensures.into_iter_gives.0 (c.into_iter-event-iterator.ensures.into_iter_gives.1 ∙ c.args.events.ok.0) in
    let turn = YieldsList-turn all c.loop-event.yielded c.loop-event.event-iterator c.loop-event.yielded_by _ c.next.new.self c.in-Some.event c.in-Some.is c.next.ensures.steps in
    let within = turn.0 in
    let one = c.in_ok-print_event.ensures.ok in
    let count : length (c.loop-event.yielded ++ c.in-Some.event ∷ []) ≡ length c.loop-event.yielded + 1 = length-append c.loop-event.yielded (c.in-Some.event ∷ []) in
    record {
      writes = writes_more c.loop-event.yielded _ _ _ _ _ _ c.loop-event.invariant.writes c.in-Some.event _ _ one.0 one.1 one.2;
      roomy = roomy_more _ _ _ _ _ c.in-Some.event _ _ one.0 c.loop-event.invariant.roomy one.1 (omega arith);
      tried = c.loop-event.invariant.tried;
    }

pub returns-clause-ok : goal.returns-clause-ok
returns-clause-ok g c =
    let all = YieldsList-from_vec {s = c.into_iter-event-iterator.result} c.args.events.items c.into_iter-event-iterator.ensures.into_iter_gives.0 (c.into_iter-event-iterator.ensures.into_iter_gives.1 ∙ c.args.events.ok.0) in
    let end = YieldsList-end all c.loop-event.yielded c.loop-event.event-iterator c.loop-event.yielded_by _ c.next.new.self c.in-None.is c.next.ensures.steps in
    subst (λ events. WritesAll events c.args.model.now c.loop-event.model (string_bytes c.args.page.now) (string_bytes c.loop-event.page) (g.S.ByteSink.contents c.args.sink.now) (g.S.ByteSink.contents c.loop-event.sink)) (sym (map-id c.loop-event.yielded) ∙ end.0) c.loop-event.invariant.writes

pub returns-in_err-print_event-clause-err : goal.returns-in_err-print_event-clause-err
returns-in_err-print_event-clause-err g c =
    let all = YieldsList-from_vec {s = c.into_iter-event-iterator.result} c.args.events.items c.into_iter-event-iterator.ensures.into_iter_gives.0 (c.into_iter-event-iterator.ensures.into_iter_gives.1 ∙ c.args.events.ok.0) in
    let so_far = YieldsList-so_far all c.loop-event.yielded c.loop-event.event-iterator c.loop-event.yielded_by in
    OnErr-any c.from_residual.result (writes_first c.loop-event.yielded _ _ _ _ _ _ c.loop-event.invariant.writes c.args.events.items _ (left_over c.args.events.items c.loop-event.yielded so_far))

pub returns-in_err-print_page-clause-err : goal.returns-in_err-print_page-clause-err
returns-in_err-print_page-clause-err g c =
    let all = YieldsList-from_vec {s = c.into_iter-event-iterator.result} c.args.events.items c.into_iter-event-iterator.ensures.into_iter_gives.0 (c.into_iter-event-iterator.ensures.into_iter_gives.1 ∙ c.args.events.ok.0) in
    let so_far = YieldsList-so_far all c.loop-event.yielded c.loop-event.event-iterator c.loop-event.yielded_by in
    let turn = YieldsList-turn all c.loop-event.yielded c.loop-event.event-iterator c.loop-event.yielded_by _ c.next.new.self c.in-Some.event c.in-Some.is c.next.ensures.steps in
    let one = c.in_ok-print_event.ensures.ok in
    let more = writes_more c.loop-event.yielded _ _ _ _ _ _ c.loop-event.invariant.writes c.in-Some.event _ _ one.0 one.1 one.2 in
    OnErr-any c.from_residual-in_err-print_page.result (page_first _ _ _ _ _ _ _ more c.args.events.items _ _ (left_after c.args.events.items c.loop-event.yielded c.in-Some.event so_far turn.0 turn.1) c.in_err-print_page.ensures.err)

pub returns-in_err-print_page-clause-failed : goal.returns-in_err-print_page-clause-failed
returns-in_err-print_page-clause-failed g c =
    known_unwritten c.from_residual-in_err-print_page.result
    (failed_since g.S.ByteSink.tries g.S.ByteSink.interrupts g.S.ByteSink.fails c.args.sink.now c.loop-event.sink c.print_page.new.sink c.loop-event.invariant.tried c.in_err-print_page.ensures.failed)
