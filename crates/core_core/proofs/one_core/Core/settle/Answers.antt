use Rattle.core_core.proofs.Names.{ap, IfDone, IfUndone, is_done_step, JobOut, subst, sym, unwrap_or, ◌∙◌, ◌≡◌}
use Rattle.core_core.proofs.PollsSettled.{settles_yield, settles_rest, settles_done, fact_of_out, answers_out, out_if_same, yields_no_answer, rests_no_answer}
use Rattle.core_core.proofs.one_core.Core.settle.Goals as goal

pub returns-in-Yield-clause-settles : goal.returns-in-Yield-clause-settles
returns-in-Yield-clause-settles g c =
    let parts = c.into_parts-job.ensures in
    let time = c.unwrap_or-time.ensures ∙ ap (λ told. unwrap_or told c.args.spent) parts.told in
    let rejoins = c.rejoin_out-name.ensures.rejoins in
    let kept = fact_of_out c.args.self.now.out rejoins.out (λ (out : JobOut g.row.J.Denot). c.is_out_woken-woken.result ≡ out.woken) rejoins.was_out c.is_out_woken-woken.ensures in
    settles_yield c.args.self.now c.args.ran c.args.spent c.rejoin_out-name.result c.unwrap_or-time.result c.rejoin_out-name.new.self c.one_note.result.items time
    c.is_out_woken-woken.result c.into_parts-job.result.0 (sym parts.step ∙ c.in-Yield.is) parts.job rejoins kept c.one_note.ensures

pub returns-in-Park-clause-settles : goal.returns-in-Park-clause-settles
returns-in-Park-clause-settles g c =
    let parts = c.into_parts-job.ensures in
    let time = c.unwrap_or-time.ensures ∙ ap (λ told. unwrap_or told c.args.spent) parts.told in
    settles_rest c.args.self.now c.args.ran c.args.spent c.unwrap_or-time.result c.rest_out.new.self c.rest_out.result.1.items time c.rest_out.result.0
    c.into_parts-job.result.0 (sym parts.step ∙ c.in-Park.is) parts.job c.rest_out.ensures.rests

pub returns-in-Park-clause-answers : goal.returns-in-Park-clause-answers
returns-in-Park-clause-answers g c =
    rests_no_answer g.J.Task.meaning c.args.self.now.out c.args.self.now c.into_parts-job.result.0 c.unwrap_or-time.result c.rest_out.result.0 c.rest_out.new.self c.rest_out.result.1.items c.rest_out.ensures.rests

pub returns-in-Park-clause-bounded : goal.returns-in-Park-clause-bounded
returns-in-Park-clause-bounded g c = c.rest_out.ensures.bounded

pub is_out_woken-woken-requires : goal.is_out_woken-woken-requires
is_out_woken-woken-requires g c = out_if_same g.J.Task.meaning c.args.self.now.out c.args.ran.before c.requires

pub returns-in-Done-clause-settles : goal.returns-in-Done-clause-settles
returns-in-Done-clause-settles g c =
    let parts = c.into_parts-job.ensures in
    let time = c.unwrap_or-time.ensures ∙ ap (λ told. unwrap_or told c.args.spent) parts.told in
    settles_done c.args.self.now c.args.ran c.args.spent c.finish_out-name.result c.unwrap_or-time.result c.finish_out-name.new.self c.one_note-in-Done.result.items time
    c.in-Done.answer (sym parts.step ∙ c.in-Done.is) c.finish_out-name.ensures.finishes c.one_note-in-Done.ensures

pub returns-in-Done-clause-answers : goal.returns-in-Done-clause-answers
returns-in-Done-clause-answers g c =
    let owed = subst (λ step. IfDone step (g.J.Task.meaning.answers c.args.ran.before)) c.in-Done.is c.into_parts-job.ensures.answers in
    answers_out g.J.Task.meaning c.args.self.now.out c.args.ran.before c.in-Done.answer g.met.J.Task.laws c.requires owed

pub rejoin_out-name-requires : goal.rejoin_out-name-requires
rejoin_out-name-requires g c =
    let parts = c.into_parts-job.ensures in
    let job = c.into_parts-job.result.0 in
    record {
      out = out_if_same g.J.Task.meaning c.args.self.now.out c.args.ran.before c.requires;
      ready = (parts.done ∙ ap is_done_step c.in-Yield.is, subst (λ step. IfUndone step (g.J.Task.meaning.can_poll job)) c.in-Yield.is parts.ready);
    }

pub rest_out-requires : goal.rest_out-requires
rest_out-requires g c =
    let parts = c.into_parts-job.ensures in
    let job = c.into_parts-job.result.0 in (
      assumption,
      (
        out_if_same g.J.Task.meaning c.args.self.now.out c.args.ran.before c.requires,
        (parts.done ∙ ap is_done_step c.in-Park.is, subst (λ step. IfUndone step (g.J.Task.meaning.can_poll job)) c.in-Park.is parts.ready),
      ),
    )

pub finish_out-name-requires : goal.finish_out-name-requires
finish_out-name-requires g c = out_if_same g.J.Task.meaning c.args.self.now.out c.args.ran.before c.requires

pub returns-in-Yield-clause-answers : goal.returns-in-Yield-clause-answers
returns-in-Yield-clause-answers g c = yields_no_answer g.J.Task.meaning c.args.self.now.out

pub returns-in-Yield-clause-bounded : goal.returns-in-Yield-clause-bounded
returns-in-Yield-clause-bounded g c = c.rejoin_out-name.ensures.bounded

pub returns-in-Done-clause-bounded : goal.returns-in-Done-clause-bounded
returns-in-Done-clause-bounded g c = c.finish_out-name.ensures.bounded

pub one_note-requires : goal.one_note-requires
one_note-requires g c = assumption

pub one_note-requires-in-Done : goal.one_note-requires-in-Done
one_note-requires-in-Done g c = assumption
