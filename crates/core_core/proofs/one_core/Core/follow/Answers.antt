use Rattle.core_core.proofs.Names.{core_view, CoreView, GoesOn, IfSome, is_some, job_out, OpenTurn, Option, queues_alone, refl, subst, sym, true, true≢false, ◌≡◌}
use Rattle.core_core.proofs.Fits.{IsBounded-from_turns}
use Rattle.core_core.proofs.FurtherTurn.{follows_ahead, ready_going}
use Rattle.core_core.proofs.one_core.Core.follow.Goals as goal

pub new-requires : goal.new-requires
new-requires g c = assumption

pub one_note-notes-requires : goal.one_note-notes-requires
one_note-notes-requires g c = assumption

pub returns-then-not-goes_on-clause-follows : goal.returns-then-not-goes_on-clause-follows
returns-then-not-goes_on-clause-follows g c = (c.goes_on.ensures.over c.if-not-goes_on.true, refl, c.new.ensures)

pub returns-then-not-goes_on-clause-ready : goal.returns-then-not-goes_on-clause-ready
returns-then-not-goes_on-clause-ready g c = tt

pub returns-then-not-goes_on-clause-bounded : goal.returns-then-not-goes_on-clause-bounded
returns-then-not-goes_on-clause-bounded g c =
    let inside = c.self.inside in
    let view = core_view inside.core inside.cores (queues_alone inside.queues) inside.tallies.items inside.floor inside.turns (job_out inside.out) inside.senders inside.mode inside.bursts in
    rw (← c.self.view_is) (IsBounded-from_turns view c.self.invariant.turns)

pub unreachable-requires : goal.unreachable-requires
unreachable-requires g c =
    let some = subst (λ (view : CoreView g.row.J.Denot). is_some view.bursts.open ≡ true) (sym c.self.view_is) (c.goes_on.ensures.is_open c.if-not-goes_on.false) in
    true≢false (sym (subst (λ (found : Option OpenTurn). is_some found ≡ true) c.in_default.is some))

pub take_further-started-requires : goal.take_further-started-requires
take_further-started-requires g c =
    let old = c.args.self.now in
    let goes = subst (λ (view : CoreView g.row.J.Denot). IfSome view.bursts.open (λ turn. GoesOn old turn)) (sym c.self.view_is) (c.goes_on.ensures.goes c.if-not-goes_on.false) in
    subst (λ (found : Option OpenTurn). IfSome found (λ turn. GoesOn old turn)) c.in-Some.is goes

pub returns-clause-follows : goal.returns-clause-follows
returns-clause-follows g c =
    let out = c.take_further-started in
    rw (c.going_out.ensures, c.one_note-notes.ensures, c.follow_note.ensures) (follows_ahead _ c.args.self.now out.new.self c.in-Some.turn.queue out.result.0 out.result.1 out.result.2 out.ensures.follows)

pub returns-clause-ready : goal.returns-clause-ready
returns-clause-ready g c =
    let out = c.take_further-started in
    rw c.going_out.ensures (ready_going g.J.Task.meaning out.result.0 c.in-Some.turn.queue out.result.1 out.result.2 out.ensures.ready)

pub returns-clause-bounded : goal.returns-clause-bounded
returns-clause-bounded g c = c.take_further-started.ensures.bounded
