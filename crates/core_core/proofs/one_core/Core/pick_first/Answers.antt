use Rattle.core_core.proofs.Names.{ap, Bool, CoreView, is_some, subst, sym, TakesOut, ℕ, [], ◌∙◌, ◌∷◌}
use Rattle.base_words.specs.declared.note.Note.TheVariants as notes
use Rattle.core_core.proofs.Closings.{return_reason-taken, hands_back}
use Rattle.core_core.proofs.one_core.Core.pick_first.Goals as goal

pub returns-in-Some-default-clause-picks : goal.returns-in-Some-default-clause-picks
returns-in-Some-default-clause-picks g c =
    let out = c.take_out-started in
    let back = hands_back c.args.self.now out.new.self c.hand_back.new.self out.result.1 out.result.0.queue out.result.2 out.result.3 out.ensures.tallied out.ensures.takes c.hand_back.ensures.returns in
    let why = sym (return_reason-taken c.args.self.now out.new.self out.result.1 out.result.0.queue out.result.2 out.result.3 out.ensures.takes) ∙ sym c.return_reason.ensures ∙ c.in-Some-default.is-0 in
    (back, why, c.two_notes-notes.ensures ∙ ap (λ (vr : ℕ). notes.Pick out.result.0.queue vr ∷ notes.Returned out.result.1 c.in-Some-default.reason ∷ []) out.ensures.at)

pub returns-in-None-true-clause-picks : goal.returns-in-None-true-clause-picks
returns-in-None-true-clause-picks g c =
    let out = c.take_out-started in
    let taken = subst (λ (started : Bool). TakesOut c.args.self.now out.result.1 out.result.0.queue started out.result.3 out.new.self) c.in-None-true.is-1 out.ensures.takes in
    let kept = sym (return_reason-taken c.args.self.now out.new.self out.result.1 out.result.0.queue out.result.2 out.result.3 out.ensures.takes) ∙ sym c.return_reason.ensures ∙ c.in-None-true.is-0 in
    (taken, kept, c.two_notes-notes-in-None-true.ensures ∙ ap (λ (vr : ℕ). notes.Pick out.result.0.queue vr ∷ notes.Resume out.result.1 ∷ []) out.ensures.at)

pub returns-in-None-false-clause-picks : goal.returns-in-None-false-clause-picks
returns-in-None-false-clause-picks g c =
    let out = c.take_out-started in
    let taken = subst (λ (started : Bool). TakesOut c.args.self.now out.result.1 out.result.0.queue started out.result.3 out.new.self) c.in-None-false.is-1 out.ensures.takes in
    let kept = sym (return_reason-taken c.args.self.now out.new.self out.result.1 out.result.0.queue out.result.2 out.result.3 out.ensures.takes) ∙ sym c.return_reason.ensures ∙ c.in-None-false.is-0 in
    (taken, kept, c.two_notes-notes-in-None-false.ensures ∙ ap (λ (vr : ℕ). notes.Pick out.result.0.queue vr ∷ notes.Start out.result.1 ∷ []) out.ensures.at)

pub take_out-started-requires : goal.take_out-started-requires
take_out-started-requires g c = record { free = c.requires.free; no_turn = c.requires.no_turn; turns = c.requires.turns; work = c.requires.work }

pub return_reason-requires : goal.return_reason-requires
return_reason-requires g c = c.take_out-started.ensures.exists

pub hand_back-requires : goal.hand_back-requires
hand_back-requires g c = ap (λ (view : CoreView g.row.J.Denot). is_some view.out) c.take_out-started.ensures.takes.rest

pub returns-in-Some-default-clause-ready : goal.returns-in-Some-default-clause-ready
returns-in-Some-default-clause-ready g c = c.take_out-started.ensures.ready

pub returns-in-Some-default-clause-bounded : goal.returns-in-Some-default-clause-bounded
returns-in-Some-default-clause-bounded g c = c.hand_back.ensures.bounded

pub returns-in-None-true-clause-ready : goal.returns-in-None-true-clause-ready
returns-in-None-true-clause-ready g c = c.take_out-started.ensures.ready

pub returns-in-None-true-clause-bounded : goal.returns-in-None-true-clause-bounded
returns-in-None-true-clause-bounded g c = c.take_out-started.ensures.bounded

pub returns-in-None-false-clause-ready : goal.returns-in-None-false-clause-ready
returns-in-None-false-clause-ready g c = c.take_out-started.ensures.ready

pub returns-in-None-false-clause-bounded : goal.returns-in-None-false-clause-bounded
returns-in-None-false-clause-bounded g c = c.take_out-started.ensures.bounded

pub two_notes-notes-requires : goal.two_notes-notes-requires
two_notes-notes-requires g c = assumption

pub two_notes-notes-requires-in-None-true : goal.two_notes-notes-requires-in-None-true
two_notes-notes-requires-in-None-true g c = assumption

pub two_notes-notes-requires-in-None-false : goal.two_notes-notes-requires-in-None-false
two_notes-notes-requires-in-None-false g c = assumption
