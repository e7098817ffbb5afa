use Rattle.actor_seat.proofs.Names.{ap, arith, HasOwedPolls, IsLinked, Ok, owed_back, picks_keep, seen_by, Sending, subst, sym, taken_of, ◌∙◌, ◌≡◌}
use Rattle.core_core.specs.declared.turn.Turn.TheVariants.{Back}
use Rattle.actor_seat.proofs.HandedBack.{stay_owing}
use Rattle.actor_seat.proofs.Kept.{kept_seated}
use Rattle.actor_seat.proofs.Picked.{LeavesPick, back_known, owes_none, pick_leaves, picked_linked, picked_same, picked_stays, picked_told}
use Rattle.actor_seat.proofs.seat.Seat.pick.Given.{Over}
use Rattle.actor_seat.proofs.seat.Seat.pick.Goals as goal
use Rattle.actor_seat.proofs.seat.Seat.pick.Goals.{After-pick, In-Ok-Back}

-- what the call left of the core
left : (g : Over) (c : After-pick g) → LeavesPick g.J.Task.meaning c.pick.result c.self.inside.recorded c.pick.new.self
left g c = record { picks = c.pick.ensures.picks; ins = c.pick.ensures.ins; outs = c.pick.ensures.outs; lanes = c.pick.ensures.lanes; seat = c.pick.ensures.seat; sound = c.pick.ensures.sound }

-- it handed this job back
told : (g : Over) (c : In-Ok-Back g) → c.pick.result ≡ Ok (Back c.in-Ok-Back.name c.in-Ok-Back.order c.in-Ok-Back.reason)
told g c = c.in-Ok-Back.is ∙ ap (λ turn. Ok turn) c.in-Ok-Back.field-0-is

pub invariant_of-self : goal.invariant_of-self
invariant_of-self g c =
    kept_seated (owes_none (left g (goal.at.invariant_of-self g c).After-pick) (λ sender. ap (λ one. owed_back one sender) (c.in-Ok-Start.is ∙ ap (λ turn. Ok turn) c.in-Ok-Start.field-0-is))) c.self.inside.ends c.self.invariant

pub invariant_of-self-in-Ok-Resume : goal.invariant_of-self-in-Ok-Resume
invariant_of-self-in-Ok-Resume g c =
    kept_seated (owes_none (left g (goal.at.invariant_of-self-in-Ok-Resume g c).After-pick) (λ sender. ap (λ one. owed_back one sender) (c.in-Ok-Resume.is ∙ ap (λ turn. Ok turn) c.in-Ok-Resume.field-0-is)))
    c.self.inside.ends c.self.invariant

pub returns-in-Ok-Start-clause-seated : goal.returns-in-Ok-Start-clause-seated
returns-in-Ok-Start-clause-seated g c =
    kept_seated (owes_none (left g (goal.at.returns-in-Ok-Start-clause-seated g c).After-pick) (λ sender. ap (λ one. owed_back one sender) (c.in-Ok-Start.is ∙ ap (λ turn. Ok turn) c.in-Ok-Start.field-0-is)))
    c.self.inside.ends c.self.invariant

pub returns-in-Ok-Resume-clause-seated : goal.returns-in-Ok-Resume-clause-seated
returns-in-Ok-Resume-clause-seated g c =
    kept_seated (owes_none (left g (goal.at.returns-in-Ok-Resume-clause-seated g c).After-pick) (λ sender. ap (λ one. owed_back one sender) (c.in-Ok-Resume.is ∙ ap (λ turn. Ok turn) c.in-Ok-Resume.field-0-is)))
    c.self.inside.ends c.self.invariant

pub returns-in-Ok-Start-clause-stays : goal.returns-in-Ok-Start-clause-stays
returns-in-Ok-Start-clause-stays g c = picked_same (left g (goal.at.returns-in-Ok-Start-clause-stays g c).After-pick) c.self.inside.ends c.self.view_is

pub returns-in-Ok-Resume-clause-stays : goal.returns-in-Ok-Resume-clause-stays
returns-in-Ok-Resume-clause-stays g c = picked_same (left g (goal.at.returns-in-Ok-Resume-clause-stays g c).After-pick) c.self.inside.ends c.self.view_is

pub returns-in-Err-clause-stays : goal.returns-in-Err-clause-stays
returns-in-Err-clause-stays g c = picked_same (left g (goal.at.returns-in-Err-clause-stays g c).After-pick) c.self.inside.ends c.self.view_is

pub returns-in-Err-clause-refused : goal.returns-in-Err-clause-refused
returns-in-Err-clause-refused g c =
    subst (λ view. record { recorded = c.pick.new.self; ends = c.self.inside.ends } ≡ view) c.self.view_is
    (ap (λ recorded. record { recorded = recorded; ends = c.self.inside.ends }) (pick_leaves (left g (goal.at.returns-in-Err-clause-refused g c).After-pick) c.in-Err.error c.in-Err.is))

pub give_on-requires-clause-known : goal.give_on-requires-clause-known
give_on-requires-clause-known g c =
    let here = goal.at.give_on-requires-clause-known g c in
    back_known (left g here.After-pick) c.in-Ok-Back.name c.in-Ok-Back.reason c.in-Ok-Back.order (told g here.In-Ok-Back)

pub give_on-requires-clause-owing : goal.give_on-requires-clause-owing
give_on-requires-clause-owing g c =
    let here = goal.at.give_on-requires-clause-owing g c in
    let known = back_known (left g here.After-pick) c.in-Ok-Back.name c.in-Ok-Back.reason c.in-Ok-Back.order (told g here.In-Ok-Back) in
    stay_owing c.self.inside.recorded c.pick.new.self c.pick.result c.in-Ok-Back.name c.in-Ok-Back.reason c.in-Ok-Back.order (told g here.In-Ok-Back) c.self.inside.ends c.self.invariant.beside
    (omega (arith, known, c.pick.ensures.seat.cores)) c.pick.ensures.seat c.pick.ensures.outs c.pick.ensures.lanes c.pick.ensures.ins

pub returns-in-Ok-Back-clause-stays : goal.returns-in-Ok-Back-clause-stays
returns-in-Ok-Back-clause-stays g c =
    picked_stays (left g (goal.at.returns-in-Ok-Back-clause-stays g c).After-pick) c.self.inside.ends c.give_on.new.ends c.self.view_is c.give_on.ensures.ends c.give_on.ensures.sees

pub returns-in-Ok-Back-clause-linked : goal.returns-in-Ok-Back-clause-linked
returns-in-Ok-Back-clause-linked g c = λ linked rest.
    let was = subst (IsLinked g.J.Task.meaning) (sym c.self.view_is) linked in
    record {
      recorded = c.pick.ensures.sound;
      at_rest = rest;
      beside = c.give_on.ensures.beside;
      owed =
          subst (λ outs. HasOwedPolls g.J.Task.meaning (seen_by (λ (end : Sending _ _). end.out) outs) c.pick.new.self) (sym {a = c.give_on.new.ends.outs} c.give_on.ensures.outs)
          (picks_keep g.J.Task.meaning (seen_by (λ (end : Sending _ _). end.out) c.self.inside.ends.outs) c.self.inside.recorded c.pick.new.self c.pick.ensures.seat c.pick.result c.pick.ensures.picks was.owed);
    }

pub returns-in-Ok-Start-clause-picks : goal.returns-in-Ok-Start-clause-picks
returns-in-Ok-Start-clause-picks g c =
    picked_told (left g (goal.at.returns-in-Ok-Start-clause-picks g c).After-pick) c.self.view_is c.pick.ensures.ready c.pick.ensures.back _ (ap taken_of (sym (c.in-Ok-Start.is ∙ ap (λ turn. Ok turn) c.in-Ok-Start.field-0-is)))

pub returns-in-Ok-Start-clause-linked : goal.returns-in-Ok-Start-clause-linked
returns-in-Ok-Start-clause-linked g c =
    picked_linked (left g (goal.at.returns-in-Ok-Start-clause-linked g c).After-pick) c.self.inside.ends c.self.view_is (λ sender. ap (λ one. owed_back one sender) (c.in-Ok-Start.is ∙ ap (λ turn. Ok turn) c.in-Ok-Start.field-0-is))

pub returns-in-Ok-Resume-clause-picks : goal.returns-in-Ok-Resume-clause-picks
returns-in-Ok-Resume-clause-picks g c =
    picked_told (left g (goal.at.returns-in-Ok-Resume-clause-picks g c).After-pick) c.self.view_is c.pick.ensures.ready c.pick.ensures.back _ (ap taken_of (sym (c.in-Ok-Resume.is ∙ ap (λ turn. Ok turn) c.in-Ok-Resume.field-0-is)))

pub returns-in-Ok-Resume-clause-linked : goal.returns-in-Ok-Resume-clause-linked
returns-in-Ok-Resume-clause-linked g c =
    picked_linked (left g (goal.at.returns-in-Ok-Resume-clause-linked g c).After-pick) c.self.inside.ends c.self.view_is (λ sender. ap (λ one. owed_back one sender) (c.in-Ok-Resume.is ∙ ap (λ turn. Ok turn) c.in-Ok-Resume.field-0-is))

pub returns-in-Ok-Idle-clause-picks : goal.returns-in-Ok-Idle-clause-picks
returns-in-Ok-Idle-clause-picks g c =
    picked_told (left g (goal.at.returns-in-Ok-Idle-clause-picks g c).After-pick) c.self.view_is c.pick.ensures.ready c.pick.ensures.back _ (ap taken_of (sym (c.in-Ok-Idle.is ∙ ap (λ turn. Ok turn) c.in-Ok-Idle.field-0-is)))

pub returns-in-Ok-Idle-clause-linked : goal.returns-in-Ok-Idle-clause-linked
returns-in-Ok-Idle-clause-linked g c =
    picked_linked (left g (goal.at.returns-in-Ok-Idle-clause-linked g c).After-pick) c.self.inside.ends c.self.view_is (λ sender. ap (λ one. owed_back one sender) (c.in-Ok-Idle.is ∙ ap (λ turn. Ok turn) c.in-Ok-Idle.field-0-is))

pub returns-in-Err-clause-picks : goal.returns-in-Err-clause-picks
returns-in-Err-clause-picks g c =
    picked_told (left g (goal.at.returns-in-Err-clause-picks g c).After-pick) c.self.view_is c.pick.ensures.ready c.pick.ensures.back _ (ap taken_of (sym (c.in-Err.is)))

pub returns-in-Err-clause-linked : goal.returns-in-Err-clause-linked
returns-in-Err-clause-linked g c =
    picked_linked (left g (goal.at.returns-in-Err-clause-linked g c).After-pick) c.self.inside.ends c.self.view_is (λ sender. ap (λ one. owed_back one sender) (c.in-Err.is))

pub returns-in-Ok-Back-clause-picks : goal.returns-in-Ok-Back-clause-picks
returns-in-Ok-Back-clause-picks g c =
    let here = goal.at.returns-in-Ok-Back-clause-picks g c in
    picked_told (left g here.After-pick) c.self.view_is c.pick.ensures.ready c.pick.ensures.back _ (ap (λ one. Ok one) c.back-told.ensures ∙ ap taken_of (sym (told g here.In-Ok-Back)))
