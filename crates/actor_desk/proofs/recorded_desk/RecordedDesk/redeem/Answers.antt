use Rattle.actor_desk.proofs.Names.{ap, refl, subst, ◌∙◌, Fits, IsGot, FitsSent}
use Rattle.actor_desk.proofs.Desked.{are_same, are_apart, lane_taken, its_name}
use Rattle.actor_desk.proofs.Redeemed.{foreign}
use Rattle.actor_desk.proofs.Spending.{held_gone, may_note}
use Rattle.actor_desk.proofs.TicketCalls.{redeemed_call, redeem_refused}
use Rattle.actor_desk.proofs.recorded_desk.RecordedDesk.redeem.Goals as goal

pub returns-then-ne-clause-redeems : goal.returns-then-ne-clause-redeems
returns-then-ne-clause-redeems g c = (foreign c.self.view_is c.self.invariant.0 (c.name.view_is ∙ c.name-name.ensures) (λ own there. are_apart _ _ c.ne.result c.ne.ensures c.if-ne.true own), refl)

pub redeem-requires : goal.redeem-requires
redeem-requires g c = (lane_taken c.self.view_is c.self.invariant (ap (λ id. id.to) (c.name.view_is ∙ c.name-name.ensures)) c.requires.beside c.requires.lane c.index_mut-lane.ensures.value).lane_of

pub invariant_of-self : goal.invariant_of-self
invariant_of-self g c =
    let taken = lane_taken c.self.view_is c.self.invariant (ap (λ id. id.to) (c.name.view_is ∙ c.name-name.ensures)) c.requires.beside c.requires.lane c.index_mut-lane.ensures.value in
    let named = its_name (c.name.view_is ∙ c.name-name.ensures) (are_same _ _ c.ne.result c.ne.ensures c.if-ne.false) in
    let called = redeemed_call c.args.ticket taken named c.in-Ok.ensures.lane c.in-Ok.ensures.out c.in-Ok.ensures.given c.in-Ok.ensures.redeems c.name-name.ensures c.note.ensures.same c.push.ensures.notes in
    (called.stays.written, called.stays.known)

pub returns-in-Ok : goal.returns-in-Ok
returns-in-Ok g c =
    let taken = lane_taken c.self.view_is c.self.invariant (ap (λ id. id.to) (c.name.view_is ∙ c.name-name.ensures)) c.requires.beside c.requires.lane c.index_mut-lane.ensures.value in
    let named = its_name (c.name.view_is ∙ c.name-name.ensures) (are_same _ _ c.ne.result c.ne.ensures c.if-ne.false) in
    let called = redeemed_call c.args.ticket taken named c.in-Ok.ensures.lane c.in-Ok.ensures.out c.in-Ok.ensures.given c.in-Ok.ensures.redeems c.name-name.ensures c.note.ensures.same c.push.ensures.notes in
    let given = subst (λ id. IsGot (g.O.OutEnd.out c.args.end.now) id.number c.in-Ok.outcome) (c.name.view_is ∙ c.name-name.ensures) c.in-Ok.ensures.given in
    let fits = subst (λ id. FitsSent (Fits g.J.Task.meaning) (g.O.OutEnd.out c.args.end.now) id.number c.in-Ok.outcome) (c.name.view_is ∙ c.name-name.ensures) c.in-Ok.ensures.fits in
    assumption called

pub returns-in-Err : goal.returns-in-Err
returns-in-Err g c =
    let taken = lane_taken c.self.view_is c.self.invariant (ap (λ id. id.to) (c.name.view_is ∙ c.name-name.ensures)) c.requires.beside c.requires.lane c.index_mut-lane.ensures.value in
    let named = its_name (c.name.view_is ∙ c.name-name.ensures) (are_same _ _ c.ne.result c.ne.ensures c.if-ne.false) in
    let refused = redeem_refused c.args.ticket taken named c.in-Err.ensures.lane c.in-Err.ensures.out c.in-Err.error c.in-Err.ensures.redeems in
    assumption refused

pub push-requires : goal.push-requires
push-requires g c =
    let named = c.name.view_is ∙ c.name-name.ensures in
    let taken = lane_taken c.self.view_is c.self.invariant (ap (λ id. id.to) named) c.requires.beside c.requires.lane c.index_mut-lane.ensures.value in
    record { free = may_note c.self.view_is named c.requires.room taken.there (held_gone c.index_mut-lane.result.now c.redeem.new.self _ c.in-Ok.outcome c.in-Ok.ensures.redeems.0) }
