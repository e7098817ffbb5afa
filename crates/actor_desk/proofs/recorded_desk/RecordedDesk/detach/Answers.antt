use Rattle.actor_desk.proofs.Names.{ap, refl, ◌∙◌}
use Rattle.actor_desk.proofs.Desked.{are_same, are_apart, lane_taken, its_name}
use Rattle.actor_desk.proofs.Redeemed.{foreign}
use Rattle.actor_desk.proofs.Spending.{held_detached, may_note}
use Rattle.actor_desk.proofs.TicketCalls.{detached_call, detach_refused}
use Rattle.actor_desk.proofs.recorded_desk.RecordedDesk.detach.Goals as goal

pub returns-then-ne-clause-detaches : goal.returns-then-ne-clause-detaches
returns-then-ne-clause-detaches g c = (foreign c.self.view_is c.self.invariant.0 (c.name.view_is ∙ c.name-name.ensures) (λ own there. are_apart _ _ c.ne.result c.ne.ensures c.if-ne.true own), refl)

pub detach-requires : goal.detach-requires
detach-requires g c = (lane_taken c.self.view_is c.self.invariant (ap (λ id. id.to) (c.name.view_is ∙ c.name-name.ensures)) c.requires.beside c.requires.lane c.index_mut-lane.ensures.value).lane_of

pub invariant_of-self : goal.invariant_of-self
invariant_of-self g c =
    let taken = lane_taken c.self.view_is c.self.invariant (ap (λ id. id.to) (c.name.view_is ∙ c.name-name.ensures)) c.requires.beside c.requires.lane c.index_mut-lane.ensures.value in
    let named = its_name (c.name.view_is ∙ c.name-name.ensures) (are_same _ _ c.ne.result c.ne.ensures c.if-ne.false) in
    let called = detached_call c.args.ticket taken named c.in-Ok.ensures.lane c.in-Ok.ensures.out _ c.in-Ok.ensures.detaches c.name-name.ensures c.push.ensures.notes in
    (called.stays.written, called.stays.known)

pub returns-in-Ok : goal.returns-in-Ok
returns-in-Ok g c =
    let taken = lane_taken c.self.view_is c.self.invariant (ap (λ id. id.to) (c.name.view_is ∙ c.name-name.ensures)) c.requires.beside c.requires.lane c.index_mut-lane.ensures.value in
    let named = its_name (c.name.view_is ∙ c.name-name.ensures) (are_same _ _ c.ne.result c.ne.ensures c.if-ne.false) in
    let called = detached_call c.args.ticket taken named c.in-Ok.ensures.lane c.in-Ok.ensures.out _ c.in-Ok.ensures.detaches c.name-name.ensures c.push.ensures.notes in
    assumption called

pub returns-in-Err : goal.returns-in-Err
returns-in-Err g c =
    let taken = lane_taken c.self.view_is c.self.invariant (ap (λ id. id.to) (c.name.view_is ∙ c.name-name.ensures)) c.requires.beside c.requires.lane c.index_mut-lane.ensures.value in
    let named = its_name (c.name.view_is ∙ c.name-name.ensures) (are_same _ _ c.ne.result c.ne.ensures c.if-ne.false) in
    let refused = detach_refused c.args.ticket taken named c.in-Err.ensures.lane c.in-Err.ensures.out c.in-Err.error c.in-Err.ensures.detaches in
    assumption refused

pub push-requires : goal.push-requires
push-requires g c =
    let named = c.name.view_is ∙ c.name-name.ensures in
    let taken = lane_taken c.self.view_is c.self.invariant (ap (λ id. id.to) named) c.requires.beside c.requires.lane c.index_mut-lane.ensures.value in
    record { free = may_note c.self.view_is named c.requires.room taken.there (held_detached _ c.detach.new.self _ (g.O.OutEnd.credited c.args.end.now) (g.O.OutEnd.credited c.detach.new.end) _ c.in-Ok.ensures.detaches) }

pub invariant_of-self-in-Err : goal.invariant_of-self-in-Err
invariant_of-self-in-Err g c =
    let taken = lane_taken c.self.view_is c.self.invariant (ap (λ id. id.to) (c.name.view_is ∙ c.name-name.ensures)) c.requires.beside c.requires.lane c.index_mut-lane.ensures.value in
    let named = its_name (c.name.view_is ∙ c.name-name.ensures) (are_same _ _ c.ne.result c.ne.ensures c.if-ne.false) in
    let stays = (detach_refused c.args.ticket taken named c.in-Err.ensures.lane c.in-Err.ensures.out c.in-Err.error c.in-Err.ensures.detaches).1 in
    (stays.written, stays.known)
