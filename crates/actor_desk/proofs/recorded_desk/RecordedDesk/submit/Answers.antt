use Rattle.actor_desk.proofs.Names.{rules}
use Rattle.actor_desk.proofs.TakenCalls.{submitted_call, submit_refused}
use Rattle.actor_desk.proofs.Desked.{lane_taken}
use Rattle.actor_desk.proofs.recorded_desk.RecordedDesk.submit.Goals as goal

pub submit-requires-clause-lane : goal.submit-requires-clause-lane
submit-requires-clause-lane g c = (lane_taken c.self.view_is c.self.invariant c.to.view_is c.requires.beside c.requires.lane c.index_mut-lane.ensures.value).lane_of

pub invariant_of-self : goal.invariant_of-self
invariant_of-self g c =
    let taken = lane_taken c.self.view_is c.self.invariant c.to.view_is c.requires.beside c.requires.lane c.index_mut-lane.ensures.value in
    let order = c.without_job-what.ensures in
    let called = submitted_call taken c.in-Ok.ensures.lane c.in-Ok.ensures.credited c.args.order c.in-Ok.ensures.sends c.in-Ok.ensures.accepted order.same order.spelled c.named-ticket.ensures c.name.ensures c.push.ensures.notes in
    (called.stays.written, called.stays.known)

pub returns-in-Ok : goal.returns-in-Ok
returns-in-Ok g c =
    let taken = lane_taken c.self.view_is c.self.invariant c.to.view_is c.requires.beside c.requires.lane c.index_mut-lane.ensures.value in
    let order = c.without_job-what.ensures in
    let called = submitted_call taken c.in-Ok.ensures.lane c.in-Ok.ensures.credited c.args.order c.in-Ok.ensures.sends c.in-Ok.ensures.accepted order.same order.spelled c.named-ticket.ensures c.name.ensures c.push.ensures.notes in
    record { submits = called.does_so; sends = search rules; credited = search rules; stays = called.stays; spends = called.spends; untouched = search rules }

pub returns-in-Err : goal.returns-in-Err
returns-in-Err g c =
    let taken = lane_taken c.self.view_is c.self.invariant c.to.view_is c.requires.beside c.requires.lane c.index_mut-lane.ensures.value in
    let refused = submit_refused taken c.in-Err.ensures.lane c.in-Err.ensures.credited c.args.order c.in-Err.error c.in-Err.ensures.sends c.in-Err.ensures.refused in
    record { submits = refused.0; sends = search rules; credited = search rules; stays = refused.1; spends = tt; untouched = search rules }
