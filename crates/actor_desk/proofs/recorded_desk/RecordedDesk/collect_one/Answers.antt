use Rattle.actor_desk.proofs.Names.{rules}
use Rattle.actor_desk.proofs.CollectedNext.{gets_some, gets_none}
use Rattle.actor_desk.proofs.Desked.{lane_taken}
use Rattle.actor_desk.proofs.recorded_desk.RecordedDesk.collect_one.Goals as goal

pub collect_told-requires : goal.collect_told-requires
collect_told-requires g c = (lane_taken c.self.view_is c.self.invariant c.core.view_is c.requires.beside c.requires.lane c.index_mut-lane.ensures.value).lane_of

pub invariant_of-self : goal.invariant_of-self
invariant_of-self g c =
    let taken = lane_taken c.self.view_is c.self.invariant c.core.view_is c.requires.beside c.requires.lane c.index_mut-lane.ensures.value in
    let found = c.in-Some.ensures.collects in
    let stays = (gets_some g.J.Task.meaning taken c.in-Some.ensures.lane found.0 found.2 _ _ found.1 c.in-Some.ensures.spelled _ c.push.ensures.notes).0 in
    (stays.written, stays.known)

pub invariant_of-self-in-None : goal.invariant_of-self-in-None
invariant_of-self-in-None g c =
    let taken = lane_taken c.self.view_is c.self.invariant c.core.view_is c.requires.beside c.requires.lane c.index_mut-lane.ensures.value in
    let found = c.in-None.ensures.collects in
    let stays = (gets_none g.J.Task.meaning taken c.in-None.ensures.lane found.0 found.2 found.1).0 in
    (stays.written, stays.known)

pub returns-in-Some : goal.returns-in-Some
returns-in-Some g c =
    let taken = lane_taken c.self.view_is c.self.invariant c.core.view_is c.requires.beside c.requires.lane c.index_mut-lane.ensures.value in
    let found = c.in-Some.ensures.collects in
    let its = gets_some g.J.Task.meaning taken c.in-Some.ensures.lane found.0 found.2 _ _ found.1 c.in-Some.ensures.spelled _ c.push.ensures.notes in
    record { gets = search rules; books = its.1; stays = its.0; untouched = search rules }

pub returns-in-None-clause-stays : goal.returns-in-None-clause-stays
returns-in-None-clause-stays g c =
    let taken = lane_taken c.self.view_is c.self.invariant c.core.view_is c.requires.beside c.requires.lane c.index_mut-lane.ensures.value in
    let found = c.in-None.ensures.collects in
    (gets_none g.J.Task.meaning taken c.in-None.ensures.lane found.0 found.2 found.1).0

pub returns-in-None-clause-books : goal.returns-in-None-clause-books
returns-in-None-clause-books g c =
    let taken = lane_taken c.self.view_is c.self.invariant c.core.view_is c.requires.beside c.requires.lane c.index_mut-lane.ensures.value in
    let found = c.in-None.ensures.collects in
    (gets_none g.J.Task.meaning taken c.in-None.ensures.lane found.0 found.2 found.1).1
