use Rattle.actor_desk.proofs.Names.{inr, refl, set, ◌≡◌, arith, Submit, found, Fits, SubmitsOn, slice_get, Some}
use Rattle.actor_desk.specs.Posts.{lends}
use Rattle.actor_desk.proofs.Posting.{end_beside, end_lane, lends_end, lent_did, waits_sent}
use Rattle.actor_desk.proofs.post.RecordedPostPostU64.submit.Given.{Over}
use Rattle.actor_desk.proofs.post.RecordedPostPostU64.submit.Goals as goal
use Rattle.actor_desk.proofs.post.RecordedPostPostU64.submit.Goals.{After-index_mut-end, After-submit}

-- the end of the core stands at its place
there : (g : Over) (c : After-index_mut-end g) → slice_get c.self.inside.ends.now.items c.to.inside.0 ≡ Some c.index_mut-end.result.now
there g c = found c.self.inside.ends.now.items _ c.index_mut-end.result.now (omega (arith, c.if-to-len.false, c.len.ensures)) c.index_mut-end.ensures.value

-- what the call does
does : (g : Over) (c : After-submit g) → SubmitsOn (Fits g.J.Task.meaning) g.O.OutEnd.out g.O.OutEnd.credited g.O.OutEnd.untouched c.args.to c.args.order c.submit.result
    (lends c.self.inside.said.now c.self.inside.ends.now.items) (lends c.submit.new.self (set c.self.inside.ends.now.items c.to.inside.0 c.submit.new.end))
does g c =
    let lent = lends_end c.to.view_is (there g c.before.before) c.submit.new.end c.submit.ensures.stays c.submit.ensures.untouched in
    record { lent = lent; submits = c.submit.ensures.submits; sends = c.submit.ensures.sends; credited = c.submit.ensures.credited; spends = c.submit.ensures.spends }

pub submit-requires-clause-beside : goal.submit-requires-clause-beside
submit-requires-clause-beside g c = end_beside c.to.view_is (there g (goal.at.submit-requires-clause-beside g c).After-index_mut-end) c.self.invariant

pub submit-requires-clause-lane : goal.submit-requires-clause-lane
submit-requires-clause-lane g c = end_lane c.to.view_is (there g (goal.at.submit-requires-clause-lane g c).After-index_mut-end) c.self.invariant

pub invariant_of-self : goal.invariant_of-self
invariant_of-self g c =
    lent_did (Fits g.J.Task.meaning) g.O.OutEnd.out g.O.OutEnd.credited g.O.OutEnd.untouched (lends c.self.inside.said.now c.self.inside.ends.now.items) _ (Submit c.args.to c.args.order c.submit.result)
    (inr (does g (goal.at.invariant_of-self g c).After-submit)) c.self.invariant

pub returns-clause-waits : goal.returns-clause-waits
returns-clause-waits g c =
    let its = there g (goal.at.returns-clause-waits g c).After-index_mut-end in
    waits_sent c.self.inside.said.now c.submit.new.self c.see_lanes.ensures.known c.args.to _ _ (end_beside c.to.view_is its c.self.invariant) (end_lane c.to.view_is its c.self.invariant)
    c.args.order c.submit.result c.submit.ensures.submits

pub returns-clause-does : goal.returns-clause-does
returns-clause-does g c = rw (← c.self.view_is) (record { does = inr (does g (goal.at.returns-clause-does g c).After-submit); desk_at = refl; ends_at = refl })
