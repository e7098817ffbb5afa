use Rattle.actor_desk.proofs.Names.{inr, refl, ap, set, ◌∙◌, ◌≡◌, arith, Redeem, found, Fits, RedeemsOn, slice_get, Some}
use Rattle.actor_desk.specs.Posts.{lends}
use Rattle.actor_desk.proofs.Posting.{end_beside, end_lane, lends_end, lent_did}
use Rattle.actor_desk.proofs.post.RecordedPostPostU64.redeem.Given.{Over}
use Rattle.actor_desk.proofs.post.RecordedPostPostU64.redeem.Goals as goal
use Rattle.actor_desk.proofs.post.RecordedPostPostU64.redeem.Goals.{After-index_mut-end, After-redeem}

-- the end of the ticket's core stands at its place
its_end : (g : Over) (c : After-index_mut-end g) → (c.index_mut.inside.0.1.0.0 ≡ c.args.ticket.to) × (slice_get c.self.inside.ends.now.items c.index_mut.inside.0.1.0.0 ≡ Some c.index_mut-end.result.now)
its_end g c =
    let to_is = ap (λ id. id.to) (c.index_mut.view_is ∙ c.name.ensures) in
    (to_is, found c.self.inside.ends.now.items _ c.index_mut-end.result.now (omega (arith, (c.if-not-knows.ensures.knows.0 refl).1, c.self.invariant.outs.count, to_is)) c.index_mut-end.ensures.value)

-- what the call does
does : (g : Over) (c : After-redeem g) → RedeemsOn (Fits g.J.Task.meaning) g.O.OutEnd.out g.O.OutEnd.credited g.O.OutEnd.untouched c.args.ticket c.redeem.result
    (lends c.self.inside.said.now c.self.inside.ends.now.items) (lends c.redeem.new.self (set c.self.inside.ends.now.items c.index_mut.inside.0.1.0.0 c.redeem.new.end))
does g c =
    let end = its_end g c.before.before in
    let lent = lends_end end.0 end.1 c.redeem.new.end c.redeem.ensures.stays c.redeem.ensures.untouched in
    record { knows = c.if-not-knows.ensures.knows.0 refl; lent = lent; redeems = c.redeem.ensures.redeems; given = c.redeem.ensures.given; fits = c.redeem.ensures.fits; out = c.redeem.ensures.out; spends = c.redeem.ensures.spends }

pub redeem-requires : goal.redeem-requires
redeem-requires g c =
    let end = its_end g (goal.at.redeem-requires g c).After-index_mut-end in
    record { beside = end_beside end.0 end.1 c.self.invariant; lane = end_lane end.0 end.1 c.self.invariant; room = λ held. omega (arith, c.self.invariant.spare) }

pub invariant_of-self : goal.invariant_of-self
invariant_of-self g c =
    lent_did (Fits g.J.Task.meaning) g.O.OutEnd.out g.O.OutEnd.credited g.O.OutEnd.untouched (lends c.self.inside.said.now c.self.inside.ends.now.items) _ (Redeem c.args.ticket c.redeem.result)
    (inr (does g (goal.at.invariant_of-self g c).After-redeem)) c.self.invariant

pub returns-clause-does : goal.returns-clause-does
returns-clause-does g c = rw (← c.self.view_is) (record { does = inr (does g (goal.at.returns-clause-does g c).After-redeem); desk_at = refl; ends_at = refl })
