use Rattle.model_world.proofs.Words.{ℕ, ◌<◌, ◌≤◌, sym, ap, subst, arith, Parts}
use Rattle.model_world.specs.Receipts.{MayReceive}
use Rattle.model_world.proofs.CoreSteps.{viewed, free}
use Rattle.model_world.proofs.Received.{IsReceiving, receiver_notes, may_take, received_rests, received_at_rest, receives_now}
use Rattle.model_world.proofs.model.World.receive.Given.{Over}
use Rattle.model_world.proofs.model.World.receive.Goals as goal
use Rattle.model_world.proofs.model.World.receive.Goals.{After-index_mut}

pub link_mut-link-requires : goal.link_mut-link-requires
link_mut-link-requires g c =
    let all = c.self.invariant.1.all_there in
    let there : c.args.from ≤ c.self.inside.cores = omega (arith, c.requires.sender, ap (λ world. world.cores) c.self.view_is) in
    record {
      sender = omega (arith, all.rows_are, there);
      core = omega (arith, all.links_are c.args.from there, c.requires.core, ap (λ world. world.cores) c.self.view_is);
    }

abbrev old : (g : Over) (c : After-index_mut g) → Parts g.row.J.Denot ℕ
old g c = record { cores = c.self.inside.cores; cap = c.self.inside.cap; burst = c.self.inside.burst; room = c.self.inside.room; inside = c.self.inside.inside.items; outside = c.self.inside.outside; links = c.self.inside.links }

-- the core that receives, and the link of the sender
by : (g : Over) (c : After-index_mut g) → IsReceiving (old g c) c.args.from c.args.core c.index_mut.result.now c.link_mut-link.result.now
by g c =
    let there : c.args.core < c.self.inside.cores = omega (arith, c.requires.core, ap (λ world. world.cores) c.self.view_is) in
    record {
      there = omega (arith, c.requires.sender, ap (λ world. world.cores) c.self.view_is);
      core_there = there;
      view_is = viewed c.self.invariant.1 c.args.core there _ c.core.view_is c.index_mut.ensures.value;
      link_is = c.link_mut-link.ensures.value;
    }

pub core_receives-requires : goal.core_receives-requires
core_receives-requires g c =
    let its = by g (goal.at.core_receives-requires g c).After-index_mut in
    record {
      beside = may_take c.self.invariant.1 its;
      room = free c.self.invariant.1 c.args.core its.core_there c.self.view_is its.view_is 4 c.requires.room;
      may = subst (MayReceive c.args.from c.args.what) (sym (receiver_notes c.self.invariant.1 its c.self.view_is)) c.requires.may;
    }

pub invariant_of-self : goal.invariant_of-self
invariant_of-self g c =
    let its = by g (goal.at.invariant_of-self g c).After-index_mut in
    rw c.core.view_is
    (c.self.invariant.0, received_rests c.self.invariant.1 its c.core_receives.ensures, c.self.invariant.2, received_at_rest c.self.invariant.1 its c.core_receives.ensures c.self.invariant.3)

pub returns : goal.returns
returns g c = rw (← c.self.view_is, c.core.view_is) (receives_now c.self.invariant.1 (by g (goal.at.returns g c).After-index_mut) c.core_receives.ensures)
