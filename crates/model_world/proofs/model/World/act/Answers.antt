use Rattle.model_world.proofs.Words.{◌≡◌, ℕ, ◌<◌, ◌≤◌, ap, arith, Parts}
use Rattle.model_world.proofs.Acts.{IsCoreActing, core_acting, core_rests, core_at_rest, core_journals, acted_on, acts_now, its_notes_fit}
use Rattle.model_world.proofs.CoreSteps.{viewed}
use Rattle.model_world.proofs.Sending.{its_sender, outside_acting, outside_rests, outside_journals}
use Rattle.model_world.proofs.model.World.act.Given.{Over}
use Rattle.model_world.proofs.model.World.act.Goals as goal
use Rattle.model_world.proofs.model.World.act.Goals.{After-index_mut-actor}

abbrev old : (g : Over) (c : After-index_mut-actor g) → Parts g.row.J.Denot ℕ
old g c = record { cores = c.self.inside.cores; cap = c.self.inside.cap; burst = c.self.inside.burst; room = c.self.inside.room; inside = c.self.inside.inside.items; outside = c.self.inside.outside; links = c.self.inside.links }

pub link_mut-link-requires : goal.link_mut-link-requires
link_mut-link-requires g c =
    let all = c.self.invariant.1.all_there in
    let there : c.args.from ≤ c.self.inside.cores = omega (arith, c.requires.sender, ap (λ world. world.cores) c.self.view_is) in
    record {
      sender = omega (arith, all.rows_are, there);
      core = omega (arith, all.links_are c.args.from there, c.requires.core, ap (λ world. world.cores) c.self.view_is);
    }

-- the core that acts, and its link
by_core : (g : Over) (c : After-index_mut-actor g) → IsCoreActing (old g c) c.args.from c.args.to c.index_mut-actor.result.now c.link_mut-link.result.now
by_core g c =
    let there : c.args.from < c.self.inside.cores = omega (arith, c.from.view_is, c.if-from-self.true) in
    core_acting c.self.invariant.1 there (omega (arith, c.requires.core, ap (λ world. world.cores) c.self.view_is))
    (viewed c.self.invariant.1 c.args.from there _ c.from.view_is c.index_mut-actor.ensures.value) c.link_mut-link.ensures.value

pub core_acts-requires : goal.core_acts-requires
core_acts-requires g c =
    let by = by_core g (goal.at.core_acts-requires g c).After-index_mut-actor in
    record {
      beside = (its_sender c.self.invariant.1 by.acting).out;
      lane = (its_sender c.self.invariant.1 by.acting).lane;
      at = c.requires.at;
      room = its_notes_fit c.self.invariant.1 by.acting c.self.view_is c.args.act c.requires.room;
      ready = c.requires.ready;
    }

pub invariant_of-self : goal.invariant_of-self
invariant_of-self g c =
    let by = by_core g (goal.at.invariant_of-self g c).After-index_mut-actor in
    rw c.from.view_is (c.self.invariant.0, core_rests c.self.invariant.1 by c.core_acts.ensures, c.self.invariant.2, core_at_rest c.self.invariant.1 by c.core_acts.ensures c.self.invariant.3)

pub returns-then-from-self : goal.returns-then-from-self
returns-then-from-self g c =
    let by = by_core g (goal.at.returns-then-from-self g c).After-index_mut-actor in
    rw (← c.self.view_is, c.from.view_is)
    (acts_now c.self.invariant.1 by.acting (core_journals c.self.invariant.1 by c.core_acts.ensures) c.args.act c.requires.own c.requires.at c.core_acts.ensures.acted)

-- the outside actor, who acts, and its link
is_last : (cores from inside count : ℕ) → inside ≡ from → cores ≡ count → from ≤ count → cores ≤ inside → from ≡ cores
is_last cores from inside count from_is cores_are there past = omega arith

pub desk_acts-requires : goal.desk_acts-requires
desk_acts-requires g c =
    let last = is_last c.self.inside.cores c.args.from _ _ c.from.view_is (ap (λ world. world.cores) c.self.view_is) c.requires.sender c.if-from-self.false in
    let acting = outside_acting c.self.invariant.1 last (omega (arith, c.requires.core, ap (λ world. world.cores) c.self.view_is)) c.link_mut-link.ensures.value in
    record {
      beside = (its_sender c.self.invariant.1 acting).out;
      lane = (its_sender c.self.invariant.1 acting).lane;
      at = c.requires.at;
      room = its_notes_fit c.self.invariant.1 acting c.self.view_is c.args.act c.requires.room;
      ready = c.requires.ready;
    }

pub invariant_of-self-2 : goal.invariant_of-self-2
invariant_of-self-2 g c =
    let last = is_last c.self.inside.cores c.args.from _ _ c.from.view_is (ap (λ world. world.cores) c.self.view_is) c.requires.sender c.if-from-self.false in
    let acting = outside_acting c.self.invariant.1 last (omega (arith, c.requires.core, ap (λ world. world.cores) c.self.view_is)) c.link_mut-link.ensures.value in
    (c.self.invariant.0, outside_rests c.self.invariant.1 last acting (acted_on c.args.act c.desk_acts.ensures), c.self.invariant.2, c.self.invariant.3)

pub returns : goal.returns
returns g c =
    let last = is_last c.self.inside.cores c.args.from _ _ c.from.view_is (ap (λ world. world.cores) c.self.view_is) c.requires.sender c.if-from-self.false in
    let acting = outside_acting c.self.invariant.1 last (omega (arith, c.requires.core, ap (λ world. world.cores) c.self.view_is)) c.link_mut-link.ensures.value in
    rw (← c.self.view_is)
    (acts_now c.self.invariant.1 acting (outside_journals c.self.invariant.1 last acting (acted_on c.args.act c.desk_acts.ensures)) c.args.act c.requires.own c.requires.at c.desk_acts.ensures)
