use Rattle.core_core.proofs.Names.{ap, arith, core_view, CoreView, is_some, job_out, JobOut, None, number_if, Option, out_count, queues_alone}
use Rattle.core_core.proofs.Names.{Some, subst, sym, ◌∙◌, ◌≡◌}
use Rattle.core_core.proofs.Fits.{IsBounded-from_turns}
use Rattle.core_core.proofs.SlipsKept.{slip_again}
use Rattle.core_core.proofs.HeldQueue.{KnowsHeld, knows_out}
use Rattle.core_core.proofs.Charged.{parks_charged}
use Rattle.core_core.proofs.one_core.Core.park_charged.Given.{Over}
use Rattle.core_core.proofs.one_core.Core.park_charged.Goals as goal
use Rattle.core_core.proofs.one_core.Core.park_charged.Goals.{In-Some}

-- the core before, and its job that is out
abbrev old_of : (g : Over) (c : In-Some g) → CoreView g.row.J.Denot
old_of g c =
    let inside = c.self.inside in
    core_view inside.core inside.cores (queues_alone inside.queues) inside.tallies.items inside.floor inside.turns (job_out inside.out) inside.senders inside.mode inside.bursts

abbrev out_of : (g : Over) (c : In-Some g) → JobOut g.row.J.Denot
out_of g c = record { name = c.in-Some.out.name; queue = c.in-Some.out.queue; woken = c.in-Some.out.woken; job = c.in-Some.out.job.value }

was_out : (g : Over) (c : In-Some g) → job_out c.self.inside.out ≡ Some (out_of g c)
was_out g c = ap job_out (sym c.take.ensures.value ∙ c.in-Some.is)

job_outside : (g : Over) (c : In-Some g) → out_count (old_of g c) ≡ 1
job_outside g c = ap (λ (held : Option (JobOut g.row.J.Denot)). number_if (is_some held)) (was_out g c)

-- what is known of its queue
known : (g : Over) (c : In-Some g) → KnowsHeld (old_of g c) c.self.inside.queues.slips c.self.inside.ready.keys c.in-Some.out.queue
known g c = knows_out g.J.Task.meaning (old_of g c) _ _ _ _ _ (out_of g c) c.self.invariant (was_out g c)

pub shares-shares-requires : goal.shares-shares-requires
shares-shares-requires g c = record { exists = (known g (goal.at.shares-shares-requires g c).In-Some).exists }

pub index-requires : goal.index-requires
index-requires g c = omega (arith, c.self.invariant.counted.tallies, (known g (goal.at.index-requires g c).In-Some).exists, c.place.ensures)

pub index_mut-requires : goal.index_mut-requires
index_mut-requires g c = omega (arith, c.self.invariant.counted.tallies, (known g (goal.at.index_mut-requires g c).In-Some).exists, c.place-2.ensures)

pub charged-tally-requires : goal.charged-tally-requires
charged-tally-requires g c =
    let fits = (known g (goal.at.charged-tally-requires g c).In-Some).before c.place.result c.place.ensures c.index.result.now c.index.ensures in
    record {
      runtime = omega (arith, fits.runtime, c.self.ranges);
      time = omega (arith, fits.time, c.self.ranges);
    }

pub park-requires : goal.park-requires
park-requires g c =
    let core = c.self.invariant in
    let at = (goal.at.park-requires g c).In-Some in
    record { exists = (known g at).exists; room = omega (arith, job_outside g at, core.counted.all_inside, core.counted.within_room, core.counted.same_room) }

pub take_slip-requires : goal.take_slip-requires
take_slip-requires g c = record { exists = omega (arith, (known g (goal.at.take_slip-requires g c).In-Some).exists, c.park.ensures.parks.same_count) }

pub relist-requires : goal.relist-requires
relist-requires g c =
    let at = (goal.at.relist-requires g c).In-Some in
    rw c.in-Some-take_slip.ensures.own (record {
      exists = rw c.take_slip.ensures.given (omega (arith, (known g at).exists, c.park.ensures.parks.same_count));
      out = c.take_slip.ensures.out;
      absent = (known g at).absent;
    })

pub invariant_of-self : goal.invariant_of-self
invariant_of-self g c =
    let at = (goal.at.invariant_of-self g c).In-Some in
    let charged = c.charged-tally.ensures in
    let no_turn = subst (λ (view : CoreView g.row.J.Denot). view.bursts.open ≡ None) (sym c.self.view_is) c.requires.no_turn in
    let back = slip_again c.self.inside.queues.slips c.in-Some.out.queue (known g at).there in
    rw (c.relist.ensures.keys, c.relist.ensures.slips, c.in-Some-take_slip.ensures.own, c.take_slip.ensures.given, c.park.ensures.slips, back, c.take.ensures.after, c.place-2.ensures)
    (parks_charged g.J.Task.meaning (old_of g at) _ _ _ _ _ c.self.invariant (out_of g at) (was_out g at) no_turn c.args.time c.place.result c.shares-shares.result c.index.result.now c.charged-tally.result
    c.place.ensures c.index.ensures c.shares-shares.ensures charged.value charged.charge charged.clamped (queues_alone c.park.new.self) c.args.job c.park.ensures.parks c.park.ensures.limits c.requires.ready).0

pub returns : goal.returns
returns g c =
    let at = (goal.at.returns g c).In-Some in
    let charged = c.charged-tally.ensures in
    let no_turn = subst (λ (view : CoreView g.row.J.Denot). view.bursts.open ≡ None) (sym c.self.view_is) c.requires.no_turn in
    let settled = parks_charged g.J.Task.meaning (old_of g at) _ _ _ _ _ c.self.invariant (out_of g at) (was_out g at) no_turn c.args.time c.place.result c.shares-shares.result c.index.result.now c.charged-tally.result
    c.place.ensures c.index.ensures c.shares-shares.ensures charged.value charged.charge charged.clamped (queues_alone c.park.new.self) c.args.job c.park.ensures.parks c.park.ensures.limits c.requires.ready in
    rw (← c.self.view_is, c.relist.ensures.slips, c.take_slip.ensures.given, c.take.ensures.after, c.place-2.ensures) (record { parks = settled.1; bounded = IsBounded-from_turns _ settled.0.turns })
