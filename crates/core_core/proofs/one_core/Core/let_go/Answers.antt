use Rattle.core_core.proofs.Names.{ap, arith, Bool, core_view, CoreView, FitsTurns, is_any, IsCore, IsOutOf, job_out, keys_after, None, queues_alone, refl, slice_set, slips_after, subst}
use Rattle.core_core.proofs.Names.{sym, waiting_of, ℕ, ◌∙◌}
use Rattle.std.specs.Prelude.{◌-◌}
use Rattle.core_core.proofs.Fits.{IsBounded-from_turns}
use Rattle.core_core.proofs.SlipsKept.{slip_again}
use Rattle.core_core.proofs.HeldQueue.{KnowsHeld, knows_out}
use Rattle.core_core.proofs.Whole.{IsCore-ended}
use Rattle.core_core.proofs.one_core.Core.let_go.Given.{Over}
use Rattle.core_core.proofs.one_core.Core.let_go.Goals as goal
use Rattle.core_core.proofs.one_core.Core.let_go.Goals.{After-place, After-relist}

-- the core before
abbrev old_of : (g : Over) (c : After-place g) → CoreView g.row.J.Denot
old_of g c =
    let inside = c.self.inside in
    core_view inside.core inside.cores (queues_alone inside.queues) inside.tallies.items inside.floor inside.turns (job_out inside.out) inside.senders inside.mode inside.bursts

-- its job that is out is of this queue
out_of : (g : Over) (c : After-place g) → IsOutOf (old_of g c) c.args.queue
out_of g c = subst (λ (view : CoreView g.row.J.Denot). IsOutOf view c.args.queue) (sym c.self.view_is) c.requires.out

-- what is known of the queue
known : (g : Over) (c : After-place g) → KnowsHeld (old_of g c) c.self.inside.queues.slips c.self.inside.ready.keys c.args.queue
known g c =
    let out = out_of g c in
    subst (KnowsHeld (old_of g c) _ _) (sym out.2) (knows_out g.J.Task.meaning (old_of g c) _ _ _ _ _ out.0 c.self.invariant out.1)

pub index_mut-requires : goal.index_mut-requires
index_mut-requires g c = omega (arith, c.self.invariant.counted.tallies, (known g (goal.at.index_mut-requires g c).After-place).exists, c.place.ensures)

pub take_slip-requires : goal.take_slip-requires
take_slip-requires g c = record { exists = (known g (goal.at.take_slip-requires g c).After-place).exists }

pub relist-requires : goal.relist-requires
relist-requires g c =
    let at = (goal.at.relist-requires g c).After-place in
    rw c.in-Some.ensures.own (record {
      exists = rw c.take_slip.ensures.given (known g at).exists;
      out = c.take_slip.ensures.out;
      absent = (known g at).absent;
    })

-- the core from then on
abbrev new_of : (g : Over) (c : After-relist g) → CoreView g.row.J.Denot
new_of g c =
    let inside = c.self.inside in
    core_view inside.core inside.cores (queues_alone inside.queues) (slice_set inside.tallies.items c.place.result c.args.tally) inside.floor inside.turns None inside.senders inside.mode (record (inside.bursts) { «open» = None })

core_of : (g : Over) (c : After-relist g) → IsCore g.J.Task.meaning (new_of g c)
    (slips_after (is_any (waiting_of c.args.queue (queues_alone c.self.inside.queues))) c.args.queue c.self.inside.queues.slips)
    (keys_after (is_any (waiting_of c.args.queue (queues_alone c.self.inside.queues))) c.args.tally.runtime c.args.queue c.self.inside.ready.keys) (c.self.inside.inside - 1) c.self.inside.room c.self.inside.tallies.cap
core_of g c =
    let inside = c.self.inside in
    let at = (goal.at.returns g c).After-place in
    let out = out_of g at in
    let fits = subst (λ (view : CoreView g.row.J.Denot). FitsTurns view.turns 0 c.args.tally) (sym c.self.view_is) c.requires.fits in
    let tallies = ap (λ place. slice_set inside.tallies.items place c.args.tally) (c.place.ensures ∙ out.2) in
    let any : ℕ → Bool = λ queue. is_any (waiting_of queue (queues_alone inside.queues)) in
    subst (λ (queue : ℕ). IsCore g.J.Task.meaning (new_of g c) (slips_after (any queue) queue inside.queues.slips) (keys_after (any queue) c.args.tally.runtime queue inside.ready.keys) (inside.inside - 1) inside.room inside.tallies.cap) (sym out.2)
    (IsCore-ended g.J.Task.meaning (old_of g at) (new_of g c) inside.queues.slips inside.ready.keys inside.inside inside.room inside.tallies.cap out.0 c.args.tally (any out.0.queue)
    c.self.invariant out.1 refl refl refl tallies fits refl refl refl refl refl)

pub invariant_of-self : goal.invariant_of-self
invariant_of-self g c =
    let back = slip_again c.self.inside.queues.slips c.args.queue (known g (goal.at.invariant_of-self g c).After-place).there in
    rw (c.relist.ensures.keys, c.relist.ensures.slips, c.in-Some.ensures.own, c.take_slip.ensures.given, back) (core_of g c)

pub returns : goal.returns
returns g c =
    let inside = c.self.inside in
    rw (← c.self.view_is, c.relist.ensures.slips, c.take_slip.ensures.given) (record {
      leaves = λ i. core_view inside.core inside.cores (queues_alone inside.queues) (slice_set inside.tallies.items (c.place.ensures i) c.args.tally) inside.floor inside.turns None inside.senders inside.mode (record (inside.bursts) { «open» = None });
      bounded = IsBounded-from_turns (new_of g c) (core_of g c).turns;
    })
