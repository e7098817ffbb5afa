use Rattle.core_core.proofs.Names.{ap, arith, core_view, CoreView, false, IfSome, job_out, may_go_on, None, OpenTurn, Option, queues_alone, refl, slice_set}
use Rattle.core_core.proofs.Names.{subst, sym, Tally, tally_of, true≢false, ◌∙◌, ◌≡◌}
use Rattle.core_core.proofs.Fits.{IsBounded-from_turns}
use Rattle.core_core.proofs.HeldQueue.{KnowsHeld, knows_turn}
use Rattle.core_core.proofs.SettledInTurn.{after_end, IsCore-turn_ended}
use Rattle.core_core.proofs.SlipsKept.{slip_again}
use Rattle.core_core.proofs.one_core.Core.end_turn.Given.{Over}
use Rattle.core_core.proofs.one_core.Core.end_turn.Goals as goal
use Rattle.core_core.proofs.one_core.Core.end_turn.Goals.{In-Some}

-- the core before
abbrev old_of : (g : Over) (c : In-Some g) → CoreView g.row.J.Denot
old_of g c =
    let inside = c.self.inside in
    core_view inside.core inside.cores (queues_alone inside.queues) inside.tallies.items inside.floor inside.turns (job_out inside.out) inside.senders inside.mode inside.bursts

-- no job is out
free : (g : Over) (c : In-Some g) → job_out c.self.inside.out ≡ None
free g c = subst (λ (view : CoreView g.row.J.Denot). view.out ≡ None) (sym c.self.view_is) c.requires.free

-- what is known of the queue of the open turn
known : (g : Over) (c : In-Some g) → KnowsHeld (old_of g c) c.self.inside.queues.slips c.self.inside.ready.keys c.in-Some.turn.queue
known g c = knows_turn g.J.Task.meaning (old_of g c) _ _ _ _ _ c.in-Some.turn c.self.invariant (free g c) c.in-Some.is

pub shares-shares-requires : goal.shares-shares-requires
shares-shares-requires g c = record { exists = (known g (goal.at.shares-shares-requires g c).In-Some).exists }

pub index-requires : goal.index-requires
index-requires g c = omega (arith, c.self.invariant.counted.tallies, (known g (goal.at.index-requires g c).In-Some).exists, c.place.ensures)

pub index_mut-requires : goal.index_mut-requires
index_mut-requires g c = omega (arith, c.self.invariant.counted.tallies, (known g (goal.at.index_mut-requires g c).In-Some).exists, c.place-2.ensures)

pub costing-tally-requires : goal.costing-tally-requires
costing-tally-requires g c =
    let fits = (known g (goal.at.costing-tally-requires g c).In-Some).before c.place.result c.place.ensures c.index.result.now c.index.ensures in
    record {
      runtime = omega (arith, fits.runtime, c.self.ranges);
      time = omega (arith, fits.time, c.self.ranges);
    }

pub take_slip-requires : goal.take_slip-requires
take_slip-requires g c = record { exists = (known g (goal.at.take_slip-requires g c).In-Some).exists }

pub one_note-requires : goal.one_note-requires
one_note-requires g c = assumption

pub unreachable-requires-in_default-take_slip : goal.unreachable-requires-in_default-take_slip
unreachable-requires-in_default-take_slip g c =
    true≢false (sym (known g (goal.at.unreachable-requires-in_default-take_slip g c).In-Some).there ∙ sym c.in_default-take_slip.ensures.there)

pub relist-requires : goal.relist-requires
relist-requires g c =
    let at = (goal.at.relist-requires g c).In-Some in
    rw c.in-Some-take_slip.ensures.own (record {
      exists = rw c.take_slip.ensures.given (known g at).exists;
      out = c.take_slip.ensures.out;
      absent = (known g at).absent;
    })

pub invariant_of-self : goal.invariant_of-self
invariant_of-self g c =
    let at = (goal.at.invariant_of-self g c).In-Some in
    let inside = c.self.inside in
    let turn = c.in-Some.turn in
    let cost = c.costing-tally.ensures in
    let was = (known g at).read c.place.result c.place.ensures c.index.result.now c.index.ensures in
    let back = slip_again inside.queues.slips turn.queue (known g at).there in
    rw (c.relist.ensures.keys, c.relist.ensures.slips, c.in-Some-take_slip.ensures.own, c.take_slip.ensures.given, back, c.place-2.ensures)
    (IsCore-turn_ended g.J.Task.meaning (old_of g at) inside.queues.slips inside.ready.keys inside.inside inside.room inside.tallies.cap c.self.invariant turn c.costing-tally.result c.shares-shares.result c.in-Some.is (free g at)
    (cost.value ∙ ap (λ (one : Tally). after_end one turn.time c.shares-shares.result) was) (omega (arith, cost.charge, ap (λ (one : Tally). one.runtime) was)) (omega (arith, cost.clamped, ap (λ (one : Tally). one.time) was)))

pub returns-clause-ends : goal.returns-clause-ends
returns-clause-ends g c =
    let at = (goal.at.returns-clause-ends g c).In-Some in
    let inside = c.self.inside in
    let turn = c.in-Some.turn in
    let cost = c.costing-tally.ensures in
    let was = (known g at).read c.place.result c.place.ensures c.index.result.now c.index.ensures in
    let over = subst (λ (view : CoreView g.row.J.Denot). IfSome view.bursts.open (λ (one : OpenTurn). may_go_on view one ≡ false)) (sym c.self.view_is) c.requires.over in
    let written = ap (λ place. slice_set inside.tallies.items place c.costing-tally.result) c.place-2.ensures
    ∙ ap (slice_set inside.tallies.items turn.queue) (cost.value ∙ ap (λ (one : Tally). after_end one turn.time c.shares-shares.result) was ∙ ap (after_end (tally_of turn.queue (old_of g at)) turn.time) c.shares-shares.ensures) in
    rw (← c.self.view_is, c.relist.ensures.slips, c.take_slip.ensures.given) (record {
      turn = turn;
      was_open = c.in-Some.is;
      free = free g at;
      over = subst (λ (found : Option OpenTurn). IfSome found (λ (one : OpenTurn). may_go_on (old_of g at) one ≡ false)) c.in-Some.is over;
      its_time = refl;
      rest = λ i. core_view inside.core inside.cores (queues_alone inside.queues) (written i) inside.floor inside.turns (job_out inside.out) inside.senders inside.mode (record (inside.bursts) { «open» = None });
      noted = c.one_note.ensures;
    })

pub returns-clause-bounded : goal.returns-clause-bounded
returns-clause-bounded g c =
    let at = (goal.at.returns-clause-bounded g c).In-Some in
    let inside = c.self.inside in
    let turn = c.in-Some.turn in
    let cost = c.costing-tally.ensures in
    let was = (known g at).read c.place.result c.place.ensures c.index.result.now c.index.ensures in
    let core = IsCore-turn_ended g.J.Task.meaning (old_of g at) inside.queues.slips inside.ready.keys inside.inside inside.room inside.tallies.cap c.self.invariant turn c.costing-tally.result c.shares-shares.result c.in-Some.is (free g at)
    (cost.value ∙ ap (λ (one : Tally). after_end one turn.time c.shares-shares.result) was) (omega (arith, cost.charge, ap (λ (one : Tally). one.runtime) was)) (omega (arith, cost.clamped, ap (λ (one : Tally). one.time) was)) in
    rw c.place-2.ensures (IsBounded-from_turns _ core.turns)
