use Rattle.core_core.proofs.Names.{All-nil, ap, arith, core_view, CoreView, false, FitsTurns, is_any, is_number, is_working, IsCore, IsReady, job_out, keys_after, length, not, Parks, queue_count, queue_open, queues_alone, refl}
use Rattle.core_core.proofs.Names.{slice_index_or, slice_set, slips_after, subst, sym, tally_woken, true, true≢false, unsettled_count, waiting_of, [], ◌<◌, ◌∙◌, ◌≡◌}
use Rattle.std.specs.Prelude.{Bool, List}
use Rattle.core_core.proofs.Entries.{is_any-from_some}
use Rattle.core_core.proofs.Fits.{placed_fits, IsBounded-from_turns}
use Rattle.core_core.proofs.Listed.{LacksQueue-from_none}
use Rattle.core_core.proofs.Moved.{ready_unparked, IsCore-activated, IsCore-still}
use Rattle.core_core.proofs.Parts.{idle_entry}
use Rattle.core_core.proofs.SlipsKept.{slip_there}
use Rattle.core_core.proofs.Unparked.{nobody_if_empty, EndsParks-one, EndsParks-placed}
use Rattle.core_core.proofs.one_core.Core.unpark_idle.Given.{Over}
use Rattle.core_core.proofs.one_core.Core.unpark_idle.Goals as goal
use Rattle.core_core.proofs.one_core.Core.unpark_idle.Goals.{After-enter_placed}

pub unpark_all-requires : goal.unpark_all-requires
unpark_all-requires g c = record { exists = subst (λ (view : CoreView g.row.J.Denot). c.args.queue < queue_count view.queues) (sym c.self.view_is) c.requires.exists }

pub is_empty-requires : goal.is_empty-requires
is_empty-requires g c =
    let exists = subst (λ (view : CoreView g.row.J.Denot). c.args.queue < queue_count view.queues) (sym c.self.view_is) c.requires.exists in
    record { exists = omega (arith, exists, c.unpark_all.ensures.moves.same_count) }

pub invariant_of-self : goal.invariant_of-self
invariant_of-self g c =
    let inside = c.self.inside in
    let old = core_view inside.core inside.cores (queues_alone inside.queues) inside.tallies.items inside.floor inside.turns (job_out inside.out) inside.senders inside.mode inside.bursts in
    let idle = subst (λ (view : CoreView g.row.J.Denot). is_working c.args.queue view ≡ false) (sym c.self.view_is) c.requires.idle in
    let did = c.unpark_all.ensures in
    rw did.slips (IsCore-still g.J.Task.meaning old (queues_alone c.unpark_all.new.self) inside.queues.slips inside.ready.keys inside.inside inside.room inside.tallies.cap c.self.invariant c.args.queue _ [] did.moves did.limits
    (ready_unparked g.J.Task.meaning old c.args.queue c.self.invariant.pollable) (All-nil (λ parked. IsReady g.J.Task.meaning parked.1)) (c.is_empty.ensures.0 c.if-is_empty.true) idle)

pub returns-then-is_empty-clause-ends : goal.returns-then-is_empty-clause-ends
returns-then-is_empty-clause-ends g c =
    let inside = c.self.inside in
    let old = core_view inside.core inside.cores (queues_alone inside.queues) inside.tallies.items inside.floor inside.turns (job_out inside.out) inside.senders inside.mode inside.bursts in
    let moves = c.unpark_all.ensures.moves in
    let nobody = nobody_if_empty old (queues_alone c.unpark_all.new.self) c.args.queue moves (c.is_empty.ensures.0 c.if-is_empty.true) in
    rw (← c.self.view_is) (EndsParks-one old (queues_alone c.unpark_all.new.self) inside.tallies.items c.args.queue moves refl (λ other apart. refl)
    (sym (ap (λ (more : Parks g.row.J.Denot). tally_woken (is_any more) c.args.queue old) nobody)))

pub returns-then-is_empty-clause-bounded : goal.returns-then-is_empty-clause-bounded
returns-then-is_empty-clause-bounded g c =
    let inside = c.self.inside in
    let core = c.self.invariant in
    IsBounded-from_turns (core_view inside.core inside.cores (queues_alone c.unpark_all.new.self) inside.tallies.items inside.floor inside.turns (job_out inside.out) inside.senders inside.mode inside.bursts) (record {
      tallies = core.turns.tallies;
      floor = core.turns.floor;
    })

pub index_mut-tally-requires : goal.index_mut-tally-requires
index_mut-tally-requires g c =
    let exists = subst (λ (view : CoreView g.row.J.Denot). c.args.queue < queue_count view.queues) (sym c.self.view_is) c.requires.exists in
    omega (arith, c.self.invariant.counted.tallies, exists, c.place.ensures)

pub enter_placed-requires : goal.enter_placed-requires
enter_placed-requires g c =
    let inside = c.self.inside in
    let old = core_view inside.core inside.cores (queues_alone inside.queues) inside.tallies.items inside.floor inside.turns (job_out inside.out) inside.senders inside.mode inside.bursts in
    let idle = subst (λ (view : CoreView g.row.J.Denot). is_working c.args.queue view ≡ false) (sym c.self.view_is) c.requires.idle in
    let exists = subst (λ (view : CoreView g.row.J.Denot). c.args.queue < queue_count view.queues) (sym c.self.view_is) c.requires.exists in
    let none = c.self.invariant.listed.at c.args.queue ∙ idle_entry old c.args.queue idle in
    let did = c.unpark_all.ensures in
    record {
      exists = omega (arith, exists, did.moves.same_count);
      slip = ap (λ (slips : List Bool). slice_index_or slips c.args.queue false) did.slips ∙ slip_there _ _ inside.ready.keys c.args.queue exists none c.self.invariant.slipped;
      absent = LacksQueue-from_none c.args.queue inside.ready.keys none;
    }

-- the queue isn't empty then
some_of : (g : Over) (c : After-enter_placed g) → is_any (waiting_of c.args.queue (queues_alone c.unpark_all.new.self)) ≡ true
some_of g c = is_any-from_some (waiting_of c.args.queue (queues_alone c.unpark_all.new.self)) (λ none. true≢false (sym (c.is_empty.ensures.1 none) ∙ c.if-is_empty.false))

core_of : (g : Over) (c : After-enter_placed g) → IsCore g.J.Task.meaning
    (core_view c.self.inside.core c.self.inside.cores (queues_alone c.unpark_all.new.self) (slice_set c.self.inside.tallies.items c.args.queue (record c.index_mut-tally.result.now { runtime = c.placed-vr.result }))
    c.self.inside.floor c.self.inside.turns (job_out c.self.inside.out) c.self.inside.senders c.self.inside.mode c.self.inside.bursts)
    (slips_after (not (is_number c.args.queue (queue_open c.self.inside.bursts.open))) c.args.queue c.self.inside.queues.slips)
    (keys_after (not (is_number c.args.queue (queue_open c.self.inside.bursts.open))) c.placed-vr.result c.args.queue c.self.inside.ready.keys) c.self.inside.inside c.self.inside.room c.self.inside.tallies.cap
core_of g c =
    let inside = c.self.inside in
    let core = c.self.invariant in
    let old = core_view inside.core inside.cores (queues_alone inside.queues) inside.tallies.items inside.floor inside.turns (job_out inside.out) inside.senders inside.mode inside.bursts in
    let polls = unsettled_count old in
    let idle = subst (λ (view : CoreView g.row.J.Denot). is_working c.args.queue view ≡ false) (sym c.self.view_is) c.requires.idle in
    let exists = subst (λ (view : CoreView g.row.J.Denot). c.args.queue < queue_count view.queues) (sym c.self.view_is) c.requires.exists in
    let did = c.unpark_all.ensures in
    let was = c.index_mut-tally.result.now in
    let there : c.place.result < length inside.tallies.items = omega (arith, c.place.ensures, core.counted.tallies, exists) in
    let before : FitsTurns inside.turns polls was = subst (FitsTurns inside.turns polls) (sym c.index_mut-tally.ensures.value) (core.turns.tallies c.place.result was there) in
    let fits : FitsTurns inside.turns polls (record was { runtime = c.placed-vr.result }) =
    subst (λ runtime. FitsTurns inside.turns polls (record was { runtime = runtime })) (sym c.placed-vr.ensures) (placed_fits inside.turns polls inside.floor was false before core.turns.floor) in
    IsCore-activated g.J.Task.meaning old (queues_alone c.unpark_all.new.self) inside.queues.slips inside.ready.keys inside.inside inside.room inside.tallies.cap core
    (record { vr = c.placed-vr.result; queue = c.args.queue }) (record was { runtime = c.placed-vr.result }) _ [] did.moves did.limits
    (ready_unparked g.J.Task.meaning old c.args.queue core.pollable) (All-nil (λ parked. IsReady g.J.Task.meaning parked.1)) (sym (ap is_any did.moves.waits) ∙ some_of g c) idle exists refl fits (is_number c.args.queue (queue_open inside.bursts.open)) refl

pub invariant_of-self-2 : goal.invariant_of-self-2
invariant_of-self-2 g c = rw (c.enter_placed.ensures.keys, c.enter_placed.ensures.given, c.unpark_all.ensures.slips, c.place.ensures) (core_of g (goal.at.invariant_of-self-2 g c).After-enter_placed)

pub returns-clause-ends : goal.returns-clause-ends
returns-clause-ends g c =
    let inside = c.self.inside in
    let old = core_view inside.core inside.cores (queues_alone inside.queues) inside.tallies.items inside.floor inside.turns (job_out inside.out) inside.senders inside.mode inside.bursts in
    let idle = subst (λ (view : CoreView g.row.J.Denot). is_working c.args.queue view ≡ false) (sym c.self.view_is) c.requires.idle in
    let exists = subst (λ (view : CoreView g.row.J.Denot). c.args.queue < queue_count view.queues) (sym c.self.view_is) c.requires.exists in
    let within : c.args.queue < length inside.tallies.items = omega (arith, c.self.invariant.counted.tallies, exists) in
    let was = c.index_mut-tally.result.now in
    rw (← c.self.view_is, c.enter_placed.ensures.given) (EndsParks-placed old (queues_alone c.unpark_all.new.self) c.args.queue c.place.result was (record was { runtime = c.placed-vr.result }) c.unpark_all.ensures.moves idle
    (some_of g (goal.at.returns-clause-ends g c).After-enter_placed) c.place.ensures within c.index_mut-tally.ensures.value (ap (λ runtime. record was { runtime = runtime }) c.placed-vr.ensures))

pub returns-clause-bounded : goal.returns-clause-bounded
returns-clause-bounded g c = rw c.place.ensures (IsBounded-from_turns _ (core_of g (goal.at.returns-clause-bounded g c).After-enter_placed).turns)
