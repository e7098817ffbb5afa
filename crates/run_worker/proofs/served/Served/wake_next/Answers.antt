use Rattle.run_worker.proofs.Names.{ActsAsItMay, ap, arith, HasParked, IsBetweenTurns, IsReady, JobId, KnowsSeat, LinkedView, own_job, polls_of, refl, ServedView, StepsServed, subst, sym, WakesNext, WakesOwn, ◌∙◌, ◌≡◌}
use Rattle.std.specs.Prelude.{false}
use Rattle.run_worker.specs.declared.waking.Due.TheVariants.{Sent, Awake, Refused}
use Rattle.core_queues.specs.Waking.{FindsNoPark}
use Rattle.run_worker.proofs.Alone.{knows_along}
use Rattle.run_worker.proofs.Between.{between_behind}
use Rattle.run_worker.proofs.Due.{due_forgotten}
use Rattle.run_worker.proofs.Fewer.{not_before}
use Rattle.run_worker.proofs.Spare.{ready_room}
use Rattle.run_worker.proofs.Telling.{looked_alone, looked_steps}
use Rattle.run_worker.proofs.Woken.{own_few, own_notes_none, own_tells, refused_served, sent_served}
use Rattle.run_worker.proofs.served.Served.wake_next.Given.{Over}
use Rattle.run_worker.proofs.served.Served.wake_next.Goals as goal
use Rattle.run_worker.proofs.served.Served.wake_next.Goals.{After-look, After-wake_own}

-- a worker that isn't at its end did nothing by its look at the room
looked : (g : Over) (c : After-look g) → c.look.new.self.ending ≡ false → c.look.new.self ≡ c.args.self.now
looked g c going = c.look.ensures.looks.same (going ∙ sym (not_before _ _ c.look.ensures.looks.ended going))

-- the core at its seat is as it was behind that look
seat_is : (g : Over) (c : After-wake_own g) → c.self.inside.seat ≡ c.look.new.self.linked
seat_is g c = ap (λ (view : ServedView _ _). view.linked) c.self.view_is

pub returns-then-self-clause-steps : goal.returns-then-self-clause-steps
returns-then-self-clause-steps g c = looked_alone 2 c.args.self.now c.look.new.self c.look.ensures.looks c.look.ensures.stays

pub returns-in_default-clause-steps : goal.returns-in_default-clause-steps
returns-in_default-clause-steps g c = looked_alone 2 c.args.self.now c.look.new.self c.look.ensures.looks c.look.ensures.stays

pub returns-then-not-is_parked-clause-steps : goal.returns-then-not-is_parked-clause-steps
returns-then-not-is_parked-clause-steps g c = looked_alone 2 c.args.self.now c.look.new.self c.look.ensures.looks c.look.ensures.stays

pub returns-then-not-is_parked-clause-wakes : goal.returns-then-not-is_parked-clause-wakes
returns-then-not-is_parked-clause-wakes g c going =
    let here = goal.at.returns-then-not-is_parked-clause-wakes g c in
    let same = ap (λ (view : ServedView _ _). view.linked) (looked g here.After-look going) in
    subst (λ (old : LinkedView _ _). WakesNext c.args.now old c.args.timers.now Awake c.look.new.self.linked c.forget.new.self) same (
      c.in-Some.name,
      c.in-Some.ensures.due,
      subst (FindsNoPark c.look.new.self.linked.recorded.core.queues) c.own_job-job.ensures (c.is_parked.ensures.awake c.if-not-is_parked.true),
      refl,
      due_forgotten _ _ c.args.now c.in-Some.name c.forget.result c.in-Some.ensures.due c.forget.ensures.forgot c.forget.ensures.none,
    )

-- it is ready for a step, and not at its end
ready : (g : Over) (c : After-wake_own g) → IsReady false c.self.inside.seat.recorded
ready g c = subst (λ ending. IsReady ending c.self.inside.seat.recorded) c.if-self.false (subst (λ (view : ServedView _ _). IsReady view.ending view.linked.recorded) (sym c.self.view_is) c.look.ensures.ready)

acts : (g : Over) (c : After-wake_own g) → ActsAsItMay false c.self.inside.seat.recorded
acts g c = subst (λ ending. ActsAsItMay ending c.self.inside.seat.recorded) c.if-self.false c.self.invariant.0.acts

between : (g : Over) (c : After-wake_own g) → IsBetweenTurns c.wake_own.new.self.recorded
between g c = between_behind _ _ c.wake_own.ensures.stays (own_notes_none c.own_job-job.result c.wake_own.result _ _ c.wake_own.ensures.wakes) c.self.invariant.0.between

knows : (g : Over) (c : After-wake_own g) → KnowsSeat c.self.inside.cores c.self.inside.least c.self.inside.alone c.wake_own.new.self
knows g c = knows_along c.self.inside.cores c.self.inside.least c.self.inside.alone c.self.inside.seat c.wake_own.new.self c.wake_own.ensures.stays c.self.invariant.1

-- its job is parked
parked : (g : Over) (c : After-wake_own g) → HasParked c.self.inside.seat c.own_job-job.result
parked g c = subst (λ (linked : LinkedView _ _). HasParked linked c.own_job-job.result) (sym (seat_is g c)) (c.is_parked.ensures.parked c.if-not-is_parked.false)

steps : (g : Over) (c : After-wake_own g) → StepsServed 2 c.args.self.now c.wake_own.result (record { linked = c.wake_own.new.self; ending = c.self.inside.ending })
steps g c =
    looked_steps 2 c.args.self.now c.look.new.self (record { linked = c.self.inside.seat; ending = c.self.inside.ending }) c.wake_own.new.self c.wake_own.result c.self.view_is c.look.ensures.looks c.look.ensures.stays c.wake_own.ensures.stays
    (own_tells c.own_job-job.result c.wake_own.result c.self.inside.seat c.wake_own.new.self c.wake_own.ensures.wakes) (own_few c.own_job-job.result c.wake_own.result c.self.inside.seat c.wake_own.new.self c.wake_own.ensures.wakes)

-- the core was as it is there, and the wake is of its own job
same : (g : Over) (c : After-wake_own g) → c.self.inside.ending ≡ false → c.self.inside.seat ≡ c.args.self.now.linked
same g c going =
    let looked : c.look.new.self.ending ≡ false = sym (ap (λ (view : ServedView _ _). view.ending) c.self.view_is) ∙ going in
    seat_is g c ∙ ap (λ (view : ServedView _ _). view.linked) (c.look.ensures.looks.same (looked ∙ sym (not_before _ _ c.look.ensures.looks.ended looked)))

named : (g : Over) (c : After-wake_own g) → c.own_job-job.result ≡ own_job c.self.inside.seat c.in-Some.name
named g c = c.own_job-job.ensures ∙ ap (λ (linked : LinkedView _ _). own_job linked c.in-Some.name) (sym (seat_is g c))

wakes : (g : Over) (c : After-wake_own g) → WakesOwn (own_job c.self.inside.seat c.in-Some.name) c.self.inside.seat c.wake_own.result c.wake_own.new.self
wakes g c = subst (λ job. WakesOwn job c.self.inside.seat c.wake_own.result c.wake_own.new.self) (named g c) c.wake_own.ensures.wakes

pub wake_own-requires : goal.wake_own-requires
wake_own-requires g c = record { room = omega (arith, ready_room c.self.inside.seat c.self.invariant.0.linked c.self.inside.ending (subst (λ (view : ServedView _ _). IsReady view.ending view.linked.recorded) (sym c.self.view_is) c.look.ensures.ready)) }

pub invariant_of-self : goal.invariant_of-self
invariant_of-self g c =
    let here = (goal.at.invariant_of-self g c).After-wake_own in (
      rw c.if-self.false (refused_served c.self.inside.seat c.wake_own.new.self c.own_job-job.result c.self.invariant.0.linked (c.wake_own.ensures.linked c.self.invariant.0.linked) c.self.invariant.0.between (between g here) c.wake_own.ensures.stays (ready g here) (acts g here)
          c.if-not-wake_own.ensures.wakes),
      knows g here,
    )

pub invariant_of-self-2 : goal.invariant_of-self-2
invariant_of-self-2 g c =
    let here = (goal.at.invariant_of-self-2 g c).After-wake_own in
    let it = parked g here in (
      rw c.if-self.false (sent_served c.self.inside.seat c.wake_own.new.self c.own_job-job.result c.self.invariant.0.linked (c.wake_own.ensures.linked c.self.invariant.0.linked) c.self.invariant.0.between (between g here) c.wake_own.ensures.stays (ready g here) (acts g here)
          (ap (λ (job : JobId). job.to) (named g here)) it.0 it.1 c.if-not-wake_own.ensures.wakes),
      knows g here,
    )

pub returns-then-not-wake_own-clause-wakes : goal.returns-then-not-wake_own-clause-wakes
returns-then-not-wake_own-clause-wakes g c going =
    let here = (goal.at.returns-then-not-wake_own-clause-wakes g c).After-wake_own in
    subst (λ (old : LinkedView _ _). WakesNext c.args.now old c.args.timers.now Refused c.wake_own.new.self c.args.timers.now) (same g here going) (
      c.in-Some.name,
      c.in-Some.ensures.due,
      subst (HasParked c.self.inside.seat) (named g here) (parked g here),
      subst (λ taken. WakesOwn (own_job c.self.inside.seat c.in-Some.name) c.self.inside.seat taken c.wake_own.new.self) c.if-not-wake_own.true (wakes g here),
      refl,
    )

pub returns-then-not-wake_own-clause-polls : goal.returns-then-not-wake_own-clause-polls
returns-then-not-wake_own-clause-polls g c = own_notes_none _ _ _ _ c.wake_own.ensures.wakes ∙ (ap (λ (view : ServedView _ _). polls_of view.linked.recorded.journal.notes) c.self.view_is ∙ c.look.ensures.polls)

pub returns-clause-steps : goal.returns-clause-steps
returns-clause-steps g c =
    let here = (goal.at.returns-clause-steps g c).After-wake_own in
    subst (λ taken. StepsServed 2 c.args.self.now taken (record { linked = c.wake_own.new.self; ending = c.self.inside.ending })) c.if-not-wake_own.false (steps g here)

pub returns-clause-wakes : goal.returns-clause-wakes
returns-clause-wakes g c going =
    let here = (goal.at.returns-clause-wakes g c).After-wake_own in
    subst (λ (old : LinkedView _ _). WakesNext c.args.now old c.args.timers.now Sent c.wake_own.new.self c.forget-2.new.self) (same g here going) (
      c.in-Some.name,
      c.in-Some.ensures.due,
      subst (HasParked c.self.inside.seat) (named g here) (parked g here),
      subst (λ taken. WakesOwn (own_job c.self.inside.seat c.in-Some.name) c.self.inside.seat taken c.wake_own.new.self) c.if-not-wake_own.false (wakes g here),
      due_forgotten _ _ c.args.now c.in-Some.name c.forget-2.result c.in-Some.ensures.due c.forget-2.ensures.forgot c.forget-2.ensures.none,
    )

pub returns-clause-polls : goal.returns-clause-polls
returns-clause-polls g c = own_notes_none _ _ _ _ c.wake_own.ensures.wakes ∙ (ap (λ (view : ServedView _ _). polls_of view.linked.recorded.journal.notes) c.self.view_is ∙ c.look.ensures.polls)
