use Rattle.actor_core.proofs.Names.{◌≤◌, refl, length, length-reverse, sym, ◌∙◌, ap, subst, arith, IsSpelledOrder, IsNextIn}
use Rattle.actor_core.proofs.Received.{done, room_in, received_now}
use Rattle.actor_core.proofs.CarriedOut.{fits_delivered}
use Rattle.actor_core.proofs.QuietSteps.{view_of, may_note, desk_is}
use Rattle.actor_core.proofs.recorded.Recorded.receive.Goals as goal

pub carry_out-delivered-requires : goal.carry_out-delivered-requires
carry_out-delivered-requires g c =
    let next = subst (λ view. IsNextIn view c.args.envelope.name) (sym c.self.view_is) c.requires.next in
    let spelled = subst IsSpelledOrder c.without_job-within_ranges.ensures.same c.without_job-within_ranges.ensures.spelled in
    record {
      room = room_in (view_of c.self.inside.core c.self.inside.took.items c.self.inside.said) _ c.self.invariant.0 next;
      sender = next.sender;
      next = omega (arith, next.next, c.self.invariant.0.kept.agrees.delivered c.args.envelope.name.from next.sender);
      ready = c.requires.ready;
      may_note = λ delivered core notes delivers.
          let did = done g.met.J.Task.laws (view_of c.self.inside.core c.self.inside.took.items c.self.inside.said) c.self.invariant.0 c.args.envelope next spelled core delivered notes delivers in
          let few : length notes ≤ 2 = omega (arith, did.few, length-reverse notes) in
          may_note c.self.inside.core c.self.inside.took.items c.self.inside.said c.self.invariant.1 refl (record { notes = did.kept.notes; no_pick = did.kept.no_pick; no_answer = did.kept.no_answer })
          did.lists.sent few c.self.view_is (omega (arith, c.requires.room));
    }

pub invariant_of-self : goal.invariant_of-self
invariant_of-self g c =
    let next = subst (λ view. IsNextIn view c.args.envelope.name) (sym c.self.view_is) c.requires.next in
    let spelled = subst IsSpelledOrder c.without_job-within_ranges.ensures.same c.without_job-within_ranges.ensures.spelled in
    let carried = c.carry_out-delivered.ensures in
    let said_is = carried.written in
    let now = received_now g.met.J.Task.laws (view_of c.self.inside.core c.self.inside.took.items c.self.inside.said) c.self.invariant.0 c.args.envelope next spelled c.carry_out-delivered.new.core c.carry_out-delivered.result carried.notes carried.delivers
    _ (λ i. record { cap = (said_is i).cap; core = c.carry_out-delivered.new.core; journal = (said_is i).journal; took = c.with-self-inside.ensures i; lanes = (said_is i).lanes }) in (
      now.sound,
      desk_is c.carry_out-delivered.new.said c.carry_out-delivered.new.core c.self.inside.took.items (ap (λ desk. desk.actor) said_is ∙ (ap (λ desk. desk.actor) c.self.invariant.1 ∙ sym now.seat.number))
          (ap (λ desk. desk.cores) said_is ∙ (ap (λ desk. desk.cores) c.self.invariant.1 ∙ sym now.seat.cores))
          (ap (λ desk. desk.burst) said_is ∙ (ap (λ desk. desk.burst) c.self.invariant.1 ∙ sym now.seat.burst)),
    )

pub returns : goal.returns
returns g c =
    let next = subst (λ view. IsNextIn view c.args.envelope.name) (sym c.self.view_is) c.requires.next in
    let spelled = subst IsSpelledOrder c.without_job-within_ranges.ensures.same c.without_job-within_ranges.ensures.spelled in
    let carried = c.carry_out-delivered.ensures in
    let said_is = carried.written in
    let now = received_now g.met.J.Task.laws (view_of c.self.inside.core c.self.inside.took.items c.self.inside.said) c.self.invariant.0 c.args.envelope next spelled c.carry_out-delivered.new.core c.carry_out-delivered.result carried.notes carried.delivers
    _ (λ i. record { cap = (said_is i).cap; core = c.carry_out-delivered.new.core; journal = (said_is i).journal; took = c.with-self-inside.ensures i; lanes = (said_is i).lanes }) in
    record {
      receives = rw (← c.self.view_is) now.receives;
      gives = rw (← c.self.view_is, c.outcome_of.ensures) now.gives;
      fits = rw c.outcome_of.ensures (fits_delivered g.J.Task.meaning g.met.J.Task.laws c.self.inside.core c.carry_out-delivered.new.core c.args.envelope.name carried.notes c.args.envelope.order c.carry_out-delivered.result carried.delivers);
      stands = now.stands;
      sound = now.sound;
      seat = rw (← c.self.view_is) now.seat;
      lanes = ap (λ desk. desk.lanes) said_is ∙ ap (λ view. view.lanes) c.self.view_is;
    }
