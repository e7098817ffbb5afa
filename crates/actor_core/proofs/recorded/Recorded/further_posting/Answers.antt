use Rattle.actor_core.proofs.Names.{◌≡◌, ◌+◌, ◌*◌, ◌≤◌, length, sym, ap, subst, arith, sum_by, Fits, AreOutsOf, desk_of, IsFurther, lends, posted_made, refl, settle_notes}
use Rattle.core_core.specs.Further.{IsAheadInTurn}
use Rattle.base_words.specs.Bursts.{polls_in_turn}
use Rattle.actor_desk.specs.Spending.{left_of}
use Rattle.actor_desk.proofs.Posting.{room_for}
use Rattle.actor_core.proofs.Beginnings.{further_begins, further_in_turn}
use Rattle.actor_core.proofs.OwedTurns.{turn_keeps}
use Rattle.actor_core.proofs.PostingTurn.{may_settle, turned_invariant, turned_noted}
use Rattle.actor_core.proofs.NotedTurns.{did_follow, follow_ahead, outs_noted, noted_followed}
use Rattle.actor_core.proofs.QuietSteps.{quiet_noted, view_of}
use Rattle.actor_core.proofs.recorded.Recorded.further_posting.Goals as goal

pub write-requires : goal.write-requires
write-requires g c =
    let next = c.args.next.now in
    let ahead = subst (λ view. IsAheadInTurn view.core next.queue next.vr next.name next.started next.woken) (sym c.self.view_is) c.requires.ahead in
    assumption (quiet_noted c.self.inside.core c.self.inside.took.items c.self.inside.said c.self.invariant c.followed_notes-begun.ensures
    (follow_ahead c.self.inside.core c.self.inside.took.items c.self.inside.said c.self.invariant next.queue next.vr next.name next.started next.woken ahead).2
    c.self.view_is (omega (arith, c.requires.room)))

pub further_lent-step-requires-clause-outs : goal.further_lent-step-requires-clause-outs
further_lent-step-requires-clause-outs g c =
    let next = c.args.next.now in
    let ahead = subst (λ view. IsAheadInTurn view.core next.queue next.vr next.name next.started next.woken) (sym c.self.view_is) c.requires.ahead in
    let outs = subst (λ view. AreOutsOf (Fits g.J.Task.meaning) g.O.OutEnd.out g.O.OutEnd.credited (desk_of view) c.args.ends.now.items) (sym c.self.view_is) c.requires.outs in
    outs_noted c.self.inside.core c.self.inside.took.items c.self.inside.said c.self.invariant c.followed_notes-begun.ensures
    (follow_ahead c.self.inside.core c.self.inside.took.items c.self.inside.said c.self.invariant next.queue next.vr next.name next.started next.woken ahead).2
    c.args.ends.now.items outs c.write.new.self c.write.ensures

pub further_lent-step-requires-clause-spare : goal.further_lent-step-requires-clause-spare
further_lent-step-requires-clause-spare g c =
    let next = c.args.next.now in
    omega (
      arith,
      c.requires.room,
      noted_followed c.self.inside.said c.write.new.self c.followed_notes-begun.result c.write.ensures next.name next.started c.followed_notes-begun.ensures,
      ap (λ desk. sum_by left_of desk.lanes) c.write.ensures,
      ap (λ desk. desk.journal.room) c.write.ensures,
      ap (λ view. length view.journal.notes) c.self.view_is,
      ap (λ view. view.journal.room) c.self.view_is,
      ap (λ view. sum_by left_of view.lanes) c.self.view_is,
    )

pub note_settled-requires : goal.note_settled-requires
note_settled-requires g c =
    let next = c.args.next.now in
    let turn = c.further_lent-step.ensures.whole in
    let posted = posted_made (Fits g.J.Task.meaning) g.O.OutEnd.out g.O.OutEnd.credited g.O.OutEnd.untouched turn.0 (lends c.write.new.self c.args.ends.now.items) (lends c.further_lent-step.new.said c.further_lent-step.new.ends.items) turn.1 in
    let did = did_follow c.self.inside.core c.self.inside.took.items c.self.inside.said c.self.invariant next.queue next.vr next.name next.started turn.2.2.ran.before turn.2.2.mid turn.2.2.follows in
    let may = may_settle g.met.J.Task.laws IsFurther c.self.inside.core c.self.inside.took.items c.self.inside.said c.self.invariant
    next.queue (polls_in_turn c.self.inside.said.journal.notes + 1) next.name next.started turn.2.0 turn.0 c.further_lent-step.result.0 c.further_lent-step.result.1 next.woken c.further_lent-step.new.core
    turn.2.2.mid turn.2.2.ran turn.2.2.polled turn.2.2.settles did (λ picked. further_begins (view_of c.self.inside.core c.self.inside.took.items c.self.inside.said) next.name next.queue next.started turn.2.2.ran.before picked)
    (λ picked. further_in_turn (view_of c.self.inside.core c.self.inside.took.items c.self.inside.said) next.name next.queue next.started turn.2.2.ran.before picked c.self.invariant.0.kept.no_pick)
    c.followed_notes-begun.result c.followed_notes-begun.ensures c.write.new.self c.write.ensures c.further_lent-step.new.said c.args.ends.now.items c.further_lent-step.new.ends.items posted c.further_lent-step.ensures.written
    (settle_notes next.name c.further_lent-step.result.1 c.further_lent-step.result.0 next.woken) refl (omega (arith, c.further_lent-step.ensures.room)) in
    record { room = c.further_lent-step.ensures.room; written = may.written; sent = may.sent }

pub invariant_of-self : goal.invariant_of-self
invariant_of-self g c =
    let next = c.args.next.now in
    let turn = c.further_lent-step.ensures.whole in
    let posted = posted_made (Fits g.J.Task.meaning) g.O.OutEnd.out g.O.OutEnd.credited g.O.OutEnd.untouched turn.0 (lends c.write.new.self c.args.ends.now.items) (lends c.further_lent-step.new.said c.further_lent-step.new.ends.items) turn.1 in
    let did = did_follow c.self.inside.core c.self.inside.took.items c.self.inside.said c.self.invariant next.queue next.vr next.name next.started turn.2.2.ran.before turn.2.2.mid turn.2.2.follows in
    turned_invariant g.met.J.Task.laws IsFurther c.self.inside.core c.self.inside.took.items c.self.inside.said c.self.invariant
    next.queue (polls_in_turn c.self.inside.said.journal.notes + 1) next.name next.started turn.2.0 turn.0 c.further_lent-step.result.0 c.further_lent-step.result.1 next.woken c.further_lent-step.new.core
    turn.2.2.mid turn.2.2.ran turn.2.2.polled turn.2.2.settles did (λ picked. further_begins (view_of c.self.inside.core c.self.inside.took.items c.self.inside.said) next.name next.queue next.started turn.2.2.ran.before picked)
    (λ picked. further_in_turn (view_of c.self.inside.core c.self.inside.took.items c.self.inside.said) next.name next.queue next.started turn.2.2.ran.before picked c.self.invariant.0.kept.no_pick)
    c.followed_notes-begun.result c.followed_notes-begun.ensures c.write.new.self c.write.ensures c.further_lent-step.new.said c.args.ends.now.items c.further_lent-step.new.ends.items posted c.further_lent-step.ensures.written
    (settle_notes next.name c.further_lent-step.result.1 c.further_lent-step.result.0 next.woken) refl c.note_settled.new.said c.note_settled.ensures.noted

pub returns-clause-turns : goal.returns-clause-turns
returns-clause-turns g c =
    let next = c.args.next.now in
    let turn = c.further_lent-step.ensures.whole in
    let posted = posted_made (Fits g.J.Task.meaning) g.O.OutEnd.out g.O.OutEnd.credited g.O.OutEnd.untouched turn.0 (lends c.write.new.self c.args.ends.now.items) (lends c.further_lent-step.new.said c.further_lent-step.new.ends.items) turn.1 in
    let did = did_follow c.self.inside.core c.self.inside.took.items c.self.inside.said c.self.invariant next.queue next.vr next.name next.started turn.2.2.ran.before turn.2.2.mid turn.2.2.follows in
    let outs = subst (λ view. AreOutsOf (Fits g.J.Task.meaning) g.O.OutEnd.out g.O.OutEnd.credited (desk_of view) c.args.ends.now.items) (sym c.self.view_is) c.requires.outs in
    let few_left = room_for c.self.inside.said c.args.ends.now.items (subst (λ desk. AreOutsOf (Fits g.J.Task.meaning) g.O.OutEnd.out g.O.OutEnd.credited desk c.args.ends.now.items) (sym c.self.invariant.1) outs) c.see_lanes.ensures.known in
    let few_here : sum_by left_of c.self.inside.said.lanes ≤ c.self.inside.core.cores * (3 * c.self.inside.said.cap) = omega (arith, few_left, ap (λ desk. desk.cores * (3 * desk.cap)) c.self.invariant.1) in
    let noted_own : length c.write.new.self.journal.notes + 1 ≡ length c.self.inside.said.journal.notes + 2 = omega (arith, noted_followed c.self.inside.said c.write.new.self c.followed_notes-begun.result c.write.ensures next.name next.started c.followed_notes-begun.ensures) in
    rw (← c.self.view_is, c.note_settled.ensures.settled) (turned_noted g.met.J.Task.laws IsFurther c.self.inside.core c.self.inside.took.items c.self.inside.said c.self.invariant
    next.queue (polls_in_turn c.self.inside.said.journal.notes + 1) next.name next.started turn.2.0 turn.0 c.further_lent-step.result.0 c.further_lent-step.result.1 next.woken c.further_lent-step.new.core
    turn.2.2.mid turn.2.2.ran turn.2.2.polled turn.2.2.settles did (λ picked. further_begins (view_of c.self.inside.core c.self.inside.took.items c.self.inside.said) next.name next.queue next.started turn.2.2.ran.before picked)
    (λ picked. further_in_turn (view_of c.self.inside.core c.self.inside.took.items c.self.inside.said) next.name next.queue next.started turn.2.2.ran.before picked c.self.invariant.0.kept.no_pick)
    c.followed_notes-begun.result c.followed_notes-begun.ensures c.write.new.self c.write.ensures c.further_lent-step.new.said c.args.ends.now.items c.further_lent-step.new.ends.items posted c.further_lent-step.ensures.written
    (settle_notes next.name c.further_lent-step.result.1 c.further_lent-step.result.0 next.woken) refl c.note_settled.new.said c.note_settled.ensures.noted
    turn.2.1 turn.1 c.further_lent-step.ensures.outs 2 noted_own few_here)

pub returns-clause-owed : goal.returns-clause-owed
returns-clause-owed g c =
    let turn = (returns-clause-turns g c).turns in
    turn_keeps _ _ _ _ _ _ _ _ turn (further_begins _ _ _ _ turn.ran.before turn.picked turn.picks)
