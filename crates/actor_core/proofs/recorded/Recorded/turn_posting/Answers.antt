use Rattle.actor_core.proofs.Names.{◌≡◌, ◌+◌, ◌*◌, ◌<◌, ◌≤◌, length, sym, ap, subst, arith, sum_by, most_turns, turns, IsAhead, Fits, AreOutsOf, desk_of, IsPick, lends, posted_made, refl, settle_notes}
use Rattle.actor_desk.specs.Spending.{left_of}
use Rattle.actor_desk.proofs.Posting.{room_for}
use Rattle.actor_core.proofs.Beginnings.{pick_begins, pick_in_turn}
use Rattle.actor_core.proofs.OwedTurns.{turn_keeps}
use Rattle.actor_core.proofs.PostingTurn.{may_settle, turned_invariant, turned_noted}
use Rattle.actor_core.proofs.NotedTurns.{did_pick, pick_ahead, outs_noted, noted_pick}
use Rattle.actor_core.proofs.QuietSteps.{quiet_noted, view_of}
use Rattle.actor_core.proofs.recorded.Recorded.turn_posting.Goals as goal

pub write-requires : goal.write-requires
write-requires g c =
    let next = c.args.next.now in
    let left : turns c.self.inside.said.journal.notes < most_turns = omega (arith, c.requires.ahead.left, c.self.invariant.0.kept.agrees.turns, ap (λ view. view.core.turns) c.self.view_is) in
    let ahead = subst (λ view. IsAhead view.core next.queue next.vr next.name next.started next.woken) (sym c.self.view_is) c.requires.ahead in
    assumption (quiet_noted c.self.inside.core c.self.inside.took.items c.self.inside.said c.self.invariant c.picked_notes-picked.ensures
    (pick_ahead c.self.inside.core c.self.inside.took.items c.self.inside.said c.self.invariant next.queue next.vr next.name next.started left next.woken ahead).2
    c.self.view_is (omega (arith, c.requires.room)))

pub turn_lent-step-requires-clause-outs : goal.turn_lent-step-requires-clause-outs
turn_lent-step-requires-clause-outs g c =
    let next = c.args.next.now in
    let left : turns c.self.inside.said.journal.notes < most_turns = omega (arith, c.requires.ahead.left, c.self.invariant.0.kept.agrees.turns, ap (λ view. view.core.turns) c.self.view_is) in
    let ahead = subst (λ view. IsAhead view.core next.queue next.vr next.name next.started next.woken) (sym c.self.view_is) c.requires.ahead in
    let outs = subst (λ view. AreOutsOf (Fits g.J.Task.meaning) g.O.OutEnd.out g.O.OutEnd.credited (desk_of view) c.args.ends.now.items) (sym c.self.view_is) c.requires.outs in
    outs_noted c.self.inside.core c.self.inside.took.items c.self.inside.said c.self.invariant c.picked_notes-picked.ensures
    (pick_ahead c.self.inside.core c.self.inside.took.items c.self.inside.said c.self.invariant next.queue next.vr next.name next.started left next.woken ahead).2
    c.args.ends.now.items outs c.write.new.self c.write.ensures

pub turn_lent-step-requires-clause-spare : goal.turn_lent-step-requires-clause-spare
turn_lent-step-requires-clause-spare g c =
    let next = c.args.next.now in
    let outs = subst (λ view. AreOutsOf (Fits g.J.Task.meaning) g.O.OutEnd.out g.O.OutEnd.credited (desk_of view) c.args.ends.now.items) (sym c.self.view_is) c.requires.outs in
    let few_left = room_for c.self.inside.said c.args.ends.now.items (subst (λ desk. AreOutsOf (Fits g.J.Task.meaning) g.O.OutEnd.out g.O.OutEnd.credited desk c.args.ends.now.items) (sym c.self.invariant.1) outs) c.see_lanes.ensures.known in
    let few_here : sum_by left_of c.self.inside.said.lanes ≤ c.self.inside.core.cores * (3 * c.self.inside.said.cap) = omega (arith, few_left, ap (λ desk. desk.cores * (3 * desk.cap)) c.self.invariant.1) in
    omega (
      arith,
      c.requires.room,
      few_here,
      noted_pick c.self.inside.said c.write.new.self c.picked_notes-picked.result c.write.ensures next.queue next.vr next.name next.started c.picked_notes-picked.ensures,
      ap (λ desk. sum_by left_of desk.lanes) c.write.ensures,
      ap (λ desk. desk.journal.room) c.write.ensures,
      ap (λ view. length view.journal.notes) c.self.view_is,
      ap (λ view. view.journal.room) c.self.view_is,
      ap (λ view. view.core.cores * (3 * view.cap)) c.self.view_is,
    )

pub note_settled-requires : goal.note_settled-requires
note_settled-requires g c =
    let next = c.args.next.now in
    let left : turns c.self.inside.said.journal.notes < most_turns = omega (arith, c.requires.ahead.left, c.self.invariant.0.kept.agrees.turns, ap (λ view. view.core.turns) c.self.view_is) in
    let turn = c.turn_lent-step.ensures.whole in
    let posted = posted_made (Fits g.J.Task.meaning) g.O.OutEnd.out g.O.OutEnd.credited g.O.OutEnd.untouched turn.0 (lends c.write.new.self c.args.ends.now.items) (lends c.turn_lent-step.new.said c.turn_lent-step.new.ends.items) turn.1 in
    let did = did_pick c.self.inside.core c.self.inside.took.items c.self.inside.said c.self.invariant next.queue next.vr next.name next.started left turn.2.2.ran.before turn.2.2.mid turn.2.2.picks in
    let may = may_settle g.met.J.Task.laws IsPick c.self.inside.core c.self.inside.took.items c.self.inside.said c.self.invariant next.queue 1 next.name next.started turn.2.0 turn.0 c.turn_lent-step.result.0 c.turn_lent-step.result.1 next.woken c.turn_lent-step.new.core
    turn.2.2.mid turn.2.2.ran turn.2.2.polled turn.2.2.settles did (λ picked. pick_begins (view_of c.self.inside.core c.self.inside.took.items c.self.inside.said) next.name next.queue next.started turn.2.2.ran.before picked)
    (λ picked. pick_in_turn (view_of c.self.inside.core c.self.inside.took.items c.self.inside.said) next.name next.queue next.started turn.2.2.ran.before picked)
    c.picked_notes-picked.result c.picked_notes-picked.ensures c.write.new.self c.write.ensures c.turn_lent-step.new.said c.args.ends.now.items c.turn_lent-step.new.ends.items posted c.turn_lent-step.ensures.written
    (settle_notes next.name c.turn_lent-step.result.1 c.turn_lent-step.result.0 next.woken) refl (omega (arith, c.turn_lent-step.ensures.room)) in
    record { room = c.turn_lent-step.ensures.room; written = may.written; sent = may.sent }

pub invariant_of-self : goal.invariant_of-self
invariant_of-self g c =
    let next = c.args.next.now in
    let left : turns c.self.inside.said.journal.notes < most_turns = omega (arith, c.requires.ahead.left, c.self.invariant.0.kept.agrees.turns, ap (λ view. view.core.turns) c.self.view_is) in
    let turn = c.turn_lent-step.ensures.whole in
    let posted = posted_made (Fits g.J.Task.meaning) g.O.OutEnd.out g.O.OutEnd.credited g.O.OutEnd.untouched turn.0 (lends c.write.new.self c.args.ends.now.items) (lends c.turn_lent-step.new.said c.turn_lent-step.new.ends.items) turn.1 in
    let did = did_pick c.self.inside.core c.self.inside.took.items c.self.inside.said c.self.invariant next.queue next.vr next.name next.started left turn.2.2.ran.before turn.2.2.mid turn.2.2.picks in
    turned_invariant g.met.J.Task.laws IsPick c.self.inside.core c.self.inside.took.items c.self.inside.said c.self.invariant next.queue 1 next.name next.started turn.2.0 turn.0 c.turn_lent-step.result.0 c.turn_lent-step.result.1 next.woken c.turn_lent-step.new.core
    turn.2.2.mid turn.2.2.ran turn.2.2.polled turn.2.2.settles did (λ picked. pick_begins (view_of c.self.inside.core c.self.inside.took.items c.self.inside.said) next.name next.queue next.started turn.2.2.ran.before picked)
    (λ picked. pick_in_turn (view_of c.self.inside.core c.self.inside.took.items c.self.inside.said) next.name next.queue next.started turn.2.2.ran.before picked)
    c.picked_notes-picked.result c.picked_notes-picked.ensures c.write.new.self c.write.ensures c.turn_lent-step.new.said c.args.ends.now.items c.turn_lent-step.new.ends.items posted c.turn_lent-step.ensures.written
    (settle_notes next.name c.turn_lent-step.result.1 c.turn_lent-step.result.0 next.woken) refl c.note_settled.new.said c.note_settled.ensures.noted

pub returns-clause-turns : goal.returns-clause-turns
returns-clause-turns g c =
    let next = c.args.next.now in
    let left : turns c.self.inside.said.journal.notes < most_turns = omega (arith, c.requires.ahead.left, c.self.invariant.0.kept.agrees.turns, ap (λ view. view.core.turns) c.self.view_is) in
    let turn = c.turn_lent-step.ensures.whole in
    let posted = posted_made (Fits g.J.Task.meaning) g.O.OutEnd.out g.O.OutEnd.credited g.O.OutEnd.untouched turn.0 (lends c.write.new.self c.args.ends.now.items) (lends c.turn_lent-step.new.said c.turn_lent-step.new.ends.items) turn.1 in
    let did = did_pick c.self.inside.core c.self.inside.took.items c.self.inside.said c.self.invariant next.queue next.vr next.name next.started left turn.2.2.ran.before turn.2.2.mid turn.2.2.picks in
    let outs = subst (λ view. AreOutsOf (Fits g.J.Task.meaning) g.O.OutEnd.out g.O.OutEnd.credited (desk_of view) c.args.ends.now.items) (sym c.self.view_is) c.requires.outs in
    let few_left = room_for c.self.inside.said c.args.ends.now.items (subst (λ desk. AreOutsOf (Fits g.J.Task.meaning) g.O.OutEnd.out g.O.OutEnd.credited desk c.args.ends.now.items) (sym c.self.invariant.1) outs) c.see_lanes.ensures.known in
    let few_here : sum_by left_of c.self.inside.said.lanes ≤ c.self.inside.core.cores * (3 * c.self.inside.said.cap) = omega (arith, few_left, ap (λ desk. desk.cores * (3 * desk.cap)) c.self.invariant.1) in
    let noted_own : length c.write.new.self.journal.notes + 1 ≡ length c.self.inside.said.journal.notes + 3 = omega (arith, noted_pick c.self.inside.said c.write.new.self c.picked_notes-picked.result c.write.ensures next.queue next.vr next.name next.started c.picked_notes-picked.ensures) in
    rw (← c.self.view_is, c.note_settled.ensures.settled) (turned_noted g.met.J.Task.laws IsPick c.self.inside.core c.self.inside.took.items c.self.inside.said c.self.invariant
    next.queue 1 next.name next.started turn.2.0 turn.0 c.turn_lent-step.result.0 c.turn_lent-step.result.1 next.woken c.turn_lent-step.new.core
    turn.2.2.mid turn.2.2.ran turn.2.2.polled turn.2.2.settles did (λ picked. pick_begins (view_of c.self.inside.core c.self.inside.took.items c.self.inside.said) next.name next.queue next.started turn.2.2.ran.before picked)
    (λ picked. pick_in_turn (view_of c.self.inside.core c.self.inside.took.items c.self.inside.said) next.name next.queue next.started turn.2.2.ran.before picked)
    c.picked_notes-picked.result c.picked_notes-picked.ensures c.write.new.self c.write.ensures c.turn_lent-step.new.said c.args.ends.now.items c.turn_lent-step.new.ends.items posted c.turn_lent-step.ensures.written
    (settle_notes next.name c.turn_lent-step.result.1 c.turn_lent-step.result.0 next.woken) refl c.note_settled.new.said c.note_settled.ensures.noted
    turn.2.1 turn.1 c.turn_lent-step.ensures.outs 3 noted_own few_here)

pub returns-clause-owed : goal.returns-clause-owed
returns-clause-owed g c =
    let turn = (returns-clause-turns g c).turns in
    turn_keeps _ _ _ _ _ _ _ _ turn (pick_begins _ _ _ _ turn.ran.before turn.picked turn.picks)
