-- The receiver's seat while it shuts the gate.
use Rattle.link_board.proofs.Names.{Allows, ap, arith, eqb, false, IsPrefix-along, IsPrefix-length, IsReceiver, length, Looks, Marks, number_before, Order, Outcome, place_of, SawOrder, Seals, Seated, SeesOrders, step, subst, sym, Terms}
use Rattle.link_board.proofs.Names.{true, Watches, with_shut, with_taken, with_view, with_watched, ℕ, ◌+◌, ◌<◌, ◌^◌, ◌∙◌, ◌≡◌, ◌≤◌, ◌⊎◌}
use prog.Atomic.{either}
use denote.RawPtr.{Ptr}
use Rattle.link_board.proofs.ReceiverShuts.{looks, marks, seals}
use Rattle.link_board.proofs.Steps.{Rule}

module _ {J T : Type 0} (ready : Order J → Type 0) (old now new : Seated J T) (w : Watches old now) where
  -- one more order was seen
  pub Watches-saw : SawOrder ready now new → Watches old new × (new.view.inward.shut ≡ now.view.inward.shut) × (length new.view.inward.seen ≡ length now.view.inward.seen + 1)
  Watches-saw one =
      let seen_is : new.view.inward.seen ≡ one.seen = ap (λ (m : Seated J T). m.view.inward.seen) one.saw in
      let shut_is : new.view.inward.shut ≡ now.view.inward.shut = ap (λ (m : Seated J T). m.view.inward.shut) one.saw in (
        record {
          longer = subst (λ z. Rattle.base_words.specs.Assembly.IsPrefix old.view.inward.seen z) (sym seen_is) (IsPrefix-along old.view.inward.seen now.view.inward.seen one.seen w.longer one.sees.longer);
          same = one.saw ∙ (ap (λ (m : Seated J T). with_view m (with_taken m.view one.seen m.view.inward.taken)) w.same
              ∙ λ i. with_view old (with_watched old.view (sym seen_is i) (sym shut_is i)));
        },
        shut_is,
        ap (λ z. length z) seen_is ∙ one.one,
      )

  -- the gate is shut
  pub Watches-shut : new ≡ with_view now (with_shut now.view now.view.inward.seen) → Watches old new × (new.view.inward.shut ≡ true) × (new.view.inward.seen ≡ now.view.inward.seen)
  Watches-shut is =
      let seen_is : new.view.inward.seen ≡ now.view.inward.seen = ap (λ (m : Seated J T). m.view.inward.seen) is in
      let shut_is : new.view.inward.shut ≡ true = ap (λ (m : Seated J T). m.view.inward.shut) is in (
        record {
          longer = subst (λ z. Rattle.base_words.specs.Assembly.IsPrefix old.view.inward.seen z) (sym seen_is) w.longer;
          same = is ∙ (ap (λ (m : Seated J T). with_view m (with_shut m.view now.view.inward.seen)) w.same ∙ λ i. with_view old (with_watched old.view (sym seen_is i) (sym shut_is i)));
        },
        shut_is,
        seen_is,
      )

  -- what the last step tells of the seat before the first
  sees_before : old.view.inward.shut ≡ false → SeesOrders ready now.view.inward now.view.inward.seen → SeesOrders ready old.view.inward now.view.inward.seen
  sees_before clear sees =
      let taken : now.view.inward.taken ≡ old.view.inward.taken = ap (λ (m : Seated J T). m.view.inward.taken) w.same in
      let base : now.view.inward.base ≡ old.view.inward.base = ap (λ (m : Seated J T). m.view.inward.base) w.same in
      let given : length now.view.inward.given ≡ length old.view.inward.given = ap (λ (m : Seated J T). length m.view.inward.given) w.same in
      let capacity : now.view.inward.capacity ≡ old.view.inward.capacity = ap (λ (m : Seated J T). m.view.inward.capacity) w.same in record {
        longer = w.longer;
        final = λ shut. absurd cc;
        taken_seen = omega (arith, sees.taken_seen);
        numbered = omega (arith, sees.numbered);
        room = omega (arith, sees.room);
        ready_orders = sees.ready_orders;
      }

  -- after the seal
  pub sealed : IsReceiver old → old.view.inward.shut ≡ false → Seals ready now new
      → IsReceiver new × SeesOrders ready old.view.inward new.view.inward.seen × (new.view ≡ with_shut old.view new.view.inward.seen) × (new.view.inward.seen ≡ now.view.inward.seen)
  sealed is clear told =
      let last = Watches-shut told.1 in let t = last.0.same in let rests = is.rests in
      let taken : new.view.inward.taken ≡ old.view.inward.taken = ap (λ (m : Seated J T). m.view.inward.taken) t in
      let given : length new.view.inward.given ≡ length old.view.inward.given = ap (λ (m : Seated J T). length m.view.inward.given) t in
      let capacity : new.view.inward.capacity ≡ old.view.inward.capacity = ap (λ (m : Seated J T). m.view.inward.capacity) t in
      let long : length old.view.inward.seen ≤ length new.view.inward.seen = IsPrefix-length new.view.inward.seen old.view.inward.seen last.0.longer in (
        record {
          takes = ap (λ (m : Seated J T). m.view.takes) t ∙ is.takes;
          alone = ap (λ (m : Seated J T). m.view.sends) t ∙ is.alone;
          rests = record {
            hand = ap (λ (m : Seated J T). m.hand) t ∙ rests.hand;
            spare = ap (λ (m : Seated J T). m.spare) t ∙ rests.spare;
            away = ap (λ (m : Seated J T). m.view.away) t ∙ rests.away;
          };
          small = omega (arith, is.small);
          behind = omega (arith, is.behind);
          saw = omega (arith, is.saw);
          few = omega (arith, is.few);
        },
        subst (λ z. SeesOrders ready old.view.inward z) (sym last.2) (sees_before clear told.0),
        ap (λ (m : Seated J T). m.view) t ∙ ap (λ z. with_watched old.view new.view.inward.seen z) last.1,
        last.2,
      )

module _ {J T : Type 0} (fits : Order J → Outcome J T → Type 0) (ready : Order J → Type 0) (terms : Terms J T) (seat : ℕ) (old now : Seated J T) (is : IsReceiver old) (w : Watches old now) (at : Ptr) where
  takes : now.view.takes ≡ true
  takes = ap (λ (m : Seated J T). m.view.takes) w.same ∙ is.takes

  alone : now.view.sends ≡ false
  alone = ap (λ (m : Seated J T). m.view.sends) w.same ∙ is.alone

  pub seals_after : terms.gate.ptr ≡ at → (now.view.inward.shut ≡ true) ⊎ (length now.view.inward.given + now.view.inward.capacity ≤ length now.view.inward.seen)
      → Allows (Rule fits ready terms) seat now 0 at 0 (λ _. 1) (λ _. Seals ready now)
  seals_after same ends = seals fits ready terms seat now takes alone at same ends

  module _ (place seen given capacity : ℕ) (same : terms.cells.ptr ≡ at) (clear : now.view.inward.shut ≡ false) (place_is : place ≡ place_of terms.gap capacity seen) (seen_is : seen ≡ length now.view.inward.seen)
      (given_is : given ≡ length old.view.inward.given) (capacity_is : capacity ≡ old.view.inward.capacity) (room : seen < given + capacity) where
    capacity_now : capacity ≡ now.view.inward.capacity
    capacity_now = capacity_is ∙ ap (λ (m : Seated J T). m.view.inward.capacity) (sym w.same)

    room_now : length now.view.inward.seen < length now.view.inward.given + now.view.inward.capacity
    room_now = let one : length now.view.inward.given ≡ length old.view.inward.given = ap (λ (m : Seated J T). length m.view.inward.given) w.same in let two = capacity_now in omega arith

    spot : place ≡ place_of terms.gap now.view.inward.capacity (length now.view.inward.seen)
    spot = place_is ∙ λ i. place_of terms.gap (capacity_now i) (seen_is i)

    pub looks_after : Allows (Rule fits ready terms) seat now 1 at place (λ z. z) (Looks ready now)
    looks_after = looks fits ready terms seat now takes alone at place same clear room_now spot

    pub marks_after : (next : Seated J T) (first second : ℕ) → next ≡ now → first ≡ number_before now.view.inward.given now.view.inward.capacity (length now.view.inward.seen) → second ≡ first + 2 ^ 63
        → Allows (Rule fits ready terms) seat next 1 at place (λ z. either (eqb z first) second z) (Marks ready (step 1 at place first second) next)
    marks_after next first second next_is first_is second_is =
        subst (λ (m : Seated J T). Allows (Rule fits ready terms) seat m 1 at place (λ z. either (eqb z first) second z) (Marks ready (step 1 at place first second) m)) (sym next_is)
        (marks fits ready terms seat now takes alone at place same clear room_now spot first second first_is second_is)
