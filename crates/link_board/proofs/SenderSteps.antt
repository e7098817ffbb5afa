-- The steps of the sender's seat: what each keeps, and what it tells.
use Rattle.link_board.proofs.Names.{Accepts, Allows, ap, AreInPlace, AreTold, arith, Bool, Content, eqb, exchanged, false, gives, Goes, home_at, Homes, IsLink-send, IsMarked, keeps, Known, KnowsOut, LendsOrder, length, None, number_before}
use Rattle.link_board.proofs.Names.{of_order, Option, Order, Outcome, Outward, place_of, Probes, refl, Seated, set, set_again, Some, State, step, subst, sym, takes, Terms, true, Whole, with_away, with_closed, with_sent, word_at, ℕ, []}
use Rattle.link_board.proofs.Names.{⊎_elim, ◌++◌, ◌+◌, ◌<◌, ◌^◌, ◌∙◌, ◌∷◌, ◌≡◌, ◌≢◌, ◌≤◌}
use mathlib.Core.Option.{some}
use mathlib.Core.Logic.{dite}
use native.Mathlib.Decide.{ℕ_discrete}
use lib.ListN.{get_elem?}
use prog.Atomic.{either}
use denote.RawPtr.{Ptr}
use Rattle.link_board.proofs.Changes.{worded, homed, IsChanged, IsChanged-worded, IsChanged-both, words_stay}
use Rattle.link_board.proofs.InPlace.{AreInPlace-lent, AreInPlace-back, AreInPlace-sent}
use Rattle.link_board.proofs.Injective.{of_order-injective, same_hand}
use Rattle.link_board.proofs.Knowledge.{KnowsOut-closed, KnowsOut-sent, KnowsInward-sent}
use Rattle.link_board.proofs.Marks.{AreMarked-kept, AreMarked-sent}
use Rattle.link_board.proofs.Numbers.{number-bounds, number-seen}
use Rattle.link_board.proofs.Steps.{Rule, two_rows, gated, on_cell, on_gate, cell_there, cell_keeps, gate_keeps}
use Rattle.link_board.proofs.Views.{AreTold-sender}

-- where the gate is open, the sender has not seen it shut
not_closed : (closed gate : Bool) → (closed ≡ true → gate ≡ true) → gate ≡ false → closed ≡ false
not_closed true gate shut is = sym (shut refl) ∙ is
not_closed false gate shut is = refl

not_shut : (shut : Bool) → (shut ≡ true → ⊥) → shut ≡ false
not_shut true never = absurd (never refl)
not_shut false never = refl

-- the numbers of a link, and of its sender's end
pub record OutNumbers {J T : Type 0} (link : Whole J T) (out : Outward J T) : Type 0 where
  pub capacity : out.capacity ≡ link.capacity
  pub count : length out.sent ≡ length link.sent
  pub got : out.got ≡ link.got
  pub base : out.base ≡ link.base
  pub got_given : link.got ≤ length link.given
  pub given_taken : length link.given ≤ link.taken
  pub taken_sent : link.taken ≤ length link.sent
  pub all : length link.sent ≤ link.got + link.capacity
  pub seen : link.got ≤ length out.seen
  pub small : link.base + length link.sent < 2 ^ 63

module _ {J T : Type 0} (fits : Order J → Outcome J T → Type 0) (ready : Order J → Type 0) (terms : Terms J T) (seat : ℕ) (old : Seated J T) (go : old.view.sends ≡ true) (alone : old.view.takes ≡ false) where
  module _ (s : State (Content J T) (Known J T)) (r : Rule fits ready terms s) (there : get_elem? s.views seat ≡ some old.view) where
    abbrev pub out : Outward J T
    out = old.view.out

    abbrev pub n : ℕ
    n = r.link.capacity

    abbrev pub sent : ℕ
    sent = length r.link.sent

    pub knows : KnowsOut r.link out
    knows = ((r.views seat old.view there).sends go).1

    pub away : old.view.away ≡ r.out_sender
    away = ((r.views seat old.view there).sends go).2

    pub numbers : OutNumbers r.link out
    numbers = let k : KnowsOut r.link out = knows in record {
      capacity = ap (λ (o : Outward J T). o.capacity) k.knows;
      count = ap (λ (o : Outward J T). length o.sent) k.knows;
      got = ap (λ (o : Outward J T). o.got) k.knows;
      base = ap (λ (o : Outward J T). o.base) k.knows;
      got_given = r.law.got_given;
      given_taken = r.law.given_taken;
      taken_sent = r.law.taken_sent;
      all = omega (arith, r.law.room, r.credits);
      seen = k.got_seen;
      small = r.law.numbered;
    }

    -- the number that the next order finds is the same by what the sender has seen
    pub number_seen : (i : ℕ) → i < r.link.got + n → number_before r.link.given n i ≡ number_before out.seen out.capacity i
    number_seen i near = let f = numbers in number-seen r.link.given out.seen n i knows.sees (omega arith) ∙ ap (λ (z : ℕ). number_before out.seen z i) (sym f.capacity)

    pub bounds : (i : ℕ) → i < length r.link.given + n → (0 < number_before r.link.given n i) × (number_before r.link.given n i < 2 ^ 63)
    bounds i near = let f = numbers in number-bounds r.link.base r.link.taken r.link.given n i r.law.named (omega arith) near

    -- the sender knows that the gate is shut
    pub told_closed : r.link.shut ≡ true → AreTold r.link r.sender r.receiver r.out_sender r.out_receiver (set s.views seat (with_closed old.view))
    told_closed shut = AreTold-sender r.link r.link r.sender r.receiver r.out_sender r.out_receiver seat s.views old.view (with_closed old.view) r.views there r.out_sender go alone
        (KnowsOut-closed r.link out knows shut) away (λ _ is. is)

    -- nobody knows more
    pub told_same : AreTold r.link r.sender r.receiver r.out_sender r.out_receiver (set s.views seat old.view)
    told_same = subst (AreTold r.link r.sender r.receiver r.out_sender r.out_receiver) (sym (set_again s.views seat old.view there)) r.views

    probe : (at : Ptr) → Goes (Rule fits ready terms) s (two_rows fits ready terms (gated fits ready terms r.gate r.gate.word) r.cells) seat old (Probes (step 0 at 0 0 0) old r.gate.word)
    probe at = dite (ℕ_discrete r.gate.word 0)
        (λ zero. (old.view, keeps, tt, gate_keeps fits ready terms s r (set s.views seat old.view) told_same, record { zero = λ _. refl; shut = λ not. absurd (not zero) }))
        (λ not. (
          with_closed old.view,
          keeps,
          tt,
          gate_keeps fits ready terms s r (set s.views seat (with_closed old.view)) (told_closed (r.gate_word (omega arith))),
          record { zero = λ zero. absurd (not zero); shut = λ _. refl },
        ))

    module _ (room : length out.sent < out.got + out.capacity) where
      abbrev spot : ℕ
      spot = place_of terms.gap n sent

      abbrev found : ℕ
      found = word_at r.cells spot

      there_is : spot < length r.cells
      there_is = let f = numbers in cell_there fits ready terms s r sent (omega arith)

      mark : IsMarked r.link.shut (number_before r.link.given n sent) found
      mark = let f = numbers in r.marked.settled sent (omega arith) (omega arith)

      number_is : number_before r.link.given n sent ≡ number_before out.seen out.capacity (length out.sent)
      number_is = let f = numbers in number_seen sent (omega arith) ∙ ap (number_before out.seen out.capacity) (sym f.count)

      small : (0 < number_before r.link.given n sent) × (number_before r.link.given n sent < 2 ^ 63)
      small = let f = numbers in bounds sent (omega arith)

      lend : old.view.away ≡ None → Goes (Rule fits ready terms) s (two_rows fits ready terms r.gate (worded r.cells spot found)) seat old (LendsOrder (step 1 terms.cells.ptr spot 0 0) old found)
      lend rests = ⊎_elim
          (λ (is : found ≡ number_before r.link.given n sent). let f = numbers in
          let none : r.out_sender ≡ None = sym away ∙ rests in
          let word : IsChanged r.cells (worded r.cells spot found) spot found (home_at r.cells spot) = IsChanged-worded r.cells spot there_is found in
          let both : IsChanged r.cells (homed (worded r.cells spot found) spot None) spot found None = IsChanged-both r.cells spot found None there_is in
          let empty : home_at r.cells spot ≡ Some None = ⊎_elim (λ (e : r.out_sender ≡ Some spot). let never : ⊥ = cc in absurd never) (λ (e : home_at r.cells spot ≡ Some None). e)
          (r.in_place.free sent (omega arith) (omega arith)) in (
            with_away old.view (Some spot),
            takes 1 spot None,
            (subst (λ (z : ℕ). spot < z) (sym word.count) there_is, word.home_here ∙ empty),
            record {
              link = r.link;
              sender = r.sender;
              receiver = r.receiver;
              out_sender = Some spot;
              out_receiver = r.out_receiver;
              gate = r.gate;
              cells = homed (worded r.cells spot found) spot None;
              law = r.law;
              credits = r.credits;
              terms_are = r.terms_are;
              laid = record { rows = refl; len = both.count ∙ r.laid.len; enough = r.laid.enough; some = r.laid.some };
              gate_word = r.gate_word;
              marked = AreMarked-kept terms.gap r.link r.cells (homed (worded r.cells spot found) spot None) r.marked r.link.taken r.link.got r.link.credited (words_stay r.cells (homed (worded r.cells spot found) spot None) spot None both);
              in_place = AreInPlace-lent terms.gap fits ready r.link r.law r.credits r.cells (homed (worded r.cells spot found) spot None) found None sent r.out_receiver both (omega arith) (omega arith)
                  (subst (λ (z : Option ℕ). AreInPlace terms.gap r.link r.cells z r.out_receiver) none r.in_place);
              views = AreTold-sender r.link r.link r.sender r.receiver r.out_sender r.out_receiver seat s.views old.view (with_away old.view (Some spot)) r.views there (Some spot) go alone knows refl (λ _ k. k);
            },
            record { clear = λ _. (is ∙ number_is, refl); shut = λ high. let b = small in absurd (omega arith) },
          ))
          (λ (is : (found ≡ number_before r.link.given n sent + 2 ^ 63) × (r.link.shut ≡ true)). (
            with_closed old.view,
            keeps,
            tt,
            cell_keeps fits ready terms s r (set s.views seat (with_closed old.view)) (told_closed is.1) spot there_is,
            record { clear = λ low. let e = is.0 in absurd (omega arith); shut = λ _. refl },
          ))
          mark

      module _ (order : Order J) (first : ℕ) (held_is : old.hand ≡ Some (terms.cells.ptr, spot, of_order order)) (out_is : old.view.away ≡ Some spot)
          (first_is : first ≡ number_before out.seen out.capacity (length out.sent)) (below : out.base + length out.sent + 1 < 2 ^ 63) (is_ready : ready order) where
        abbrev Owes : ℕ → Type 0
        Owes z = Goes (Rule fits ready terms) s (two_rows fits ready terms r.gate (worded r.cells spot z)) seat old (Accepts (step 1 terms.cells.ptr spot first 0) old found)

        ungated : found ≡ first → r.link.shut ≡ false
        ungated hit = not_shut r.link.shut (λ shut. let f = numbers in let b = small in let top : 2 ^ 63 ≤ found = r.marked.closed shut (omega arith) in let e = number_is in omega arith)

        hits : found ≡ first → Owes 0
        hits hit = let f = numbers in
            let word : IsChanged r.cells (worded r.cells spot 0) spot 0 (home_at r.cells spot) = IsChanged-worded r.cells spot there_is 0 in
            let both : IsChanged r.cells (homed (worded r.cells spot 0) spot (Some (of_order order))) spot 0 (Some (of_order order)) = IsChanged-both r.cells spot 0 (Some (of_order order)) there_is in
            let later : Whole J T = record r.link { sent = r.link.sent ++ order ∷ [] } in
            let open_gate : r.link.shut ≡ false = ungated hit in
            let now : Known J T = with_away (with_sent old.view order) None in (
              now,
              gives 1 spot (of_order order),
              (subst (λ (z : ℕ). spot < z) (sym word.count) there_is, held_is),
              record {
                link = later;
                sender = r.sender;
                receiver = r.receiver;
                out_sender = None;
                out_receiver = r.out_receiver;
                gate = r.gate;
                cells = homed (worded r.cells spot 0) spot (Some (of_order order));
                law = IsLink-send r.law order is_ready (omega arith) (omega (arith, r.credits));
                credits = r.credits;
                terms_are = record { from = r.terms_are.from; to = r.terms_are.to; base = r.terms_are.base; capacity = r.terms_are.capacity };
                laid = record { rows = refl; len = both.count ∙ r.laid.len; enough = r.laid.enough; some = r.laid.some };
                gate_word = r.gate_word;
                marked = AreMarked-sent terms.gap r.link r.cells (homed (worded r.cells spot 0) spot (Some (of_order order))) r.marked 0 (Some (of_order order)) order both refl (omega arith) (omega arith) open_gate;
                in_place = AreInPlace-sent terms.gap fits ready r.link r.law r.credits r.cells (homed (worded r.cells spot 0) spot (Some (of_order order))) 0 (Some (of_order order)) order r.out_receiver both refl (omega arith)
                    (subst (λ (z : Option ℕ). AreInPlace terms.gap r.link r.cells z r.out_receiver) (sym away ∙ out_is) r.in_place);
                views = AreTold-sender r.link later r.sender r.receiver r.out_sender r.out_receiver seat s.views old.view now r.views there None go alone (KnowsOut-sent r.link out knows order) refl
                    (λ inward k. KnowsInward-sent r.link inward k order open_gate);
              },
              record {
                hit = λ _. (
                  not_closed out.closed r.link.shut knows.gate open_gate,
                  λ other holds. let same : order ≡ other = of_order-injective T order other (same_hand old.hand terms.cells.ptr terms.cells.ptr spot spot (of_order order) (of_order other) held_is holds) in
                      ap (λ (z : Order J). record { view = with_away (with_sent old.view z) None; hand = None; spare = old.spare }) same,
                );
                miss = λ miss. absurd (miss hit);
              },
            )

        misses : found ≢ first → Owes found
        misses miss = (
          with_closed old.view,
          keeps,
          tt,
          cell_keeps fits ready terms s r (set s.views seat (with_closed old.view))
              (told_closed (⊎_elim (λ (is : found ≡ number_before r.link.given n sent). absurd (miss (is ∙ (number_is ∙ sym first_is))))
              (λ (is : (found ≡ number_before r.link.given n sent + 2 ^ 63) × (r.link.shut ≡ true)). is.1) mark)) spot there_is,
          record { hit = λ hit. absurd (miss hit); miss = λ _. refl },
        )

        accept : Owes (either (eqb found first) 0 found)
        accept = exchanged found first 0 Owes hits misses

    module _ (k : ℕ) (low : length out.sent ≤ k) (high : k < out.got + out.capacity) where
      abbrev place : ℕ
      place = place_of terms.gap n k

      place_there : place < length r.cells
      place_there = let f = numbers in cell_there fits ready terms s r k (omega arith)

      home : old.hand ≡ Some (terms.cells.ptr, place, None) → old.view.away ≡ Some place
          → Goes (Rule fits ready terms) s (two_rows fits ready terms r.gate (worded r.cells place (word_at r.cells place))) seat old (Homes (step 1 terms.cells.ptr place 0 0) old (word_at r.cells place))
      home held_is out_is = let f = numbers in let here : ℕ = word_at r.cells place in
          let word : IsChanged r.cells (worded r.cells place here) place here (home_at r.cells place) = IsChanged-worded r.cells place place_there here in
          let both : IsChanged r.cells (homed (worded r.cells place here) place (Some None)) place here (Some None) = IsChanged-both r.cells place here (Some None) place_there in (
            with_away old.view None,
            gives 1 place None,
            (subst (λ (z : ℕ). place < z) (sym word.count) place_there, held_is),
            record {
              link = r.link;
              sender = r.sender;
              receiver = r.receiver;
              out_sender = None;
              out_receiver = r.out_receiver;
              gate = r.gate;
              cells = homed (worded r.cells place here) place (Some None);
              law = r.law;
              credits = r.credits;
              terms_are = r.terms_are;
              laid = record { rows = refl; len = both.count ∙ r.laid.len; enough = r.laid.enough; some = r.laid.some };
              gate_word = r.gate_word;
              marked = AreMarked-kept terms.gap r.link r.cells (homed (worded r.cells place here) place (Some None)) r.marked r.link.taken r.link.got r.link.credited
                  (words_stay r.cells (homed (worded r.cells place here) place (Some None)) place (Some None) both);
              in_place = AreInPlace-back terms.gap fits ready r.link r.law r.credits r.cells (homed (worded r.cells place here) place (Some None)) here (Some None) k r.out_receiver both (omega arith) (omega arith) refl
                  (subst (λ (z : Option ℕ). AreInPlace terms.gap r.link r.cells z r.out_receiver) (sym away ∙ out_is) r.in_place);
              views = AreTold-sender r.link r.link r.sender r.receiver r.out_sender r.out_receiver seat s.views old.view (with_away old.view None) r.views there None go alone knows refl (λ _ x. x);
            },
            λ _. refl,
          )

  module _ (at : Ptr) where
    pub probes : terms.gate.ptr ≡ at → Allows (Rule fits ready terms) seat old 0 at 0 (λ z. z) (Probes (step 0 at 0 0 0) old)
    probes same s r there = on_gate fits ready terms s r seat old at (λ z. z) (Probes (step 0 at 0 0 0) old) same (probe s r there at)

    module _ (place : ℕ) (same : terms.cells.ptr ≡ at) where
      pub lends_order : old.view.away ≡ None → length old.view.out.sent < old.view.out.got + old.view.out.capacity → place ≡ place_of terms.gap old.view.out.capacity (length old.view.out.sent)
          → Allows (Rule fits ready terms) seat old 1 at place (λ z. z) (LendsOrder (step 1 at place 0 0) old)
      lends_order rests room is s r there = let f = numbers s r there in
          on_cell fits ready terms s r seat old at place (place_of terms.gap r.link.capacity (length r.link.sent)) (λ z. z) (λ p i. LendsOrder (step 1 p i 0 0) old) same
          (sym (is ∙ (λ i. place_of terms.gap (f.capacity i) (f.count i)))) (there_is s r there room) (lend s r there room rests)

      pub accepts : (order : Order J) (first : ℕ) → old.hand ≡ Some (at, place, of_order order) → old.view.away ≡ Some place
          → length old.view.out.sent < old.view.out.got + old.view.out.capacity → place ≡ place_of terms.gap old.view.out.capacity (length old.view.out.sent)
          → first ≡ number_before old.view.out.seen old.view.out.capacity (length old.view.out.sent) → old.view.out.base + length old.view.out.sent + 1 < 2 ^ 63 → ready order
          → Allows (Rule fits ready terms) seat old 1 at place (λ z. either (eqb z first) 0 z) (Accepts (step 1 at place first 0) old)
      accepts order first held_is out_is room is first_is below is_ready s r there = let f = numbers s r there in
          let spot_is : place ≡ place_of terms.gap r.link.capacity (length r.link.sent) = is ∙ (λ i. place_of terms.gap (f.capacity i) (f.count i)) in
          on_cell fits ready terms s r seat old at place (place_of terms.gap r.link.capacity (length r.link.sent)) (λ z. either (eqb z first) 0 z) (λ p i. Accepts (step 1 p i first 0) old) same
          (sym spot_is) (there_is s r there room)
          (accept s r there room order first (held_is ∙ λ i. Some (sym same i, spot_is i, of_order order)) (out_is ∙ ap (λ (z : ℕ). Some z) spot_is) first_is below is_ready)

      pub homes_free : (k : ℕ) → old.hand ≡ Some (at, place, None) → old.view.away ≡ Some place → length old.view.out.sent ≤ k → k < old.view.out.got + old.view.out.capacity
          → place ≡ place_of terms.gap old.view.out.capacity k → Allows (Rule fits ready terms) seat old 1 at place (λ z. z) (Homes (step 1 at place 0 0) old)
      homes_free k held_is out_is low high is s r there = let f = numbers s r there in
          let spot_is : place ≡ place_of terms.gap r.link.capacity k = is ∙ ap (λ (z : ℕ). place_of terms.gap z k) f.capacity in
          on_cell fits ready terms s r seat old at place (place_of terms.gap r.link.capacity k) (λ z. z) (λ p i. Homes (step 1 p i 0 0) old) same
          (sym spot_is) (place_there s r there k low high)
          (home s r there k low high (held_is ∙ λ i. Some (sym same i, spot_is i, None)) (out_is ∙ ap (λ (z : ℕ). Some z) spot_is))
