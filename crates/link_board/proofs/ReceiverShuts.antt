-- The steps of the receiver's seat by which the gate is shut: look, mark, and seal.
use Rattle.link_board.proofs.Names.{Allows, ap, AreTold, arith, Content, eqb, exchanged, false, Goes, home_at, inl, inr, Inward, IsLink-shut, IsPrefix-same, IsPrefix-take, keeps, Known, length, List, Looks, Marks, number_before, Order}
use Rattle.link_board.proofs.Names.{Outcome, place_of, refl, SawOrder, Seals, Seated, set, State, step, subst, sym, take, Terms, true, with_shut, with_taken, word_at, ℕ, ⊎_elim, ◌+◌, ◌<◌, ◌^◌, ◌∙◌, ◌≡◌, ◌≢◌, ◌≤◌, ◌⊎◌}
use mathlib.Core.Option.{some}
use mathlib.Core.Logic.{dite}
use native.Mathlib.Decide.{dec_le}
use lib.ListN.{get_elem?}
use prog.Atomic.{either}
use denote.RawPtr.{Ptr}
use Rattle.link_board.proofs.Changes.{worded, IsChanged, IsChanged-worded, homes_stay}
use Rattle.link_board.proofs.InPlace.{AreInPlace-kept, AreInPlace-shut}
use Rattle.link_board.proofs.Knowledge.{KnowsInward-seen, KnowsInward-shut, KnowsOut-shut}
use Rattle.link_board.proofs.Marks.{AreMarked-shut, AreMarked-sealed}
use Rattle.link_board.proofs.Prefix.{IsPrefix-within, length-front}
use Rattle.link_board.proofs.ReceiverSteps.{InNumbers, knows, away, numbers, shut_is, bounds, told_same, sees, saw}
use Rattle.link_board.proofs.Steps.{Rule, two_rows, gated, on_cell, on_gate, cell_there, cell_keeps}
use Rattle.link_board.proofs.Views.{AreTold-receiver}

module _ {J T : Type 0} (fits : Order J → Outcome J T → Type 0) (ready : Order J → Type 0) (terms : Terms J T) (seat : ℕ) (old : Seated J T) (go : old.view.takes ≡ true) (alone : old.view.sends ≡ false) where
  module _ (s : State (Content J T) (Known J T)) (r : Rule fits ready terms s) (there : get_elem? s.views seat ≡ some old.view) where
    abbrev inward : Inward J T
    inward = old.view.inward

    abbrev n : ℕ
    n = r.link.capacity

    abbrev many : ℕ
    many = length inward.seen

    f : InNumbers r.link inward
    f = numbers fits ready terms seat old go alone s r there

    k : Rattle.link_board.specs.Views.KnowsInward r.link inward
    k = knows fits ready terms seat old go alone s r there

    told_shut : inward.seen ≡ r.link.sent → AreTold (record r.link { shut = true }) r.sender r.receiver r.out_sender r.out_receiver (set s.views seat (with_shut old.view inward.seen))
    told_shut all = AreTold-receiver r.link (record r.link { shut = true }) r.sender r.receiver r.out_sender r.out_receiver seat s.views old.view (with_shut old.view inward.seen) r.views there r.out_receiver go alone
        (KnowsInward-shut r.link inward k all) (away fits ready terms seat old go alone s r there) (λ out x. KnowsOut-shut r.link out x)

    seal : (inward.shut ≡ true) ⊎ (length inward.given + inward.capacity ≤ many)
        → Goes (Rule fits ready terms) s (two_rows fits ready terms (gated fits ready terms r.gate 1) r.cells) seat old (Seals ready old)
    seal full = let e = f in
        let all : inward.seen ≡ r.link.sent = ⊎_elim (λ (shut : inward.shut ≡ true). k.final (sym (shut_is fits ready terms seat old go alone s r there) ∙ shut))
        (λ (none : length inward.given + inward.capacity ≤ many). sym (IsPrefix-same r.link.sent inward.seen k.sees (omega arith))) full in
        let closed : (r.link.shut ≡ true) ⊎ (length r.link.given + n ≤ length r.link.sent) = ⊎_elim (λ (shut : inward.shut ≡ true). inl (sym (shut_is fits ready terms seat old go alone s r there) ∙ shut))
        (λ (none : length inward.given + inward.capacity ≤ many). inr (omega arith)) full in (
          with_shut old.view inward.seen,
          keeps,
          tt,
          record {
            link = record r.link { shut = true };
            sender = r.sender;
            receiver = r.receiver;
            out_sender = r.out_sender;
            out_receiver = r.out_receiver;
            gate = gated fits ready terms r.gate 1;
            cells = r.cells;
            law = IsLink-shut r.law;
            credits = r.credits;
            terms_are = record { from = r.terms_are.from; to = r.terms_are.to; base = r.terms_are.base; capacity = r.terms_are.capacity };
            laid = record { rows = refl; len = r.laid.len; enough = r.laid.enough; some = r.laid.some };
            gate_word = λ _. refl;
            marked = AreMarked-sealed terms.gap r.link r.cells r.cells r.marked closed (λ _. refl);
            in_place = AreInPlace-shut terms.gap r.link r.cells r.out_sender r.out_receiver r.in_place;
            views = told_shut all;
          },
          (saw fits ready terms seat old go alone s r there, refl),
        )

    module _ (clear : inward.shut ≡ false) (room : many < length inward.given + inward.capacity) where
      abbrev spot : ℕ
      spot = place_of terms.gap n many

      abbrev found : ℕ
      found = word_at r.cells spot

      there_is : spot < length r.cells
      there_is = let e = f in cell_there fits ready terms s r many (omega arith)

      number_is : number_before r.link.given n many ≡ number_before inward.given inward.capacity many
      number_is = let e = f in ap (λ (i : Inward J T). number_before i.given i.capacity many) (sym k.knows)

      small : (0 < number_before r.link.given n many) × (number_before r.link.given n many < 2 ^ 63)
      small = let e = f in bounds fits ready terms seat old go alone s r there many (omega arith)

      -- no other order was sent: the word has a number
      last : length r.link.sent ≤ many → (many ≡ length r.link.sent) × (found ≡ number_before r.link.given n many)
      last none = let e = f in (
        omega arith,
        ⊎_elim (λ (is : found ≡ number_before r.link.given n many). is)
            (λ (is : (found ≡ number_before r.link.given n many + 2 ^ 63) × (r.link.shut ≡ true)). let shut = is.1 in let same = shut_is fits ready terms seat old go alone s r there in absurd cc)
            (r.marked.settled many none (omega arith)),
      )

      pending : many < length r.link.sent → found ≡ 0
      pending more = let e = f in r.marked.pending many (omega arith) more

      abbrev seen : List (Order J)
      seen = take (many + 1) r.link.sent

      abbrev saw_view : Known J T
      saw_view = with_taken old.view seen inward.taken

      told_saw : many < length r.link.sent → AreTold r.link r.sender r.receiver r.out_sender r.out_receiver (set s.views seat saw_view)
      told_saw more = let e = f in let l : length seen ≡ many + 1 = length-front r.link.sent (many + 1) (omega arith) in let same = shut_is fits ready terms seat old go alone s r there in
          AreTold-receiver r.link r.link r.sender r.receiver r.out_sender r.out_receiver seat s.views old.view saw_view r.views there r.out_receiver go alone
          (KnowsInward-seen r.link inward k seen (IsPrefix-take (many + 1) r.link.sent) (omega arith) (λ shut. absurd cc)) (away fits ready terms seat old go alone s r there) (λ _ x. x)

      saw_order : many < length r.link.sent → SawOrder ready old record { view = saw_view; hand = old.hand; spare = old.spare }
      saw_order more = let e = f in record {
        seen = seen;
        sees = sees fits ready terms seat old go alone s r there seen (IsPrefix-within r.link.sent (many + 1) inward.seen k.sees (omega arith)) (IsPrefix-take (many + 1) r.link.sent) (λ shut. absurd cc);
        one = length-front r.link.sent (many + 1) (omega arith);
        saw = refl;
      }

      look : Goes (Rule fits ready terms) s (two_rows fits ready terms r.gate (worded r.cells spot found)) seat old (Looks ready old found)
      look = dite (dec_le (many + 1) (length r.link.sent))
          (λ more. let some_order : many < length r.link.sent = omega arith in (
            saw_view,
            keeps,
            tt,
            cell_keeps fits ready terms s r (set s.views seat saw_view) (told_saw some_order) spot there_is,
            record { none = λ not. absurd (not (pending some_order)); more = λ _. saw_order some_order },
          ))
          (λ none. let is = last (omega arith) in let e = is.1 in let low = small.0 in let high = small.1 in (
            old.view,
            keeps,
            tt,
            cell_keeps fits ready terms s r (set s.views seat old.view) (told_same fits ready terms seat old go alone s r there) spot there_is,
            record { none = λ _. (e ∙ number_is, omega arith, refl); more = λ zero. absurd (omega arith) },
          ))

      module _ (first second : ℕ) (first_is : first ≡ number_before inward.given inward.capacity many) (second_is : second ≡ first + 2 ^ 63) where
        abbrev Owes : ℕ → Type 0
        Owes z = Goes (Rule fits ready terms) s (two_rows fits ready terms r.gate (worded r.cells spot z)) seat old (Marks ready (step 1 terms.cells.ptr spot first second) old found)

        hits : found ≡ first → Owes second
        hits hit = let e = f in let low = small.0 in let num = number_is in
            let none : length r.link.sent ≤ many = dite (dec_le (many + 1) (length r.link.sent)) (λ more. let zero : found ≡ 0 = pending (omega arith) in absurd (omega arith)) (λ none. omega arith) in
            let same_count : many ≡ length r.link.sent = (last none).0 in
            let all : inward.seen ≡ r.link.sent = sym (IsPrefix-same r.link.sent inward.seen k.sees (sym same_count)) in
            let word : IsChanged r.cells (worded r.cells spot second) spot second (home_at r.cells spot) = IsChanged-worded r.cells spot there_is second in
            let at_sent : IsChanged r.cells (worded r.cells spot second) (place_of terms.gap n (length r.link.sent)) second (home_at r.cells spot) =
            subst (λ (z : ℕ). IsChanged r.cells (worded r.cells spot second) (place_of terms.gap n z) second (home_at r.cells spot)) same_count word in
            let marked : second ≡ number_before r.link.given n (length r.link.sent) + 2 ^ 63 = subst (λ (z : ℕ). second ≡ number_before r.link.given n z + 2 ^ 63) same_count (omega arith) in (
              with_shut old.view inward.seen,
              keeps,
              tt,
              record {
                link = record r.link { shut = true };
                sender = r.sender;
                receiver = r.receiver;
                out_sender = r.out_sender;
                out_receiver = r.out_receiver;
                gate = r.gate;
                cells = worded r.cells spot second;
                law = IsLink-shut r.law;
                credits = r.credits;
                terms_are = record { from = r.terms_are.from; to = r.terms_are.to; base = r.terms_are.base; capacity = r.terms_are.capacity };
                laid = record { rows = refl; len = word.count ∙ r.laid.len; enough = r.laid.enough; some = r.laid.some };
                gate_word = λ _. refl;
                marked = AreMarked-shut terms.gap r.link r.cells (worded r.cells spot second) r.marked second (home_at r.cells spot) at_sent marked (omega arith) (omega arith);
                in_place = AreInPlace-shut terms.gap r.link (worded r.cells spot second) r.out_sender r.out_receiver
                    (AreInPlace-kept terms.gap r.link r.cells (worded r.cells spot second) r.out_sender r.out_receiver (homes_stay r.cells (worded r.cells spot second) spot second word) r.in_place);
                views = told_shut all;
              },
              record { hit = λ _. (saw fits ready terms seat old go alone s r there, refl); miss = λ miss. absurd (miss hit) },
            )

        misses : found ≢ first → Owes found
        misses miss = let more : many < length r.link.sent = dite (dec_le (many + 1) (length r.link.sent)) (λ more. omega arith)
            (λ none. let is : found ≡ first = (last (omega arith)).1 ∙ (number_is ∙ sym first_is) in absurd (miss is)) in (
              saw_view,
              keeps,
              tt,
              cell_keeps fits ready terms s r (set s.views seat saw_view) (told_saw more) spot there_is,
              record { hit = λ hit. absurd (miss hit); miss = λ _. saw_order more },
            )

        mark : Owes (either (eqb found first) second found)
        mark = exchanged found first second Owes hits misses

  module _ (at : Ptr) where
    pub seals : terms.gate.ptr ≡ at → (old.view.inward.shut ≡ true) ⊎ (length old.view.inward.given + old.view.inward.capacity ≤ length old.view.inward.seen)
        → Allows (Rule fits ready terms) seat old 0 at 0 (λ _. 1) (λ _. Seals ready old)
    seals same full s r there = on_gate fits ready terms s r seat old at (λ _. 1) (λ _. Seals ready old) same (seal s r there full)

    module _ (place : ℕ) (same : terms.cells.ptr ≡ at) (clear : old.view.inward.shut ≡ false) (room : length old.view.inward.seen < length old.view.inward.given + old.view.inward.capacity)
        (is : place ≡ place_of terms.gap old.view.inward.capacity (length old.view.inward.seen)) where
      pub looks : Allows (Rule fits ready terms) seat old 1 at place (λ z. z) (Looks ready old)
      looks s r there = let e = f s r there in
          on_cell fits ready terms s r seat old at place (place_of terms.gap r.link.capacity (length old.view.inward.seen)) (λ z. z) (λ _ _. Looks ready old) same
          (sym (is ∙ ap (λ (z : ℕ). place_of terms.gap z (length old.view.inward.seen)) e.capacity)) (there_is s r there clear room) (look s r there clear room)

      pub marks : (first second : ℕ) → first ≡ number_before old.view.inward.given old.view.inward.capacity (length old.view.inward.seen) → second ≡ first + 2 ^ 63
          → Allows (Rule fits ready terms) seat old 1 at place (λ z. either (eqb z first) second z) (Marks ready (step 1 at place first second) old)
      marks first second first_is second_is s r there = let e = f s r there in
          on_cell fits ready terms s r seat old at place (place_of terms.gap r.link.capacity (length old.view.inward.seen)) (λ z. either (eqb z first) second z) (λ p i. Marks ready (step 1 p i first second) old) same
          (sym (is ∙ ap (λ (z : ℕ). place_of terms.gap z (length old.view.inward.seen)) e.capacity)) (there_is s r there clear room) (mark s r there clear room first second first_is second_is)
