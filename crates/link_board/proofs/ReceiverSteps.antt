-- The steps of the receiver's seat: lift an order, home, lend back, and give.
use Rattle.link_board.proofs.Names.{Allows, ap, AreInPlace, AreTold, arith, Bool, Content, false, gate_bit, Gives, gives, Goes, held_order, home_at, Homes, IfSome, Inward, inward_of, IsLink-give, IsLink-take, IsMarked, IsPrefix-length}
use Rattle.link_board.proofs.Names.{IsPrefix-self, keeps, Known, KnowsInward, LendsBack, length, LiftsOrder, List, MayGive, None, number_before, of_order, of_outcome, Option, Order, Outcome, place_of, refl, Seated, SeesOrders, set}
use Rattle.link_board.proofs.Names.{set_again, slice_get, slice_get-seen, slice_get-starts, Some, State, step, subst, sym, takes, Terms, true, Whole, with_away, with_given, with_taken, word_at, ℕ, [], ⊎_elim, ◌++◌, ◌+◌, ◌-◌, ◌<◌, ◌^◌, ◌∙◌}
use Rattle.link_board.proofs.Names.{◌∷◌, ◌≡◌, ◌≤◌}
use mathlib.Core.Option.{some}
use mathlib.Core.Logic.{dite}
use native.Mathlib.Decide.{dec_le}
use lib.ListN.{get_elem?}
use denote.RawPtr.{Ptr}
use Rattle.link_board.proofs.Answered.{AreInPlace-lent_back, AreInPlace-home, AreInPlace-taken, AreInPlace-given}
use Rattle.link_board.proofs.Changes.{worded, homed, IsChanged, IsChanged-worded, IsChanged-both, words_stay}
use Rattle.link_board.proofs.Injective.{of_outcome-injective, same_hand}
use Rattle.link_board.proofs.Knowledge.{KnowsInward-taken, KnowsInward-given, KnowsOut-taken, KnowsOut-given}
use Rattle.link_board.proofs.Marks.{AreMarked-kept, AreMarked-given}
use Rattle.link_board.proofs.Numbers.{number-bounds, slice_get-there}
use Rattle.link_board.proofs.SeesNext.{SeesNext, SeesNext-lift}
use Rattle.link_board.proofs.Steps.{Rule, two_rows, on_cell, cell_there, cell_keeps}
use Rattle.link_board.proofs.Views.{AreTold-receiver}

-- the numbers of a link, and of its receiver's end
pub record InNumbers {J T : Type 0} (link : Whole J T) (inward : Inward J T) : Type 0 where
  pub capacity : inward.capacity ≡ link.capacity
  pub count : length inward.given ≡ length link.given
  pub taken : inward.taken ≡ link.taken
  pub base : inward.base ≡ link.base
  pub got_given : link.got ≤ length link.given
  pub given_taken : length link.given ≤ link.taken
  pub taken_sent : link.taken ≤ length link.sent
  pub all : length link.sent ≤ link.got + link.capacity
  pub seen_low : link.taken ≤ length inward.seen
  pub seen_high : length inward.seen ≤ length link.sent
  pub small : link.base + length link.sent < 2 ^ 63

-- what may be given by what the receiver sees may be given
MayGive-whole : {J T : Type 0} (fits : Order J → Outcome J T → Type 0) (link : Whole J T) (inward : Inward J T) (number : ℕ) (outcome : Outcome J T) → KnowsInward link inward
    → MayGive fits inward number outcome → MayGive fits (inward_of link) number outcome
MayGive-whole {J} {T} fits link inward number outcome k may =
    let base : inward.base ≡ link.base = ap (λ (i : Inward J T). i.base) k.knows in
    let taken : inward.taken ≡ link.taken = ap (λ (i : Inward J T). i.taken) k.knows in
    let low : inward.base < number = may.0 in let high : number ≤ inward.base + inward.taken = may.1 in
    let within : number - inward.base - 1 < length inward.seen = omega (arith, k.taken_seen) in (
      omega arith,
      omega arith,
      subst (λ (z : Option (Order J)). IfSome z (λ order. fits order outcome)) (sym (slice_get-starts link.sent inward.seen (number - inward.base - 1) k.sees within) ∙ ap (λ (z : ℕ). slice_get link.sent (number - z - 1)) base) may.2,
      λ j y e. may.3 j y (ap (λ (i : Inward J T). slice_get i.given j) k.knows ∙ e),
    )

module _ {J T : Type 0} (fits : Order J → Outcome J T → Type 0) (ready : Order J → Type 0) (terms : Terms J T) (seat : ℕ) (old : Seated J T) (go : old.view.takes ≡ true) (alone : old.view.sends ≡ false) where
  module _ (s : State (Content J T) (Known J T)) (r : Rule fits ready terms s) (there : get_elem? s.views seat ≡ some old.view) where
    abbrev pub inward : Inward J T
    inward = old.view.inward

    abbrev pub n : ℕ
    n = r.link.capacity

    abbrev pub given : ℕ
    given = length r.link.given

    pub knows : KnowsInward r.link inward
    knows = ((r.views seat old.view there).takes go).1

    pub away : old.view.away ≡ r.out_receiver
    away = ((r.views seat old.view there).takes go).2

    pub numbers : InNumbers r.link inward
    numbers = let k : KnowsInward r.link inward = knows in record {
      capacity = ap (λ (i : Inward J T). i.capacity) k.knows;
      count = ap (λ (i : Inward J T). length i.given) k.knows;
      taken = ap (λ (i : Inward J T). i.taken) k.knows;
      base = ap (λ (i : Inward J T). i.base) k.knows;
      got_given = r.law.got_given;
      given_taken = r.law.given_taken;
      taken_sent = r.law.taken_sent;
      all = omega (arith, r.law.room, r.credits);
      seen_low = k.taken_seen;
      seen_high = IsPrefix-length r.link.sent inward.seen k.sees;
      small = r.law.numbered;
    }

    pub shut_is : inward.shut ≡ r.link.shut
    shut_is = ap (λ (i : Inward J T). i.shut) knows.knows

    pub bounds : (i : ℕ) → i < given + n → (0 < number_before r.link.given n i) × (number_before r.link.given n i < 2 ^ 63)
    bounds i near = let f = numbers in number-bounds r.link.base r.link.taken r.link.given n i r.law.named (omega arith) near

    -- nobody knows more
    pub told_same : AreTold r.link r.sender r.receiver r.out_sender r.out_receiver (set s.views seat old.view)
    told_same = subst (AreTold r.link r.sender r.receiver r.out_sender r.out_receiver) (sym (set_again s.views seat old.view there)) r.views

    -- what the receiver may see: a beginning of what was sent that is no shorter than before, and all of it once the gate is shut
    pub sees : (seen : List (Order J)) → Rattle.base_words.specs.Assembly.IsPrefix inward.seen seen → Rattle.base_words.specs.Assembly.IsPrefix seen r.link.sent
        → (inward.shut ≡ true → seen ≡ inward.seen) → SeesOrders ready inward seen
    sees seen longer begins final = let f = numbers in
        let one : length seen ≤ length r.link.sent = IsPrefix-length r.link.sent seen begins in let two : length inward.seen ≤ length seen = IsPrefix-length seen inward.seen longer in record {
          longer = longer;
          final = final;
          taken_seen = omega arith;
          numbered = omega arith;
          room = omega arith;
          ready_orders = λ i order is. r.law.ready_orders i order (slice_get-seen r.link.sent seen begins i order is);
        }

    pub saw : SeesOrders ready inward inward.seen
    saw = sees inward.seen (IsPrefix-self inward.seen) knows.sees (λ _. refl)

    module _ (rests : old.view.away ≡ None) (room : inward.taken < length inward.given + inward.capacity) where
      abbrev spot : ℕ
      spot = place_of terms.gap n r.link.taken

      abbrev found : ℕ
      found = word_at r.cells spot

      there_is : spot < length r.cells
      there_is = let f = numbers in cell_there fits ready terms s r r.link.taken (omega arith)

      abbrev Owes : Type 0
      Owes = Goes (Rule fits ready terms) s (two_rows fits ready terms r.gate (worded r.cells spot found)) seat old (LiftsOrder ready (step 1 terms.cells.ptr spot 0 0) old found)

      -- all orders were taken
      lifts_none : length r.link.sent ≤ r.link.taken → Owes
      lifts_none none = let f = numbers in let mark : IsMarked r.link.shut (number_before r.link.given n r.link.taken) found = r.marked.settled r.link.taken none (omega arith) in
          let b = bounds r.link.taken (omega arith) in let low : 0 < number_before r.link.given n r.link.taken = b.0 in (
            old.view,
            keeps,
            tt,
            cell_keeps fits ready terms s r (set s.views seat old.view) told_same spot there_is,
            record {
              none = λ _. (saw, omega arith, refl);
              more = λ zero. absurd (⊎_elim (λ (e : found ≡ number_before r.link.given n r.link.taken). omega arith)
                  (λ (e : (found ≡ number_before r.link.given n r.link.taken + 2 ^ 63) × (r.link.shut ≡ true)). let is = e.0 in omega arith) mark);
            },
          )

      lifts_one : r.link.taken < length r.link.sent → Owes
      lifts_one more = let f = numbers in let one = SeesNext-lift r.link inward knows more in let seen : List (Order J) = one.0 in let is : SeesNext r.link inward seen = one.1 in
          let next = slice_get-there seen r.link.taken is.within in
          let in_sent : slice_get r.link.sent r.link.taken ≡ Some next.0 = slice_get-seen r.link.sent seen is.begins r.link.taken next.0 next.1 in
          let word : IsChanged r.cells (worded r.cells spot found) spot found (home_at r.cells spot) = IsChanged-worded r.cells spot there_is found in
          let both : IsChanged r.cells (homed (worded r.cells spot found) spot None) spot found None = IsChanged-both r.cells spot found None there_is in
          let later : Whole J T = record r.link { taken = r.link.taken + 1 } in
          let now : Known J T = with_away (with_taken old.view seen (inward.taken + 1)) (Some spot) in
          let zero : found ≡ 0 = r.marked.pending r.link.taken f.given_taken more in (
            now,
            takes 1 spot (of_order next.0),
            (subst (λ (z : ℕ). spot < z) (sym word.count) there_is, word.home_here ∙ (r.in_place.orders r.link.taken (omega arith) more ∙ ap (λ (z : Option (Order J)). Some (held_order z)) in_sent)),
            record {
              link = later;
              sender = r.sender;
              receiver = r.receiver;
              out_sender = r.out_sender;
              out_receiver = Some spot;
              gate = r.gate;
              cells = homed (worded r.cells spot found) spot None;
              law = IsLink-take r.law more;
              credits = r.credits;
              terms_are = record { from = r.terms_are.from; to = r.terms_are.to; base = r.terms_are.base; capacity = r.terms_are.capacity };
              laid = record { rows = refl; len = both.count ∙ r.laid.len; enough = r.laid.enough; some = r.laid.some };
              gate_word = r.gate_word;
              marked = AreMarked-kept terms.gap r.link r.cells (homed (worded r.cells spot found) spot None) r.marked (r.link.taken + 1) r.link.got r.link.credited
                  (words_stay r.cells (homed (worded r.cells spot found) spot None) spot None both);
              in_place = AreInPlace-taken terms.gap fits ready r.link r.law r.credits r.cells (homed (worded r.cells spot found) spot None) found None r.out_sender both more
                  (subst (λ (z : Option ℕ). AreInPlace terms.gap r.link r.cells r.out_sender z) (sym away ∙ rests) r.in_place);
              views = AreTold-receiver r.link later r.sender r.receiver r.out_sender r.out_receiver seat s.views old.view now r.views there (Some spot) go alone
                  (KnowsInward-taken r.link inward knows seen is.begins (omega (arith, is.within)) is.final) refl (λ out k. KnowsOut-taken r.link out k);
            },
            record {
              none = λ not. absurd (not zero);
              more = λ _. record {
                seen = seen;
                order = next.0;
                sees = sees seen is.longer is.begins (λ shut. is.same (sym shut_is ∙ shut));
                here = ap (slice_get seen) f.taken ∙ next.1;
                last = λ all. is.last (all ∙ f.taken) ∙ ap (λ (z : ℕ). z + 1) (sym f.taken);
                lifted = refl;
              };
            },
          )

      lift : Owes
      lift = dite (dec_le (r.link.taken + 1) (length r.link.sent)) (λ more. lifts_one (omega arith)) (λ none. lifts_none (omega arith))

    module _ (k : ℕ) (low : length inward.given ≤ k) (high : k < inward.taken) where
      abbrev place : ℕ
      place = place_of terms.gap n k

      abbrev here : ℕ
      here = word_at r.cells place

      place_there : place < length r.cells
      place_there = let f = numbers in cell_there fits ready terms s r k (omega arith)

      home : old.hand ≡ Some (terms.cells.ptr, place, None) → old.view.away ≡ Some place
          → Goes (Rule fits ready terms) s (two_rows fits ready terms r.gate (worded r.cells place here)) seat old (Homes (step 1 terms.cells.ptr place 0 0) old here)
      home held_is out_is = let f = numbers in
          let word : IsChanged r.cells (worded r.cells place here) place here (home_at r.cells place) = IsChanged-worded r.cells place place_there here in
          let both : IsChanged r.cells (homed (worded r.cells place here) place (Some None)) place here (Some None) = IsChanged-both r.cells place here (Some None) place_there in (
            with_away old.view None,
            gives 1 place None,
            (subst (λ (z : ℕ). place < z) (sym word.count) place_there, held_is),
            record {
              link = r.link;
              sender = r.sender;
              receiver = r.receiver;
              out_sender = r.out_sender;
              out_receiver = None;
              gate = r.gate;
              cells = homed (worded r.cells place here) place (Some None);
              law = r.law;
              credits = r.credits;
              terms_are = r.terms_are;
              laid = record { rows = refl; len = both.count ∙ r.laid.len; enough = r.laid.enough; some = r.laid.some };
              gate_word = r.gate_word;
              marked = AreMarked-kept terms.gap r.link r.cells (homed (worded r.cells place here) place (Some None)) r.marked r.link.taken r.link.got r.link.credited
                  (words_stay r.cells (homed (worded r.cells place here) place (Some None)) place (Some None) both);
              in_place = AreInPlace-home terms.gap fits ready r.link r.law r.credits r.cells (homed (worded r.cells place here) place (Some None)) here (Some None) r.out_sender k both (omega arith) (omega arith) refl
                  (subst (λ (z : Option ℕ). AreInPlace terms.gap r.link r.cells r.out_sender z) (sym away ∙ out_is) r.in_place);
              views = AreTold-receiver r.link r.link r.sender r.receiver r.out_sender r.out_receiver seat s.views old.view (with_away old.view None) r.views there None go alone knows refl (λ _ x. x);
            },
            λ _. refl,
          )

      lend : old.view.away ≡ None → Goes (Rule fits ready terms) s (two_rows fits ready terms r.gate (worded r.cells place here)) seat old (LendsBack (step 1 terms.cells.ptr place 0 0) old here)
      lend rests = let f = numbers in
          let none : r.out_receiver ≡ None = sym away ∙ rests in
          let word : IsChanged r.cells (worded r.cells place here) place here (home_at r.cells place) = IsChanged-worded r.cells place place_there here in
          let both : IsChanged r.cells (homed (worded r.cells place here) place None) place here None = IsChanged-both r.cells place here None place_there in
          let empty : home_at r.cells place ≡ Some None = ⊎_elim (λ (e : r.out_receiver ≡ Some place). let never : ⊥ = cc in absurd never) (λ (e : home_at r.cells place ≡ Some None). e)
          (r.in_place.answered k (omega arith) (omega arith)) in (
            with_away old.view (Some place),
            takes 1 place None,
            (subst (λ (z : ℕ). place < z) (sym word.count) place_there, word.home_here ∙ empty),
            record {
              link = r.link;
              sender = r.sender;
              receiver = r.receiver;
              out_sender = r.out_sender;
              out_receiver = Some place;
              gate = r.gate;
              cells = homed (worded r.cells place here) place None;
              law = r.law;
              credits = r.credits;
              terms_are = r.terms_are;
              laid = record { rows = refl; len = both.count ∙ r.laid.len; enough = r.laid.enough; some = r.laid.some };
              gate_word = r.gate_word;
              marked = AreMarked-kept terms.gap r.link r.cells (homed (worded r.cells place here) place None) r.marked r.link.taken r.link.got r.link.credited (words_stay r.cells (homed (worded r.cells place here) place None) place None both);
              in_place = AreInPlace-lent_back terms.gap fits ready r.link r.law r.credits r.cells (homed (worded r.cells place here) place None) here None r.out_sender k both (omega arith) (omega arith)
                  (subst (λ (z : Option ℕ). AreInPlace terms.gap r.link r.cells r.out_sender z) none r.in_place);
              views = AreTold-receiver r.link r.link r.sender r.receiver r.out_sender r.out_receiver seat s.views old.view (with_away old.view (Some place)) r.views there (Some place) go alone knows refl (λ _ x. x);
            },
            refl,
          )

    module _ (number : ℕ) (outcome : Outcome J T) (word : ℕ) (owed : length inward.given < inward.taken) (held_is : old.hand ≡ Some (terms.cells.ptr, place_of terms.gap n given, of_outcome outcome))
        (out_is : old.view.away ≡ Some (place_of terms.gap n given)) (word_is : word ≡ number + gate_bit inward.shut) (may : MayGive fits inward number outcome) where
      abbrev back : ℕ
      back = place_of terms.gap n given

      back_there : back < length r.cells
      back_there = let f = numbers in cell_there fits ready terms s r given (omega arith)

      give : Goes (Rule fits ready terms) s (two_rows fits ready terms r.gate (worded r.cells back word)) seat old (Gives (step 1 terms.cells.ptr back word 0) old word)
      give = let f = numbers in
          let one : IsChanged r.cells (worded r.cells back word) back word (home_at r.cells back) = IsChanged-worded r.cells back back_there word in
          let both : IsChanged r.cells (homed (worded r.cells back word) back (Some (of_outcome outcome))) back word (Some (of_outcome outcome)) = IsChanged-both r.cells back word (Some (of_outcome outcome)) back_there in
          let later : Whole J T = record r.link { given = r.link.given ++ (number, outcome) ∷ [] } in
          let now : Known J T = with_away (with_given old.view number outcome) None in (
            now,
            gives 1 back (of_outcome outcome),
            (subst (λ (z : ℕ). back < z) (sym one.count) back_there, held_is),
            record {
              link = later;
              sender = r.sender;
              receiver = r.receiver;
              out_sender = r.out_sender;
              out_receiver = None;
              gate = r.gate;
              cells = homed (worded r.cells back word) back (Some (of_outcome outcome));
              law = IsLink-give r.law number outcome (MayGive-whole fits r.link inward number outcome knows may);
              credits = r.credits;
              terms_are = record { from = r.terms_are.from; to = r.terms_are.to; base = r.terms_are.base; capacity = r.terms_are.capacity };
              laid = record { rows = refl; len = both.count ∙ r.laid.len; enough = r.laid.enough; some = r.laid.some };
              gate_word = r.gate_word;
              marked = AreMarked-given terms.gap r.link r.cells (homed (worded r.cells back word) back (Some (of_outcome outcome))) r.marked word (Some (of_outcome outcome)) number outcome both
                  (word_is ∙ ap (λ (z : Bool). number + gate_bit z) shut_is) (omega arith) (omega arith);
              in_place = AreInPlace-given terms.gap fits ready r.link r.law r.credits r.cells (homed (worded r.cells back word) back (Some (of_outcome outcome))) word (Some (of_outcome outcome)) r.out_sender number outcome both refl (omega arith)
                  (subst (λ (z : Option ℕ). AreInPlace terms.gap r.link r.cells r.out_sender z) (sym away ∙ out_is) r.in_place);
              views = AreTold-receiver r.link later r.sender r.receiver r.out_sender r.out_receiver seat s.views old.view now r.views there None go alone (KnowsInward-given r.link inward knows number outcome) refl
                  (λ out k. KnowsOut-given r.link out k number outcome);
            },
            λ number' outcome' first_is holds.
                let same : outcome ≡ outcome' = of_outcome-injective outcome outcome' (same_hand old.hand terms.cells.ptr terms.cells.ptr back back (of_outcome outcome) (of_outcome outcome') held_is holds) in
                let one : number ≡ number' = omega arith in
                λ i. record { view = with_away (with_given old.view (one i) (same i)) None; hand = None; spare = old.spare },
          )

  module _ (at : Ptr) (place : ℕ) (same : terms.cells.ptr ≡ at) where
    pub lifts_order : old.view.away ≡ None → old.view.inward.taken < length old.view.inward.given + old.view.inward.capacity → place ≡ place_of terms.gap old.view.inward.capacity old.view.inward.taken
        → Allows (Rule fits ready terms) seat old 1 at place (λ z. z) (LiftsOrder ready (step 1 at place 0 0) old)
    lifts_order rests room is s r there = let f = numbers s r there in
        on_cell fits ready terms s r seat old at place (place_of terms.gap r.link.capacity r.link.taken) (λ z. z) (λ p i. LiftsOrder ready (step 1 p i 0 0) old) same
        (sym (is ∙ (λ i. place_of terms.gap (f.capacity i) (f.taken i)))) (there_is s r there rests room) (lift s r there rests room)

    pub homes_answered : (k : ℕ) → old.hand ≡ Some (at, place, None) → old.view.away ≡ Some place → length old.view.inward.given ≤ k → k < old.view.inward.taken
        → place ≡ place_of terms.gap old.view.inward.capacity k → Allows (Rule fits ready terms) seat old 1 at place (λ z. z) (Homes (step 1 at place 0 0) old)
    homes_answered k held_is out_is low high is s r there = let f = numbers s r there in
        let spot_is : place ≡ place_of terms.gap r.link.capacity k = is ∙ ap (λ (z : ℕ). place_of terms.gap z k) f.capacity in
        on_cell fits ready terms s r seat old at place (place_of terms.gap r.link.capacity k) (λ z. z) (λ p i. Homes (step 1 p i 0 0) old) same
        (sym spot_is) (place_there s r there k low high)
        (home s r there k low high (held_is ∙ λ i. Some (sym same i, spot_is i, None)) (out_is ∙ ap (λ (z : ℕ). Some z) spot_is))

    pub lends_back : old.view.away ≡ None → length old.view.inward.given < old.view.inward.taken → place ≡ place_of terms.gap old.view.inward.capacity (length old.view.inward.given)
        → Allows (Rule fits ready terms) seat old 1 at place (λ z. z) (LendsBack (step 1 at place 0 0) old)
    lends_back rests owed is s r there = let f = numbers s r there in let k : ℕ = length old.view.inward.given in
        on_cell fits ready terms s r seat old at place (place_of terms.gap r.link.capacity k) (λ z. z) (λ p i. LendsBack (step 1 p i 0 0) old) same
        (sym (is ∙ ap (λ (z : ℕ). place_of terms.gap z k) f.capacity)) (place_there s r there k (omega arith) owed) (lend s r there k (omega arith) owed rests)

    pub gives_back : (number : ℕ) (outcome : Outcome J T) (word : ℕ) → old.hand ≡ Some (at, place, of_outcome outcome) → old.view.away ≡ Some place
        → length old.view.inward.given < old.view.inward.taken → place ≡ place_of terms.gap old.view.inward.capacity (length old.view.inward.given)
        → word ≡ number + gate_bit old.view.inward.shut → MayGive fits old.view.inward number outcome
        → Allows (Rule fits ready terms) seat old 1 at place (λ _. word) (λ _. Gives (step 1 at place word 0) old word)
    gives_back number outcome word held_is out_is owed is word_is may s r there = let f = numbers s r there in
        let spot_is : place ≡ place_of terms.gap r.link.capacity (length r.link.given) = is ∙ (λ i. place_of terms.gap (f.capacity i) (f.count i)) in
        let held' : old.hand ≡ Some (terms.cells.ptr, place_of terms.gap r.link.capacity (length r.link.given), of_outcome outcome) = held_is ∙ λ i. Some (sym same i, spot_is i, of_outcome outcome) in
        let out' : old.view.away ≡ Some (place_of terms.gap r.link.capacity (length r.link.given)) = out_is ∙ ap (λ (z : ℕ). Some z) spot_is in
        on_cell fits ready terms s r seat old at place (place_of terms.gap r.link.capacity (length r.link.given)) (λ _. word) (λ p i _. Gives (step 1 p i word 0) old word) same
        (sym spot_is) (back_there s r there number outcome word owed held' out' word_is may) (give s r there number outcome word owed held' out' word_is may)
