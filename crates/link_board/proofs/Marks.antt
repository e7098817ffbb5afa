-- The words of the cells, when one of them changes.
use Rattle.link_board.proofs.Names.{ap, AreMarked, arith, Bool, Cell, Content, false, gate_bit, inl, inr, IsMarked, length, length-append, List, number_before, Option, Order, Outcome, place_of, refl, subst, sym, true, Whole, word_at, ℕ, []}
use Rattle.link_board.proofs.Names.{⊎_elim, ◌++◌, ◌+◌, ◌<◌, ◌^◌, ◌∙◌, ◌∷◌, ◌≡◌, ◌≢◌, ◌≤◌, ◌⊎◌}
use mathlib.Core.Logic.{dite}
use native.Mathlib.Decide.{ℕ_discrete}
use Rattle.link_board.proofs.Changes.{IsChanged}
use Rattle.link_board.proofs.Numbers.{IsMarked-own, number-again, number-seen, place-again}
use Rattle.link_board.proofs.Windows.{apart, slice_get-last}

-- once the gate is shut, a word may have its top bit
IsMarked-shut : (shut : Bool) (number word : ℕ) → IsMarked shut number word → IsMarked true number word
IsMarked-shut shut number word (inl e) = inl e
IsMarked-shut shut number word (inr e) = inr (e.0, refl)

module _ {J T : Type 0} (gap : ℕ) (link : Whole J T) (cells later : List (Cell (Content J T))) (m : AreMarked gap link cells) where
  abbrev n : ℕ
  n = link.capacity

  abbrev sent : ℕ
  sent = length link.sent

  abbrev given : ℕ
  given = length link.given

  -- the words are the same
  pub AreMarked-kept : (taken got credited : ℕ) → ((place : ℕ) → word_at later place ≡ word_at cells place)
      → AreMarked gap (record link { taken = taken; got = got; credited = credited }) later
  AreMarked-kept taken got credited same = record {
    pending = λ i a b. same (place_of gap n i) ∙ m.pending i a b;
    settled = λ i a b. subst (IsMarked link.shut (number_before link.given n i)) (sym (same (place_of gap n i))) (m.settled i a b);
    closed = λ shut room. subst (λ (z : ℕ). 2 ^ 63 ≤ z) (sym (same (place_of gap n sent))) (m.closed shut room);
  }

  -- no other order is accepted
  pub AreMarked-sealed : (link.shut ≡ true) ⊎ (given + n ≤ sent) → ((place : ℕ) → word_at later place ≡ word_at cells place) → AreMarked gap (record link { shut = true }) later
  AreMarked-sealed full same = record {
    pending = λ i a b. same (place_of gap n i) ∙ m.pending i a b;
    settled = λ i a b. subst (IsMarked true (number_before link.given n i)) (sym (same (place_of gap n i))) (IsMarked-shut link.shut _ _ (m.settled i a b));
    closed = λ _ room. subst (λ (z : ℕ). 2 ^ 63 ≤ z) (sym (same (place_of gap n sent)))
        (⊎_elim (λ (shut : link.shut ≡ true). m.closed shut room) (λ (none : given + n ≤ sent). absurd (omega arith)) full);
  }

  module _ (word : ℕ) (now : Option (Content J T)) where
    -- the word of the next order becomes 0
    pub AreMarked-sent : (order : Order J) → IsChanged cells later (place_of gap n sent) word now → word ≡ 0 → given ≤ sent → sent < given + n → link.shut ≡ false
        → AreMarked gap (record link { sent = link.sent ++ order ∷ [] }) later
    AreMarked-sent order is zero low room open_gate =
        let longer : length (link.sent ++ order ∷ []) ≡ sent + 1 = length-append link.sent (order ∷ []) in record {
          pending = λ i a b. dite (ℕ_discrete i sent)
              (λ e. subst (λ (z : ℕ). word_at later (place_of gap n z) ≡ 0) (sym e) (is.word_here ∙ zero))
              (λ differ. is.word_else (place_of gap n i) (apart gap n given i sent a (omega arith) low room differ) ∙ m.pending i a (omega arith));
          settled = λ i a b. let differ : i ≢ sent = (λ e. omega arith) in
              subst (IsMarked link.shut (number_before link.given n i)) (sym (is.word_else (place_of gap n i) (apart gap n given i sent (omega arith) b low room differ))) (m.settled i (omega arith) b);
          closed = λ shut. absurd cc;
        }

    -- the word of the next order has the top bit
    pub AreMarked-shut : IsChanged cells later (place_of gap n sent) word now → word ≡ number_before link.given n sent + 2 ^ 63 → given ≤ sent → sent < given + n
        → AreMarked gap (record link { shut = true }) later
    AreMarked-shut is marked low room = record {
      pending = λ i a b. let differ : i ≢ sent = (λ e. omega arith) in is.word_else (place_of gap n i) (apart gap n given i sent a (omega arith) low room differ) ∙ m.pending i a b;
      settled = λ i a b. dite (ℕ_discrete i sent)
          (λ e. subst (λ (z : ℕ). IsMarked true (number_before link.given n z) (word_at later (place_of gap n z))) (sym e) (inr (is.word_here ∙ marked, refl)))
          (λ differ. subst (IsMarked true (number_before link.given n i)) (sym (is.word_else (place_of gap n i) (apart gap n given i sent (omega arith) b low room differ)))
          (IsMarked-shut link.shut _ _ (m.settled i a b)));
      closed = λ _ _. let e = is.word_here ∙ marked in omega arith;
    }

    module _ (number : ℕ) (outcome : Outcome J T) (is : IsChanged cells later (place_of gap n given) word now) (marked : word ≡ number + gate_bit link.shut) (some_order : given < sent) (all : sent ≤ given + n) where
      abbrev outcomes : List (ℕ × Outcome J T)
      outcomes = link.given ++ (number, outcome) ∷ []

      longer : length outcomes ≡ given + 1
      longer = length-append link.given ((number, outcome) ∷ [])

      else_settled : (i : ℕ) → sent ≤ i → i < given + n → IsMarked link.shut (number_before outcomes n i) (word_at later (place_of gap n i))
      else_settled i a b =
          let differ : i ≢ given = (λ e. omega arith) in let word_same : word_at later (place_of gap n i) ≡ word_at cells (place_of gap n i) =
          is.word_else (place_of gap n i) (apart gap n given i given (omega arith) b (omega arith) (omega arith) differ) in
          let number_same : number_before outcomes n i ≡ number_before link.given n i = number-seen outcomes link.given n i ((number, outcome) ∷ [], refl) b in
          subst (λ (z : ℕ). IsMarked link.shut z (word_at later (place_of gap n i))) (sym number_same) (subst (IsMarked link.shut (number_before link.given n i)) (sym word_same) (m.settled i a b))

      -- the word of the next outcome becomes its number, which the next lap finds there
      pub AreMarked-given : AreMarked gap (record link { given = outcomes }) later
      AreMarked-given = record {
        pending = λ i a b. let differ : i ≢ given = (λ e. omega (arith, longer)) in
            is.word_else (place_of gap n i) (apart gap n given i given (omega (arith, longer)) (omega arith) (omega arith) (omega arith) differ) ∙ m.pending i (omega (arith, longer)) b;
        settled = λ i a b. dite (ℕ_discrete i (given + n))
            (λ e. subst (λ (z : ℕ). IsMarked link.shut (number_before outcomes n z) (word_at later (place_of gap n z))) (sym e)
            (subst (λ (z : ℕ). IsMarked link.shut z (word_at later (place_of gap n (given + n)))) (sym (number-again outcomes n given (number, outcome) (slice_get-last link.given (number, outcome))))
            (IsMarked-own link.shut number (word_at later (place_of gap n (given + n))) (ap (word_at later) (place-again gap n given) ∙ (is.word_here ∙ marked)))))
            (λ differ. else_settled i a (omega (arith, longer)));
        closed = λ shut room. dite (ℕ_discrete sent (given + n))
            (λ e. let bit : gate_bit link.shut ≡ 2 ^ 63 = ap gate_bit shut in
            let here : word_at later (place_of gap n sent) ≡ word = ap (λ (z : ℕ). word_at later (place_of gap n z)) e ∙ (ap (word_at later) (place-again gap n given) ∙ is.word_here) in omega arith)
            (λ differ. let other : sent ≢ given = (λ e. omega arith) in
            subst (λ (z : ℕ). 2 ^ 63 ≤ z) (sym (is.word_else (place_of gap n sent) (apart gap n given sent given (omega arith) (omega (arith, longer)) (omega arith) (omega arith) other))) (m.closed shut (omega (arith, longer))));
      }
