-- The same for the cells of the receiver.
use Rattle.link_board.proofs.Names.{ap, AreInPlace, arith, Cell, Content, held_outcome, inl, inr, IsLink, length, length-append, List, None, of_outcome, Option, Order, order_at, Outcome, outcome_at, place_of, refl, slice_get-starts, Some}
use Rattle.link_board.proofs.Names.{sym, Whole, ℕ, [], ◌++◌, ◌+◌, ◌<◌, ◌∙◌, ◌∷◌, ◌≡◌, ◌≤◌}
use Rattle.link_board.proofs.Changes.{IsChanged}
use Rattle.link_board.proofs.InPlace.{all, AreHome-stays, AreFree-stays, AreFree-lent, AreFree-back}
use Rattle.link_board.proofs.Windows.{slice_get-last, apart, AreHome-changed}

module _ {J T : Type 0} (gap : ℕ) (fits : Order J → Outcome J T → Type 0) (ready : Order J → Type 0) (link : Whole J T) (law : IsLink fits ready link) (credits : link.credited ≡ link.got)
    (cells later : List (Cell (Content J T))) (word : ℕ) (now : Option (Content J T)) (out_sender : Option ℕ) where
  abbrev n : ℕ
  n = link.capacity

  abbrev sent : ℕ
  sent = length link.sent

  abbrev given : ℕ
  given = length link.given

  full : sent ≤ link.got + n
  full = all gap fits ready link law credits cells later word now

  module _ (k : ℕ) (is : IsChanged cells later (place_of gap n k) word now) (low : given ≤ k) (high : k < link.taken) where
    -- the cell of an order that has no outcome yet goes out, and comes home
    pub AreInPlace-lent_back : AreInPlace gap link cells out_sender None → AreInPlace gap link later out_sender (Some (place_of gap n k))
    AreInPlace-lent_back p =
        let one = law.got_given in let two = law.given_taken in let three = law.taken_sent in let most = full in record {
          orders = AreHome-stays gap cells later n link.got k word now is (omega arith) (omega arith) link.taken sent (order_at link.sent) (omega arith) most (inl high) p.orders;
          outcomes = AreHome-stays gap cells later n link.got k word now is (omega arith) (omega arith) link.got given (outcome_at link.given) (omega arith) (omega arith) (inr low) p.outcomes;
          answered = AreFree-lent gap cells later n link.got k word now is (omega arith) (omega arith) given link.taken given link.taken one (omega arith) (λ i a b _. (a, b)) p.answered;
          free = AreFree-stays gap cells later n link.got k word now is (omega arith) (omega arith) out_sender sent (link.got + n) (omega arith) (omega arith) (inl (omega arith)) p.free;
        }

    pub AreInPlace-home : now ≡ Some None → AreInPlace gap link cells out_sender (Some (place_of gap n k)) → AreInPlace gap link later out_sender None
    AreInPlace-home empty p =
        let one = law.got_given in let two = law.given_taken in let three = law.taken_sent in let most = full in record {
          orders = AreHome-stays gap cells later n link.got k word now is (omega arith) (omega arith) link.taken sent (order_at link.sent) (omega arith) most (inl high) p.orders;
          outcomes = AreHome-stays gap cells later n link.got k word now is (omega arith) (omega arith) link.got given (outcome_at link.given) (omega arith) (omega arith) (inr low) p.outcomes;
          answered = AreFree-back gap cells later n link.got k word now is (omega arith) (omega arith) given link.taken given one (omega arith) (omega arith) (inl empty) p.answered;
          free = AreFree-stays gap cells later n link.got k word now is (omega arith) (omega arith) out_sender sent (link.got + n) (omega arith) (omega arith) (inl (omega arith)) p.free;
        }

  -- the next order goes out
  pub AreInPlace-taken : IsChanged cells later (place_of gap n link.taken) word now → link.taken < sent
      → AreInPlace gap link cells out_sender None → AreInPlace gap (record link { taken = link.taken + 1 }) later out_sender (Some (place_of gap n link.taken))
  AreInPlace-taken is more p =
      let one = law.got_given in let two = law.given_taken in let most = full in record {
        orders = AreHome-changed gap cells later n link.taken word now is link.taken sent (link.taken + 1) sent (order_at link.sent) (order_at link.sent)
            (λ i a b differ. (omega arith, b, apart gap n link.got i link.taken (omega arith) (omega arith) (omega arith) (omega arith) differ, refl)) (λ a b. absurd (omega arith)) p.orders;
        outcomes = AreHome-stays gap cells later n link.got link.taken word now is (omega arith) (omega arith) link.got given (outcome_at link.given) (omega arith) (omega arith) (inr two) p.outcomes;
        answered = AreFree-lent gap cells later n link.got link.taken word now is (omega arith) (omega arith) given link.taken given (link.taken + 1) one (omega arith) (λ i a b differ. (a, omega arith)) p.answered;
        free = AreFree-stays gap cells later n link.got link.taken word now is (omega arith) (omega arith) out_sender sent (link.got + n) (omega arith) (omega arith) (inl more) p.free;
      }

  -- the outcome in the receiver's cell is given
  pub AreInPlace-given : (number : ℕ) (outcome : Outcome J T) → IsChanged cells later (place_of gap n given) word now → now ≡ Some (of_outcome outcome) → given < link.taken
      → AreInPlace gap link cells out_sender (Some (place_of gap n given)) → AreInPlace gap (record link { given = link.given ++ (number, outcome) ∷ [] }) later out_sender None
  AreInPlace-given number outcome is holds owed p =
      let one = law.got_given in let three = law.taken_sent in let most = full in
      let longer : length (link.given ++ (number, outcome) ∷ []) ≡ given + 1 = length-append link.given ((number, outcome) ∷ []) in record {
        orders = AreHome-stays gap cells later n link.got given word now is (omega arith) (omega arith) link.taken sent (order_at link.sent) (omega arith) most (inl owed) p.orders;
        outcomes = AreHome-changed gap cells later n given word now is link.got given link.got (length (link.given ++ (number, outcome) ∷ [])) (outcome_at link.given) (outcome_at (link.given ++ (number, outcome) ∷ []))
            (λ i a b differ. (
              a,
              omega arith,
              apart gap n link.got i given (omega arith) (omega arith) (omega arith) (omega arith) differ,
              (let h : i < given = omega arith in ap held_outcome (sym (slice_get-starts (link.given ++ (number, outcome) ∷ []) link.given i ((number, outcome) ∷ [], refl) h))),
            ))
            (λ _ _. holds ∙ ap (λ (z : Option (ℕ × Outcome J T)). Some (held_outcome z)) (sym (slice_get-last link.given (number, outcome)))) p.outcomes;
        answered = AreFree-back gap cells later n link.got given word now is (omega arith) (omega arith) given link.taken (length (link.given ++ (number, outcome) ∷ [])) one (omega arith) (omega arith) (inr (omega arith)) p.answered;
        free = AreFree-stays gap cells later n link.got given word now is (omega arith) (omega arith) out_sender sent (link.got + n) (omega arith) (omega arith) (inl (omega arith)) p.free;
      }
