-- The cells after one of them went out or came home, or changed what it holds.
use Rattle.link_board.proofs.Names.{ap, AreFree, AreHome, AreInPlace, arith, Cell, Content, held_order, home_at, inl, inr, IsLink, length, length-append, List, None, of_order, Option, Order, order_at, Outcome, outcome_at, place_of, refl}
use Rattle.link_board.proofs.Names.{slice_get-starts, Some, subst, sym, true, Whole, ℕ, [], ⊎_elim, ◌++◌, ◌+◌, ◌<◌, ◌∙◌, ◌∷◌, ◌≡◌, ◌≢◌, ◌≤◌, ◌⊎◌}
use Rattle.link_board.proofs.Changes.{IsChanged}
use Rattle.link_board.proofs.Numbers.{place-again}
use Rattle.link_board.proofs.Windows.{slice_get-last, apart, AreHome-changed, AreFree-changed}

module _ {J T : Type 0} (gap : ℕ) (cells later : List (Cell (Content J T))) (n lap k word : ℕ) (now : Option (Content J T)) (is : IsChanged cells later (place_of gap n k) word now) (after : lap ≤ k) (near : k < lap + n) where
  other_cell : (i : ℕ) → lap ≤ i → i < lap + n → i ≢ k → place_of gap n i ≢ place_of gap n k
  other_cell i a b = apart gap n lap i k a b after near

  -- a window of the lap without the cell that changed
  pub AreHome-stays : (low high : ℕ) (content : ℕ → Content J T) → lap ≤ low → high ≤ lap + n → (k < low) ⊎ (high ≤ k) → AreHome gap cells n low high content → AreHome gap later n low high content
  AreHome-stays low high content a b out = AreHome-changed gap cells later n k word now is low high low high content content
      (λ i c d differ. (c, d, other_cell i (omega arith) (omega arith) differ, refl))
      (λ c d. absurd (⊎_elim (λ (e : k < low). omega arith) (λ (e : high ≤ k). omega arith) out))

  pub AreFree-stays : (away : Option ℕ) (low high : ℕ) → lap ≤ low → high ≤ lap + n → (k < low) ⊎ (high ≤ k) → AreFree gap cells away n low high → AreFree gap later away n low high
  AreFree-stays away low high a b out = AreFree-changed gap cells later n k word now is away away low high low high
      (λ i c d differ. (c, d, other_cell i (omega arith) (omega arith) differ)) (λ i _ e. e)
      (λ c d. absurd (⊎_elim (λ (e : k < low). omega arith) (λ (e : high ≤ k). omega arith) out))

  -- a free cell goes out
  pub AreFree-lent : (low high low' high' : ℕ) → lap ≤ low' → high' ≤ lap + n → ((i : ℕ) → low' ≤ i → i < high' → i ≢ k → (low ≤ i) × (i < high))
      → AreFree gap cells None n low high → AreFree gap later (Some (place_of gap n k)) n low' high'
  AreFree-lent low high low' high' a b within = AreFree-changed gap cells later n k word now is None (Some (place_of gap n k)) low high low' high'
      (λ i c d differ. let w = within i c d differ in (w.0, w.1, other_cell i (omega arith) (omega arith) differ)) (λ i _ e. absurd cc) (λ _ _. inl refl)

  -- the cell that was out is home, with nothing in it or no more among these
  pub AreFree-back : (low high low' : ℕ) → lap ≤ low → low ≤ low' → high ≤ lap + n → (now ≡ Some None) ⊎ (k < low')
      → AreFree gap cells (Some (place_of gap n k)) n low high → AreFree gap later None n low' high
  AreFree-back low high low' a b c empty = AreFree-changed gap cells later n k word now is (Some (place_of gap n k)) None low high low' high
      (λ i d e differ. (omega arith, e, other_cell i (omega arith) (omega arith) differ)) (λ i other same. let e : place_of gap n k ≡ place_of gap n i = cc in absurd (other (sym e)))
      (λ d e. inr (⊎_elim (λ (x : now ≡ Some None). x) (λ (x : k < low'). absurd (omega arith)) empty))

module _ {J T : Type 0} (gap : ℕ) (link : Whole J T) (cells later : List (Cell (Content J T))) (out_sender out_receiver : Option ℕ) (same : (place : ℕ) → home_at later place ≡ home_at cells place) where
  free_stays : (away : Option ℕ) (low high : ℕ) → AreFree gap cells away link.capacity low high → AreFree gap later away link.capacity low high
  free_stays away low high free i a b = ⊎_elim (λ (x : away ≡ Some (place_of gap link.capacity i)). inl x)
      (λ (x : home_at cells (place_of gap link.capacity i) ≡ Some None). inr (same (place_of gap link.capacity i) ∙ x)) (free i a b)

  -- what the cells hold is the same
  pub AreInPlace-kept : AreInPlace gap link cells out_sender out_receiver → AreInPlace gap link later out_sender out_receiver
  AreInPlace-kept p = record {
    orders = λ i a b. same (place_of gap link.capacity i) ∙ p.orders i a b;
    outcomes = λ i a b. same (place_of gap link.capacity i) ∙ p.outcomes i a b;
    answered = free_stays out_receiver (length link.given) link.taken p.answered;
    free = free_stays out_sender (length link.sent) (link.got + link.capacity) p.free;
  }

-- a shut moves no cell
pub AreInPlace-shut : {J T : Type 0} (gap : ℕ) (link : Whole J T) (cells : List (Cell (Content J T))) (out_sender out_receiver : Option ℕ)
    → AreInPlace gap link cells out_sender out_receiver → AreInPlace gap (record link { shut = true }) cells out_sender out_receiver
AreInPlace-shut gap link cells out_sender out_receiver p = record { orders = p.orders; outcomes = p.outcomes; answered = p.answered; free = p.free }

module _ {J T : Type 0} (gap : ℕ) (fits : Order J → Outcome J T → Type 0) (ready : Order J → Type 0) (link : Whole J T) (law : IsLink fits ready link) (credits : link.credited ≡ link.got)
    (cells later : List (Cell (Content J T))) (word : ℕ) (now : Option (Content J T)) where
  abbrev n : ℕ
  n = link.capacity

  abbrev sent : ℕ
  sent = length link.sent

  abbrev given : ℕ
  given = length link.given

  pub all : sent ≤ link.got + n
  all = omega (arith, law.room)

  module _ (k : ℕ) (out_receiver : Option ℕ) (is : IsChanged cells later (place_of gap n k) word now) (low : sent ≤ k) (high : k < link.got + n) where
    -- the sender's cell of one of its next orders goes out, and comes home
    pub AreInPlace-lent : AreInPlace gap link cells None out_receiver → AreInPlace gap link later (Some (place_of gap n k)) out_receiver
    AreInPlace-lent p =
        let one = law.got_given in let two = law.given_taken in let three = law.taken_sent in record {
          orders = AreHome-stays gap cells later n link.got k word now is (omega arith) high link.taken sent (order_at link.sent) (omega arith) all (inr low) p.orders;
          outcomes = AreHome-stays gap cells later n link.got k word now is (omega arith) high link.got given (outcome_at link.given) (omega arith) (omega arith) (inr (omega arith)) p.outcomes;
          answered = AreFree-stays gap cells later n link.got k word now is (omega arith) high out_receiver given link.taken one (omega arith) (inr (omega arith)) p.answered;
          free = AreFree-lent gap cells later n link.got k word now is (omega arith) high sent (link.got + n) sent (link.got + n) (omega arith) (omega arith) (λ i a b _. (a, b)) p.free;
        }

    pub AreInPlace-back : now ≡ Some None → AreInPlace gap link cells (Some (place_of gap n k)) out_receiver → AreInPlace gap link later None out_receiver
    AreInPlace-back empty p =
        let one = law.got_given in let two = law.given_taken in let three = law.taken_sent in record {
          orders = AreHome-stays gap cells later n link.got k word now is (omega arith) high link.taken sent (order_at link.sent) (omega arith) all (inr low) p.orders;
          outcomes = AreHome-stays gap cells later n link.got k word now is (omega arith) high link.got given (outcome_at link.given) (omega arith) (omega arith) (inr (omega arith)) p.outcomes;
          answered = AreFree-stays gap cells later n link.got k word now is (omega arith) high out_receiver given link.taken one (omega arith) (inr (omega arith)) p.answered;
          free = AreFree-back gap cells later n link.got k word now is (omega arith) high sent (link.got + n) sent (omega arith) (omega arith) (omega arith) (inl empty) p.free;
        }

  -- the order in the sender's cell is sent
  pub AreInPlace-sent : (order : Order J) (out_receiver : Option ℕ) → IsChanged cells later (place_of gap n sent) word now → now ≡ Some (of_order order) → sent < link.got + n
      → AreInPlace gap link cells (Some (place_of gap n sent)) out_receiver → AreInPlace gap (record link { sent = link.sent ++ order ∷ [] }) later None out_receiver
  AreInPlace-sent order out_receiver is holds room p =
      let one = law.got_given in let two = law.given_taken in let three = law.taken_sent in
      let longer : length (link.sent ++ order ∷ []) ≡ sent + 1 = length-append link.sent (order ∷ []) in record {
        orders = AreHome-changed gap cells later n sent word now is link.taken sent link.taken (length (link.sent ++ order ∷ [])) (order_at link.sent) (order_at (link.sent ++ order ∷ []))
            (λ i a b differ. (
              a,
              omega arith,
              apart gap n link.got i sent (omega arith) (omega arith) (omega arith) room differ,
              (let h : i < sent = omega arith in ap held_order (sym (slice_get-starts (link.sent ++ order ∷ []) link.sent i (order ∷ [], refl) h))),
            ))
            (λ _ _. holds ∙ ap (λ (z : Option (Order J)). Some (held_order z)) (sym (slice_get-last link.sent order))) p.orders;
        outcomes = AreHome-stays gap cells later n link.got sent word now is (omega arith) room link.got given (outcome_at link.given) (omega arith) (omega arith) (inr (omega arith)) p.outcomes;
        answered = AreFree-stays gap cells later n link.got sent word now is (omega arith) room out_receiver given link.taken one (omega arith) (inr three) p.answered;
        free = AreFree-back gap cells later n link.got sent word now is (omega arith) room sent (link.got + n) (length (link.sent ++ order ∷ [])) (omega arith) (omega arith) (omega arith) (inr (omega arith)) p.free;
      }

  -- the next outcome goes out, and leaves a free cell
  pub AreInPlace-got : (out_receiver : Option ℕ) → IsChanged cells later (place_of gap n link.got) word now → link.got < given
      → AreInPlace gap link cells None out_receiver → AreInPlace gap (record link { got = link.got + 1; credited = link.credited + 1 }) later (Some (place_of gap n link.got)) out_receiver
  AreInPlace-got out_receiver is more p =
      let two = law.given_taken in let three = law.taken_sent in let some_cell : 0 < n = omega arith in
      let again : IsChanged cells later (place_of gap n (link.got + n)) word now = subst (λ (z : ℕ). IsChanged cells later z word now) (sym (place-again gap n link.got)) is in record {
        orders = AreHome-stays gap cells later n link.got link.got word now is (omega arith) (omega arith) link.taken sent (order_at link.sent) (omega arith) all (inl (omega arith)) p.orders;
        outcomes = AreHome-changed gap cells later n link.got word now is link.got given (link.got + 1) given (outcome_at link.given) (outcome_at link.given)
            (λ i a b differ. (omega arith, b, apart gap n link.got i link.got (omega arith) (omega arith) (omega arith) (omega arith) differ, refl)) (λ a b. absurd (omega arith)) p.outcomes;
        answered = AreFree-stays gap cells later n link.got link.got word now is (omega arith) (omega arith) out_receiver given link.taken (omega arith) (omega arith) (inl more) p.answered;
        free = subst (λ (z : ℕ). AreFree gap later (Some z) n sent (link.got + 1 + n)) (place-again gap n link.got)
            (AreFree-lent gap cells later n (link.got + 1) (link.got + n) word now again (omega arith) (omega arith) sent (link.got + n) sent (link.got + 1 + n) (omega arith) (omega arith)
            (λ i a b differ. (a, omega arith)) p.free);
      }
