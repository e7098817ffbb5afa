-- The board at the start, a seat that only looks, and the seat that is parted.
use Rattle.link_board.proofs.Names.{AreFresh, arith, at_set, Cell, cell_in, Content, Enters, first_view, fresh_link, inl, inr, inward_part, IsLink-fresh, IsPrefix-self, IsTold, Known, length, Lies, List, None, Order, out_part, Outcome}
use Rattle.link_board.proofs.Names.{place_of, refl, Row, row_at, set, spent_view, Splits, State, subst, sym, Terms, true, ℕ, [], ⊎_elim, ◌*◌, ◌+◌, ◌<◌, ◌^◌, ◌∙◌, ◌∷◌, ◌≡◌}
use denote.RawPtr.{Ptr}
use Rattle.link_board.proofs.Numbers.{number-low}
use Rattle.link_board.proofs.Steps.{Rule}
use Rattle.link_board.proofs.Views.{true-not_false, at_end, only_one, one_sender, one_receiver}
use Rattle.link_board.proofs.Windows.{place-below}

one_cell : {S : Type 0} (cells : List (Cell S)) → length cells ≡ 1 → cells ≡ cell_in cells 0 ∷ []
one_cell [] e = absurd (omega arith)
one_cell (c ∷ []) e = refl
one_cell (c ∷ d ∷ cells) e = absurd (omega arith)

module _ {J T : Type 0} (fits : Order J → Outcome J T → Type 0) (ready : Order J → Type 0) (terms : Terms J T) where
  pub starts : (gate_at cells_at : Ptr) (gates cells : List (Cell (Content J T))) → gate_at ≡ terms.gate.ptr → cells_at ≡ terms.cells.ptr → AreFresh gates 1 0 → AreFresh cells terms.len 1
      → ((turn : ℕ) → turn < terms.capacity → (terms.gap + 1) * turn < terms.len) → 0 < terms.len → terms.base < 2 ^ 63
      → Rule fits ready terms record { rows = row_at gate_at gates ∷ row_at cells_at cells ∷ []; views = first_view terms ∷ [] }
  starts gate_at cells_at gates cells gate_is cells_is one all enough some_cell small = record {
    link = fresh_link terms;
    sender = 0;
    receiver = 0;
    out_sender = None;
    out_receiver = None;
    gate = cell_in gates 0;
    cells = cells;
    law = IsLink-fresh terms.from terms.to terms.capacity terms.base small;
    credits = refl;
    terms_are = record { from = refl; to = refl; base = refl; capacity = refl };
    laid = record {
      rows = let only = one_cell gates one.0 in λ i. row_at (gate_is i) (only i) ∷ row_at (cells_is i) cells ∷ [];
      len = all.0;
      enough = enough;
      some = some_cell;
    };
    gate_word = λ high. let zero_word = (one.2 0 (omega arith)).0 in absurd (omega arith);
    marked = record {
      pending = λ i a b. absurd (omega arith);
      settled = λ i a b. let low : i < terms.capacity = omega arith in
          inl ((all.2 (place_of terms.gap terms.capacity i) (place-below terms.gap terms.capacity i terms.len enough (omega arith))).0 ∙ sym (number-low {J = J} {T = T} [] terms.capacity i low));
      closed = λ shut. absurd cc;
    };
    in_place = record {
      orders = λ i a b. absurd (omega arith);
      outcomes = λ i a b. absurd (omega arith);
      answered = λ i a b. absurd (omega arith);
      free = λ i a b. inr (all.2 (place_of terms.gap terms.capacity i) (place-below terms.gap terms.capacity i terms.len enough (omega arith))).1;
    };
    views = λ seat view here. let is = only_one (first_view terms) view seat here in
        subst (IsTold (fresh_link terms) 0 0 None None seat) is.1 (record {
          sends = λ _. (is.0, record { knows = refl; sees = IsPrefix-self []; got_seen = omega arith; gate = λ shut. shut }, refl);
          takes = λ _. (is.0, record { knows = refl; sees = IsPrefix-self []; taken_seen = omega arith; final = λ _. refl }, refl);
        });
  }

  module _ (s : State (Content J T) (Known J T)) (r : Rule fits ready terms s) where
    pub gate_lies : (at : Ptr) → terms.gate.ptr ≡ at → Lies s.rows 0 at 0
    gate_lies at same = subst (λ (rows : List (Row (Content J T))). Lies rows 0 at 0) (sym r.laid.rows) (same, omega arith)

    pub cell_lies : (at : Ptr) (place i : ℕ) → terms.cells.ptr ≡ at → 0 < terms.capacity → place ≡ place_of terms.gap terms.capacity i → Lies s.rows 1 at place
    cell_lies at place i same some_cell is =
        let near : place_of terms.gap terms.capacity i < terms.len = place-below terms.gap terms.capacity i terms.len r.laid.enough some_cell in
        let there : place < length r.cells = subst (λ (z : ℕ). z < length r.cells) (sym is) (subst (λ (z : ℕ). place_of terms.gap terms.capacity i < z) (sym r.laid.len) near) in
        subst (λ (rows : List (Row (Content J T))). Lies rows 1 at place) (sym r.laid.rows) (same, there)

  -- a new seat that knows nothing may come at any time
  pub enters : (at : Ptr) (place i : ℕ) → terms.cells.ptr ≡ at → 0 < terms.capacity → place ≡ place_of terms.gap terms.capacity i → Enters (Rule fits ready terms) 1 at place (λ _ view. view ≡ spent_view)
  enters at place i same some_cell is s r = (
    cell_lies s r at place i same some_cell is,
    λ _. (
      spent_view,
      record {
        link = r.link;
        sender = r.sender;
        receiver = r.receiver;
        out_sender = r.out_sender;
        out_receiver = r.out_receiver;
        gate = r.gate;
        cells = r.cells;
        law = r.law;
        credits = r.credits;
        terms_are = r.terms_are;
        laid = record { rows = r.laid.rows; len = r.laid.len; enough = r.laid.enough; some = r.laid.some };
        gate_word = r.gate_word;
        marked = r.marked;
        in_place = r.in_place;
        views = λ id now here. ⊎_elim (λ before. r.views id now before)
            (λ last. subst (IsTold r.link r.sender r.receiver r.out_sender r.out_receiver id) last.1
            (record { sends = λ no. absurd (true-not_false (sym no)); takes = λ no. absurd (true-not_false (sym no)) }))
            (at_end s.views spent_view now id here);
      },
      refl,
    ),
  )

  -- the seat is parted into the sender's and the receiver's
  pub parts : (at : Ptr) (seat : ℕ) (view : Known J T) → terms.gate.ptr ≡ at → view.sends ≡ true → view.takes ≡ true → Splits (Rule fits ready terms) 0 at seat view (out_part view) (inward_part view)
  parts at seat view same go on s r there =
      let told = r.views seat view there in let views : List (Known J T) = set s.views seat (out_part view) in (
        gate_lies s r at same,
        record {
          link = r.link;
          sender = seat;
          receiver = length views;
          out_sender = r.out_sender;
          out_receiver = r.out_receiver;
          gate = r.gate;
          cells = r.cells;
          law = r.law;
          credits = r.credits;
          terms_are = r.terms_are;
          laid = record { rows = r.laid.rows; len = r.laid.len; enough = r.laid.enough; some = r.laid.some };
          gate_word = r.gate_word;
          marked = r.marked;
          in_place = r.in_place;
          views = λ id now here. ⊎_elim
              (λ before. ⊎_elim
              (λ mine. subst (IsTold r.link seat (length views) r.out_sender r.out_receiver id) mine.1 (record {
                sends = λ _. (mine.0, (told.sends go).1, (told.sends go).2);
                takes = λ no. absurd (true-not_false (sym no));
              }))
              (λ other. record {
                sends = λ also. absurd (other.0 (one_sender r.link r.sender r.receiver r.out_sender r.out_receiver s.views r.views seat id view now there other.1 go also));
                takes = λ also. absurd (other.0 (one_receiver r.link r.sender r.receiver r.out_sender r.out_receiver s.views r.views seat id view now there other.1 on also));
              })
              (at_set s.views seat id (out_part view) now before))
              (λ last. subst (IsTold r.link seat (length views) r.out_sender r.out_receiver id) last.1 (record {
                sends = λ no. absurd (true-not_false (sym no));
                takes = λ _. (last.0, (told.takes on).1, (told.takes on).2);
              }))
              (at_end views (inward_part view) now id here);
        },
      )
