-- What a step on the word of a cell, or of the gate, owes.
use Rattle.link_board.proofs.Names.{AreTold, arith, Cell, cell, Content, Goes, home_at, IsRing, Known, length, Lies, List, Order, Outcome, place_of, refl, Row, row_at, Seated, State, subst, sym, Terms, with_word, word_at, word_of, ℕ, []}
use Rattle.link_board.proofs.Names.{◌<◌, ◌∙◌, ◌∷◌, ◌≡◌}
use denote.RawPtr.{Ptr}
use Rattle.link_board.proofs.Changes.{worded, IsChanged, IsChanged-worded, words_stay, homes_stay}
use Rattle.link_board.proofs.InPlace.{AreInPlace-kept}
use Rattle.link_board.proofs.Marks.{AreMarked-kept}
use Rattle.link_board.proofs.Windows.{place-below}

module _ {J T : Type 0} (fits : Order J → Outcome J T → Type 0) (ready : Order J → Type 0) (terms : Terms J T) where
  abbrev pub Rule : State (Content J T) (Known J T) → Type 0
  Rule = IsRing fits ready terms

  -- the two rows
  abbrev pub two_rows : Cell (Content J T) → List (Cell (Content J T)) → List (Row (Content J T))
  two_rows gate cells = row_at terms.gate.ptr (gate ∷ []) ∷ row_at terms.cells.ptr cells ∷ []

  abbrev pub with_views : Cell (Content J T) → List (Cell (Content J T)) → List (Known J T) → State (Content J T) (Known J T)
  with_views gate cells views = record { rows = two_rows gate cells; views = views }

  abbrev pub gated : Cell (Content J T) → ℕ → Cell (Content J T)
  gated gate word = cell word gate.link gate.home

  module _ (s : State (Content J T) (Known J T)) (r : Rule s) (seat : ℕ) (old : Seated J T) (at : Ptr) where
    -- what a step owes at the place of a cell, it owes at the place where the code finds it
    pub on_cell : (place spot : ℕ) (f : ℕ → ℕ) (then : Ptr → ℕ → ℕ → Seated J T → Type 0) → terms.cells.ptr ≡ at → spot ≡ place → spot < length r.cells
        → Goes Rule s (two_rows r.gate (worded r.cells spot (f (word_at r.cells spot)))) seat old (then terms.cells.ptr spot (word_at r.cells spot))
        → Lies s.rows 1 at place × (word_of s.rows 1 place < 18446744073709551616 → Goes Rule s (with_word s.rows 1 place (f (word_of s.rows 1 place))) seat old (then at place (word_of s.rows 1 place)))
    on_cell place spot f then same is there goes =
        subst (λ (z : Ptr × ℕ). Lies s.rows 1 z.0 z.1 × (word_of s.rows 1 z.1 < 18446744073709551616 → Goes Rule s (with_word s.rows 1 z.1 (f (word_of s.rows 1 z.1))) seat old (then z.0 z.1 (word_of s.rows 1 z.1))))
        (λ i. (same i, is i))
        (subst (λ (rows : List (Row (Content J T))). Lies rows 1 terms.cells.ptr spot × (word_of rows 1 spot < 18446744073709551616
        → Goes Rule s (with_word rows 1 spot (f (word_of rows 1 spot))) seat old (then terms.cells.ptr spot (word_of rows 1 spot)))) (sym r.laid.rows) ((refl, there), λ _. goes))

    pub on_gate : (f : ℕ → ℕ) (then : ℕ → Seated J T → Type 0) → terms.gate.ptr ≡ at
        → Goes Rule s (two_rows (gated r.gate (f r.gate.word)) r.cells) seat old (then r.gate.word)
        → Lies s.rows 0 at 0 × (word_of s.rows 0 0 < 18446744073709551616 → Goes Rule s (with_word s.rows 0 0 (f (word_of s.rows 0 0))) seat old (then (word_of s.rows 0 0)))
    on_gate f then same goes =
        subst (λ (rows : List (Row (Content J T))). Lies rows 0 at 0 × (word_of rows 0 0 < 18446744073709551616 → Goes Rule s (with_word rows 0 0 (f (word_of rows 0 0))) seat old (then (word_of rows 0 0))))
        (sym r.laid.rows) ((same, omega arith), λ _. goes)

  -- the cell of each index is there
  pub cell_there : (s : State (Content J T) (Known J T)) (r : Rule s) (i : ℕ) → 0 < r.link.capacity → place_of terms.gap r.link.capacity i < length r.cells
  cell_there s r i some_cell = subst (λ (z : ℕ). place_of terms.gap r.link.capacity i < z) (sym r.laid.len)
      (place-below terms.gap r.link.capacity i terms.len (λ turn near. r.laid.enough turn (omega (arith, r.terms_are.capacity))) some_cell)

  module _ (s : State (Content J T) (Known J T)) (r : Rule s) (views : List (Known J T)) (told : AreTold r.link r.sender r.receiver r.out_sender r.out_receiver views) where
    -- no word changes, and no cell goes out or comes home
    pub cell_keeps : (place : ℕ) → place < length r.cells → Rule (with_views r.gate (worded r.cells place (word_at r.cells place)) views)
    cell_keeps place there =
        let is : IsChanged r.cells (worded r.cells place (word_at r.cells place)) place (word_at r.cells place) (home_at r.cells place) = IsChanged-worded r.cells place there (word_at r.cells place) in record {
          link = r.link;
          sender = r.sender;
          receiver = r.receiver;
          out_sender = r.out_sender;
          out_receiver = r.out_receiver;
          gate = r.gate;
          cells = worded r.cells place (word_at r.cells place);
          law = r.law;
          credits = r.credits;
          terms_are = r.terms_are;
          laid = record { rows = refl; len = is.count ∙ r.laid.len; enough = r.laid.enough; some = r.laid.some };
          gate_word = r.gate_word;
          marked = AreMarked-kept terms.gap r.link r.cells (worded r.cells place (word_at r.cells place)) r.marked r.link.taken r.link.got r.link.credited (words_stay r.cells (worded r.cells place (word_at r.cells place)) place (home_at r.cells place) is);
          in_place = AreInPlace-kept terms.gap r.link r.cells (worded r.cells place (word_at r.cells place)) r.out_sender r.out_receiver (homes_stay r.cells (worded r.cells place (word_at r.cells place)) place (word_at r.cells place) is) r.in_place;
          views = told;
        }

    pub gate_keeps : Rule (with_views (gated r.gate r.gate.word) r.cells views)
    gate_keeps = record {
      link = r.link;
      sender = r.sender;
      receiver = r.receiver;
      out_sender = r.out_sender;
      out_receiver = r.out_receiver;
      gate = gated r.gate r.gate.word;
      cells = r.cells;
      law = r.law;
      credits = r.credits;
      terms_are = r.terms_are;
      laid = record { rows = refl; len = r.laid.len; enough = r.laid.enough; some = r.laid.some };
      gate_word = r.gate_word;
      marked = r.marked;
      in_place = r.in_place;
      views = told;
    }
