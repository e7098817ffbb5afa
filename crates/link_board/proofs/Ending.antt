-- The rows after the board is closed: each cell is at home.
use Rattle.link_board.proofs.Names.{AllHome, ap, arith, cells_back, Content, Final, IsRing, length, List, no_row, Order, Outcome, refl, Row, row, row_at, rows_back, RowsBack, set, subst, suc, Terms, zero, ℕ, [], ◌<◌, ◌∙◌, ◌∷◌, ◌≡◌}
use denote.RawPtr.{Ptr}
use Rattle.link_board.proofs.Steps.{two_rows}

-- a row at this place, of so many cells, all at home
pub record IsWhole {S : Type 0} (one : Row S) (at : Ptr) (len : ℕ) : Type 0 where
  pub place : one.at ≡ at
  pub count : length one.cells ≡ len
  pub home : AllHome one.cells

pub record IsEnding {J T : Type 0} (terms : Terms J T) (rows : List (Row (Content J T))) : Type 0 where
  pub two : length rows ≡ 2
  pub gate : IsWhole (row rows 0) terms.gate.ptr 1
  pub cells : IsWhole (row rows 1) terms.cells.ptr terms.len
  pub some : 0 < terms.len

two_back : {S : Type 0} (x y : Row S) (rows : List (Row S)) → RowsBack (x ∷ y ∷ []) rows → length rows ≡ 2
two_back x y [] back = absurd back
two_back x y (a ∷ []) back = absurd back.2
two_back x y (a ∷ b ∷ []) back = refl
two_back x y (a ∷ b ∷ c ∷ rows) back = absurd back.2.2

whole_row : {S : Type 0} (before rows : List (Row S)) (k : ℕ) → RowsBack before rows → (at : Ptr) (len : ℕ) → (row before k).at ≡ at → length (row before k).cells ≡ len → IsWhole (row rows k) at len
whole_row before rows k back at len at_is len_is = let t = rows_back before rows back k in let u = cells_back (row before k).cells (row rows k).cells t.1 in record {
  place = t.0 ∙ at_is;
  count = u.0 ∙ len_is;
  home = u.1;
}

pub ending : {J T : Type 0} (fits : Order J → Outcome J T → Type 0) (ready : Order J → Type 0) (terms : Terms J T) (rows : List (Row (Content J T))) → Final (IsRing fits ready terms) rows → IsEnding terms rows
ending {J} {T} fits ready terms rows final = let r = final.1 in
    let back : RowsBack (two_rows fits ready terms r.gate r.cells) rows = subst (λ (z : List (Row (Content J T))). RowsBack z rows) r.laid.rows final.2 in record {
      two = two_back (row_at terms.gate.ptr (r.gate ∷ [])) (row_at terms.cells.ptr r.cells) rows back;
      gate = whole_row (two_rows fits ready terms r.gate r.cells) rows 0 back terms.gate.ptr 1 refl refl;
      cells = whole_row (two_rows fits ready terms r.gate r.cells) rows 1 back terms.cells.ptr terms.len refl r.laid.len;
      some = r.laid.some;
    }

-- the row of the gate is what it was when the other was taken
pub gate_stays : {S : Type 0} (rows : List (Row S)) → length rows ≡ 2 → row (set rows 1 no_row) 0 ≡ row rows 0
gate_stays [] e = absurd (omega arith)
gate_stays (a ∷ rows) e = refl

none_left : {S : Type 0} (rows : List (Row S)) → length rows ≡ 2 → (k : ℕ) → (row (set (set rows 1 no_row) 0 no_row) k).cells ≡ []
none_left [] e k = absurd (omega arith)
none_left (a ∷ []) e k = absurd (omega arith)
none_left (a ∷ b ∷ []) e zero = refl
none_left (a ∷ b ∷ []) e (suc zero) = refl
none_left (a ∷ b ∷ []) e (suc (suc k)) = refl
none_left (a ∷ b ∷ c ∷ rows) e k = absurd (omega arith)

-- no cell is left, once both rows were taken
pub none_left_after : {S : Type 0} (rows one two : List (Row S)) → one ≡ set rows 1 no_row → two ≡ set one 0 no_row → length rows ≡ 2 → (k : ℕ) → (row two k).cells ≡ []
none_left_after {S} rows one two one_is two_is e k = ap (λ (z : List (Row S)). (row z k).cells) (two_is ∙ ap (λ (z : List (Row S)). set z 0 no_row) one_is) ∙ none_left rows e k
