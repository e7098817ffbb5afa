-- A seat with a cell out, after what the cell holds was exchanged.
use Rattle.link_board.proofs.Names.{ap, arith, Bool, Content, gate_bit, Held, Homes, Known, me, mod-lt, mul-lt, None, of_order, of_outcome, Option, Order, Outcome, place_of, Row, Seated, Some, step, subst, sym, with_away, with_closed}
use Rattle.link_board.proofs.Names.{with_view, ℕ, ◌%◌, ◌*◌, ◌+◌, ◌<◌, ◌^◌, ◌∙◌, ◌≡◌}
use denote.RawPtr.{Ptr}
use Rattle.link_board.proofs.Filled.{filled}
use Rattle.link_board.proofs.Injective.{order_there, outcome_there}

below_40 : (x : ℕ) → x < 5 * 2 ^ 16 → x < 2 ^ 40
below_40 x small = omega arith

-- a place is a small number
pub place-small : (gap n i place : ℕ) → gap < 4 → 0 < n → n < 2 ^ 16 → place ≡ place_of gap n i → place < 2 ^ 40
place-small gap n i place near some_cell small is = subst (λ (z : ℕ). z < 2 ^ 40) (sym is)
    (below_40 (place_of gap n i) (mul-lt (gap + 1) (i % n) 5 (2 ^ 16) (omega arith) (let h : i % n < n = mod-lt i some_cell in omega arith)))

-- the word of an outcome, by the gate as the seat knows it
pub given-word : (word number : ℕ) (told shut : Bool) → word ≡ number + gate_bit told → told ≡ shut → word ≡ number + gate_bit shut
given-word word number told shut is same = is ∙ ap (λ (b : Bool). number + gate_bit b) same

-- a place by the gap of a board is that place by the gap of its terms
pub place-told : {told gap place : ℕ} (n i : ℕ) → told ≡ gap → place ≡ place_of gap n i → place ≡ place_of told n i
place-told n i same is = is ∙ ap (λ (z : ℕ). place_of z n i) (sym same)

module _ {J T : Type 0} (view : Known J T) (spare : Option (Row (Content J T))) (at : Ptr) (place : ℕ) where
  -- what is out with the seat
  pub hand_of : (lent : Seated J T) (content : Content J T) → lent ≡ filled view spare at place content → lent.hand ≡ Some (at, place, content)
  hand_of lent content lent_is = ap (λ (m : Seated J T). m.hand) lent_is

  -- an order or an outcome that is out with the seat is there
  held_out : (lent : Seated J T) (content : Content J T) (it : Held J T) → lent ≡ filled view spare at place content → content ≡ Some it → lent.hand ≡ Some (at, place, Some it)
  held_out lent content it lent_is there = hand_of lent content lent_is ∙ ap (λ (x : Content J T). Some (at, place, x)) there

  pub order_out : (lent : Seated J T) (order : Order J) → lent ≡ filled view spare at place (of_order order) → (it : Held J T) × (lent.hand ≡ Some (at, place, Some it))
  order_out lent order lent_is = let there : (it : Held J T) × (of_order order ≡ Some it) = order_there order in (there.0, held_out lent (of_order order) there.0 lent_is there.1)

  pub outcome_out : (lent : Seated J T) (outcome : Outcome J T) → lent ≡ filled view spare at place (of_outcome outcome) → (it : Held J T) × (lent.hand ≡ Some (at, place, Some it))
  outcome_out lent outcome lent_is =
      let there : (it : Held J T) × (of_outcome outcome ≡ Some it) = outcome_there outcome in (there.0, held_out lent (of_outcome outcome) there.0 lent_is there.1)

  -- the cell with something else in it
  pub filled_is : (lent now : Seated J T) (was new content : Content J T) → lent ≡ filled view spare at place was → now ≡ me lent.view (Some (at, place, new)) lent.spare → new ≡ content
      → now ≡ filled view spare at place content
  filled_is lent now was new content lent_is is same =
      is ∙ (ap (λ (m : Seated J T). me m.view (Some (at, place, new)) m.spare) lent_is ∙ ap (λ (x : Content J T). filled view spare at place x) same)

  -- the gate was found shut
  pub missed_is : (lent lost : Seated J T) (was : Content J T) → lent ≡ filled view spare at place was → lost ≡ with_view lent (with_closed lent.view) → lost ≡ filled (with_closed view) spare at place was
  missed_is lent lost was lent_is is = is ∙ ap (λ (m : Seated J T). with_view m (with_closed m.view)) lent_is

  -- the cell is home
  pub homed_is : (lent now : Seated J T) (found : ℕ) → lent ≡ filled view spare at place None → Homes (step 1 at place 0 0) lent found now → now ≡ me (with_away view None) None spare
  homed_is lent now found lent_is is = is (ap (λ (m : Seated J T). m.hand) lent_is) ∙ ap (λ (m : Seated J T). me (with_away m.view None) None m.spare) lent_is
