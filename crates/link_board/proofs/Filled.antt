-- The steps of a seat that has a cell out, in the terms of the seat before.
use Rattle.link_board.proofs.Names.{Accepts, Allows, Content, eqb, false, gate_bit, Gives, Homes, Known, length, MayGive, me, None, number_before, of_order, of_outcome, Option, Order, Outcome, place_of, refl, Row, Seated, Some, step, subst}
use Rattle.link_board.proofs.Names.{sym, Terms, true, with_away, ℕ, ◌+◌, ◌<◌, ◌^◌, ◌≡◌, ◌≤◌}
use prog.Atomic.{either}
use denote.RawPtr.{Ptr}
use Rattle.link_board.proofs.ReceiverSteps.{homes_answered, gives_back}
use Rattle.link_board.proofs.SenderSteps.{accepts, homes_free}
use Rattle.link_board.proofs.Steps.{Rule}

-- the seat with this view, and the cell of this place out
abbrev pub filled : {J T : Type 0} → Known J T → Option (Row (Content J T)) → Ptr → ℕ → Content J T → Seated J T
filled view spare at place content = me (with_away view (Some place)) (Some (at, place, content)) spare

module _ {J T : Type 0} (fits : Order J → Outcome J T → Type 0) (ready : Order J → Type 0) (terms : Terms J T) (seat : ℕ) (view : Known J T) (spare : Option (Row (Content J T))) (now : Seated J T)
    (at : Ptr) (place : ℕ) (same : terms.cells.ptr ≡ at) where
  pub accepts_filled : (order : Order J) (first : ℕ) → now ≡ filled view spare at place (of_order order) → view.sends ≡ true → view.takes ≡ false
      → length view.out.sent < view.out.got + view.out.capacity → place ≡ place_of terms.gap view.out.capacity (length view.out.sent)
      → first ≡ number_before view.out.seen view.out.capacity (length view.out.sent) → view.out.base + length view.out.sent + 1 < 2 ^ 63 → ready order
      → Allows (Rule fits ready terms) seat now 1 at place (λ z. either (eqb z first) 0 z) (Accepts (step 1 at place first 0) now)
  accepts_filled order first is sends alone room place_is first_is below is_ready =
      subst (λ (m : Seated J T). Allows (Rule fits ready terms) seat m 1 at place (λ z. either (eqb z first) 0 z) (Accepts (step 1 at place first 0) m)) (sym is)
      (accepts fits ready terms seat (filled view spare at place (of_order order)) sends alone at place same order first refl refl room place_is first_is below is_ready)

  pub homes_sender : (k : ℕ) → now ≡ filled view spare at place None → view.sends ≡ true → view.takes ≡ false → length view.out.sent ≤ k → k < view.out.got + view.out.capacity
      → place ≡ place_of terms.gap view.out.capacity k → Allows (Rule fits ready terms) seat now 1 at place (λ z. z) (Homes (step 1 at place 0 0) now)
  homes_sender k is sends alone low high place_is =
      subst (λ (m : Seated J T). Allows (Rule fits ready terms) seat m 1 at place (λ z. z) (Homes (step 1 at place 0 0) m)) (sym is)
      (homes_free fits ready terms seat (filled view spare at place None) sends alone at place same k refl refl low high place_is)

  pub homes_receiver : (k : ℕ) → now ≡ filled view spare at place None → view.takes ≡ true → view.sends ≡ false → length view.inward.given ≤ k → k < view.inward.taken
      → place ≡ place_of terms.gap view.inward.capacity k → Allows (Rule fits ready terms) seat now 1 at place (λ z. z) (Homes (step 1 at place 0 0) now)
  homes_receiver k is takes alone low high place_is =
      subst (λ (m : Seated J T). Allows (Rule fits ready terms) seat m 1 at place (λ z. z) (Homes (step 1 at place 0 0) m)) (sym is)
      (homes_answered fits ready terms seat (filled view spare at place None) takes alone at place same k refl refl low high place_is)

  pub gives_filled : (number : ℕ) (outcome : Outcome J T) (word : ℕ) → now ≡ filled view spare at place (of_outcome outcome) → view.takes ≡ true → view.sends ≡ false
      → length view.inward.given < view.inward.taken → place ≡ place_of terms.gap view.inward.capacity (length view.inward.given) → word ≡ number + gate_bit view.inward.shut
      → MayGive fits view.inward number outcome → Allows (Rule fits ready terms) seat now 1 at place (λ _. word) (λ _. Gives (step 1 at place word 0) now word)
  gives_filled number outcome word is takes alone owed place_is word_is may =
      subst (λ (m : Seated J T). Allows (Rule fits ready terms) seat m 1 at place (λ _. word) (λ _. Gives (step 1 at place word 0) m word)) (sym is)
      (gives_back fits ready terms seat (filled view spare at place (of_outcome outcome)) takes alone at place same number outcome word refl refl owed place_is word_is may)
