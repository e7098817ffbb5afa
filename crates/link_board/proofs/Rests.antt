-- The receiver's seat after its calls.
use Rattle.link_board.proofs.Names.{ap, arith, gate_bit, Gives, IsReceiver, length, length-append, List, me, None, of_outcome, Option, Order, Outcome, refl, Seated, slice_get, slice_get_within, Some, step, subst, sym, with_away, with_given}
use Rattle.link_board.proofs.Names.{with_taken, ℕ, [], ◌++◌, ◌+◌, ◌<◌, ◌∙◌, ◌∷◌, ◌≡◌}
use denote.RawPtr.{Ptr}
use Rattle.link_board.proofs.Filled.{filled}

module _ {J T : Type 0} (old : Seated J T) (is : IsReceiver old) where
  pub IsReceiver-took : (now : Seated J T) (seen : List (Order J)) (order : Order J) → old.view.inward.taken < length old.view.inward.given + old.view.inward.capacity
      → slice_get seen old.view.inward.taken ≡ Some order → now ≡ me (with_away (with_taken old.view seen (old.view.inward.taken + 1)) None) None old.spare → IsReceiver now
  IsReceiver-took now seen order room here now_is = let within : old.view.inward.taken < length seen = slice_get_within seen old.view.inward.taken order here in
      subst (λ (m : Seated J T). IsReceiver m) (sym now_is) (record {
        takes = is.takes;
        alone = is.alone;
        rests = record { hand = refl; spare = is.rests.spare; away = refl };
        small = is.small;
        behind = omega (arith, is.behind);
        saw = omega arith;
        few = omega arith;
      })

  module _ (lent now : Seated J T) (at : Ptr) (place number word : ℕ) (outcome : Outcome J T) (owed : length old.view.inward.given < old.view.inward.taken)
      (lent_is : lent ≡ filled old.view old.spare at place (of_outcome outcome)) (word_is : word ≡ number + gate_bit old.view.inward.shut) (gave : Gives (step 1 at place word 0) lent word now) where
    gave_is : now ≡ me (with_away (with_given old.view number outcome) None) None old.spare
    gave_is = gave number outcome (word_is ∙ ap (λ (m : Seated J T). number + gate_bit m.view.inward.shut) (sym lent_is)) (ap (λ (m : Seated J T). m.hand) lent_is)
        ∙ ap (λ (m : Seated J T). me (with_away (with_given m.view number outcome) None) None m.spare) lent_is

    pub view-gave : now.view ≡ with_given old.view number outcome
    view-gave = ap (λ (m : Seated J T). m.view) gave_is ∙ ap (λ (z : Option ℕ). with_given (with_away old.view z) number outcome) (sym is.rests.away)

    pub IsReceiver-gave : IsReceiver now
    IsReceiver-gave = let longer : length (old.view.inward.given ++ (number, outcome) ∷ []) ≡ length old.view.inward.given + 1 = length-append old.view.inward.given ((number, outcome) ∷ []) in
        subst (λ (m : Seated J T). IsReceiver m) (sym gave_is) (record {
          takes = is.takes;
          alone = is.alone;
          rests = record { hand = refl; spare = is.rests.spare; away = refl };
          small = is.small;
          behind = omega arith;
          saw = is.saw;
          few = omega (arith, is.few);
        })
