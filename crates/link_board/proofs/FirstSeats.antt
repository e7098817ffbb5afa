-- The two seats of a board that was just made.
use Rattle.link_board.proofs.Names.{ap, arith, first_view, fresh_link, inward_of, inward_part, IsReceiver, IsSender, me, None, out_of, out_part, refl, Seated, subst, sym, Terms, ◌<◌, ◌^◌, ◌∙◌, ◌≡◌}

module _ {J T : Type 0} (terms : Terms J T) (first now : Seated J T) (first_is : first ≡ me (first_view terms) None None) where
  module _ (is : now ≡ me (out_part first.view) first.hand first.spare) where
    sender_is : now ≡ me (out_part (first_view terms)) None None
    sender_is = is ∙ ap (λ (m : Seated J T). me (out_part m.view) m.hand m.spare) first_is

    pub first_sender : terms.capacity < 2 ^ 16 → IsSender now
    first_sender small = subst (λ (m : Seated J T). IsSender m) (sym sender_is) (record {
      sends = refl;
      alone = refl;
      rests = record { hand = refl; spare = refl; away = refl };
      small = small;
      got_all = refl;
      behind = omega arith;
      few = omega arith;
    })

    pub first_out : now.view.out ≡ out_of (fresh_link terms)
    first_out = ap (λ (m : Seated J T). m.view.out) sender_is

  module _ (is : now ≡ me (inward_part first.view) None None) where
    receiver_is : now ≡ me (inward_part (first_view terms)) None None
    receiver_is = is ∙ ap (λ (m : Seated J T). me (inward_part m.view) None None) first_is

    pub first_receiver : terms.capacity < 2 ^ 16 → IsReceiver now
    first_receiver small = subst (λ (m : Seated J T). IsReceiver m) (sym receiver_is) (record {
      takes = refl;
      alone = refl;
      rests = record { hand = refl; spare = refl; away = refl };
      small = small;
      behind = omega arith;
      saw = omega arith;
      few = omega arith;
    })

    pub first_inward : now.view.inward ≡ inward_of (fresh_link terms)
    first_inward = ap (λ (m : Seated J T). m.view.inward) receiver_is
