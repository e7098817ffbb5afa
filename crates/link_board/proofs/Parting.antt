-- The seat that knows both ends is parted again, into the two seats that were joined.
use Rattle.link_board.proofs.Names.{ap, both_parts, inward_part, IsReceiver, IsSender, me, None, out_part, refl, Seated, subst, sym, true, ◌∙◌, ◌≡◌}

module _ {J T : Type 0} (sender receiver joined : Seated J T) (joined_is : joined ≡ me (both_parts sender.view receiver.view) sender.hand sender.spare) where
  pub sends-joined : sender.view.sends ≡ true → joined.view.sends ≡ true
  sends-joined go = ap (λ (m : Seated J T). m.view.sends) joined_is ∙ go

  pub takes-joined : receiver.view.takes ≡ true → joined.view.takes ≡ true
  takes-joined on = ap (λ (m : Seated J T). m.view.takes) joined_is ∙ on

  module _ (last : Seated J T) (same : last ≡ joined) where
    pub sends-last : sender.view.sends ≡ true → last.view.sends ≡ true
    sends-last go = ap (λ (m : Seated J T). m.view.sends) same ∙ sends-joined go

    pub takes-last : receiver.view.takes ≡ true → last.view.takes ≡ true
    takes-last on = ap (λ (m : Seated J T). m.view.takes) same ∙ takes-joined on

    module _ (new : Seated J T) where
      module _ (is : new ≡ me (out_part last.view) last.hand last.spare) where
        sender_is : new ≡ me (out_part (both_parts sender.view receiver.view)) sender.hand sender.spare
        sender_is = is ∙ ap (λ (m : Seated J T). me (out_part m.view) m.hand m.spare) (same ∙ joined_is)

        pub IsSender-parted : IsSender sender → IsSender new
        IsSender-parted was = subst (λ (m : Seated J T). IsSender m) (sym sender_is) (record {
          sends = was.sends;
          alone = refl;
          rests = record { hand = was.rests.hand; spare = was.rests.spare; away = was.rests.away };
          small = was.small;
          got_all = was.got_all;
          behind = was.behind;
          few = was.few;
        })

        pub out-parted : new.view.out ≡ sender.view.out
        out-parted = ap (λ (m : Seated J T). m.view.out) sender_is

      module _ (is : new ≡ me (inward_part last.view) None None) where
        receiver_is : new ≡ me (inward_part (both_parts sender.view receiver.view)) None None
        receiver_is = is ∙ ap (λ (m : Seated J T). me (inward_part m.view) None None) (same ∙ joined_is)

        pub IsReceiver-parted : IsSender sender → IsReceiver receiver → IsReceiver new
        IsReceiver-parted one two = subst (λ (m : Seated J T). IsReceiver m) (sym receiver_is) (record {
          takes = two.takes;
          alone = refl;
          rests = record { hand = refl; spare = refl; away = one.rests.away };
          small = two.small;
          behind = two.behind;
          saw = two.saw;
          few = two.few;
        })

        pub inward-parted : new.view.inward ≡ receiver.view.inward
        inward-parted = ap (λ (m : Seated J T). m.view.inward) receiver_is
