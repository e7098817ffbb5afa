-- An actor's ends keep the laws of what a core is lent for a turn.
use Rattle.std.proofs.Common.{◌≡◌, List, [], refl, sym, ◌∙◌, subst, arith, get_or-set_same, get_or-set_other, length-set}
use Rattle.std.proofs.lemmas.List.{append-nil}
use Rattle.std.proofs.lemmas.Option.{same_Some}
use Rattle.base_words.specs.Assembly.{IsPrefix}
use Rattle.link_ends.specs.Around.{IsAround, SeeGiven, SeesOrders}
use Rattle.link_ring.specs.declared.ring_in.Receiving.{Receiving}
use Rattle.link_ring.specs.declared.ring_out.Sending.{Sending}
use Rattle.link_ring.specs.Ends.{no_in}
use Rattle.link_ring.specs.Reached.{ends_reach}

module _ {J T : Type 0} where
  sees_same : (end : Receiving J T) → SeesOrders (ends_reach {J = J} {T = T}) end end
  sees_same end = record { rest = refl; more = (([], sym (append-nil end.inward.seen)), λ shut. refl) }

  see_same : (outs : List (Sending J T)) → SeeGiven (ends_reach {J = J} {T = T}) outs outs
  see_same outs = record {
    count = refl;
    each = λ core was end at now.
        let same : end ≡ was = same_Some _ _ (sym now ∙ at) in
        subst (λ (end : Sending J T). (end.out ≡ record was.out { seen = end.out.seen }) × IsPrefix was.out.seen end.out.seen × (end.credited ≡ was.credited)) (sym same)
        (refl, ([], sym (append-nil was.out.seen)), refl);
  }

  pub ends_laws : IsAround (ends_reach {J = J} {T = T})
  ends_laws = record {
    outs_put = λ own row ends there. refl;
    outs_there = λ own row ends there. tt;
    ins_there = λ own sender row ends there count is. is;
    ins_see = λ own sender row ends there is sent. sees_same (ends_reach.in_at own sender ends);
    in_put = λ own sender end ends is. get_or-set_same ends.ins sender end no_in is;
    in_others = λ own sender other end ends is away. get_or-set_other ends.ins sender other end no_in away;
    in_there = λ own sender other end ends is was. omega (arith, was, length-set ends.ins sender end);
    outs_stay = λ own sender end ends is there. tt;
    outs_see = λ own sender number outcome end ends is there gave. see_same ends.outs;
  }
