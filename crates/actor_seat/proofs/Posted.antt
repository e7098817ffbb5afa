-- A core and its ends after a poll that submitted, redeemed and detached on them.
use Rattle.actor_seat.proofs.Names.{ap, AreBeside, AreOutsOf, arith, desk_of, EndsView, HasPosted, IsSameSeat, KeepsIn, length, List, map, Order, Outcome, post_of, RecordedView, refl, SameEnds, SeesNoLess, Sending, slice_get, subst, suc}
use Rattle.actor_seat.proofs.Names.{sym, ℕ, [], ◌+◌, ◌∙◌, ◌∷◌, ◌≡◌}
use Rattle.std.proofs.Common.{Some}
use Rattle.actor_seat.proofs.Seen.{posted_sees}

module _ {J T : Type 0} where
  -- ends of the same links, place by place
  links_same : (old new : List (Sending J T)) → length new ≡ length old →
      ((place : ℕ) (was now : Sending J T) → slice_get old place ≡ Some was → slice_get new place ≡ Some now → now.link ≡ was.link) →
      map (λ (end : Sending J T). end.link) new ≡ map (λ (end : Sending J T). end.link) old
  links_same [] [] count each = refl
  links_same [] (now ∷ new) count each = cc
  links_same (was ∷ old) [] count each = cc
  links_same (was ∷ old) (now ∷ new) count each =
      ap (λ link. link ∷ map (λ (end : Sending J T). end.link) new) (each 0 was now refl refl)
      ∙ ap (λ links. was.link ∷ links) (links_same old new (omega (arith, count)) (λ place its one. each (suc place) its one))

  module _ (old new : RecordedView J T) (ends : EndsView J T) (later : List (Sending J T)) (posted : HasPosted (λ (end : Sending J T). end.out) (λ (end : Sending J T). end.link) (post_of old ends.outs) (post_of new later)) where
    pub posted_ends : SameEnds ends (record ends { outs = later })
    posted_ends = record {
      number = refl;
      outs = links_same ends.outs later posted.count (λ place was now was_there there. (posted.ends place was now was_there there).0);
      ins = refl;
    }

    pub posted_see : SeesNoLess ends (record ends { outs = later })
    posted_see = posted_sees ends later posted.count (λ place was now was_there there. (posted.ends place was now was_there there).1)

  -- the ends are as they were, except those on which the core sends
  pub resent_beside : {fits : Order J → Outcome J T → Type 0} (old new : RecordedView J T) (ends inside : EndsView J T) → inside ≡ ends → (later : List (Sending J T)) → AreBeside fits old ends →
      ((sender : ℕ) → KeepsIn sender old new) → IsSameSeat old new → AreOutsOf fits (λ (end : Sending J T). end.out) (λ (end : Sending J T). end.credited) (desk_of new) later →
      AreBeside fits new (record inside { outs = later })
  resent_beside {fits} old new ends inside seen later beside ins seat outs =
      subst (λ (ends : EndsView J T). AreBeside fits new (record ends { outs = later })) (sym seen)
      (record {
        number = beside.number ∙ sym seat.number;
        ins_are = beside.ins_are ∙ ap (λ cores. cores + 1) (sym seat.cores);
        outs = outs;
        ins = λ sender known. (ins sender).each _ (beside.ins sender (omega (arith, known, seat.cores)));
      })
