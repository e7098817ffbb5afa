-- A step of the receiver of a plain link leaves the lane what it should be beside the sender's end.
use Rattle.std.proofs.Common.{◌≡◌, inl, inr, ℕ, ◌<◌, List, length, get_or, set, sym, ap, subst, ◌∙◌}
use Rattle.std.specs.Prelude.{slice_get}
use Rattle.std.proofs.lemmas.List.{length-set}
use Rattle.std.proofs.lemmas.Bool.Decides.{eqb_tells}
use Rattle.base_words.specs.declared.order.Order.{Order}
use Rattle.base_words.specs.declared.order.Outcome.{Outcome}
use Rattle.link_ends.specs.declared.plain.Whole.{Whole}
use Rattle.base_words.specs.Assembly.{IsPrefix}
use Rattle.link_ends.specs.Whole.{out_of, IsLink}
use Rattle.actor_desk.specs.Lanes.{Lane, IsLaneOf}
use Rattle.actor_desk.specs.Desks.{Desk, AreEndsOf}
use Rattle.actor_desk.proofs.Lanes.{IsLaneOf-more}
use Rattle.actor_desk.proofs.Cores.{found, changed, unchanged}

module _ {J T : Type 0} (fits : Order J → Outcome J T → Type 0) (ready : Order J → Type 0) where
  -- the receiver took orders, gave outcomes, or shut the gate
  pub IsLaneOf-received : (lane : Lane J T) (old new : Whole J T) → IsLaneOf fits lane (out_of old) old.credited → IsLink fits ready new
      → new ≡ record old { taken = new.taken; given = new.given; shut = new.shut } → IsPrefix old.given new.given → IsLaneOf fits lane (out_of new) new.credited
  IsLaneOf-received lane old new l law is more =
      subst (λ (link : Whole J T). IsLaneOf fits lane (out_of link) link.credited) (sym is)
      (IsLaneOf-more fits lane (out_of old) old.credited new.given new.shut more l)

  -- the same of a desk over plain links
  pub AreEndsOf-received : (desk : Desk J T) (ends : List (Whole J T)) (core : ℕ) (old new : Whole J T) → AreEndsOf fits out_of (λ link. link.credited) desk ends
      → core < length ends → old ≡ get_or ends core old → IsLink fits ready new
      → new ≡ record old { taken = new.taken; given = new.given; shut = new.shut } → IsPrefix old.given new.given → AreEndsOf fits out_of (λ link. link.credited) desk (set ends core new)
  AreEndsOf-received desk ends core old new are low old_is law is more = record {
    count = length-set ends core new ∙ are.count;
    each = λ i. λ lane. λ end. λ lane_there. λ end_there. elim (eqb_tells i core) [
      | inl same ↦
          subst (λ (link : Whole J T). IsLaneOf fits lane (out_of link) link.credited) (sym (changed ends core i new end end_there same.1))
          (IsLaneOf-received lane old new (are.each i lane old lane_there (ap (slice_get ends) same.1 ∙ found ends core old low old_is)) law is more)
      | inr away ↦ are.each i lane end lane_there (unchanged ends core i new end end_there away.1)
    ];
  }
