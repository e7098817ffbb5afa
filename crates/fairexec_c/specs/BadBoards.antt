-- Seats of a link's board that no step leaves, each refused by the definition that judges it.
use Rattle.std.specs.Prelude.{◌≡◌, ℕ, true, false, []}
use Rattle.std.proofs.Common.{sym, ◌∙◌, arith}
use Rattle.base_words.specs.declared.order.Order.{Order}
use Rattle.base_words.specs.declared.order.Outcome.{Outcome}
use Rattle.link_ends.specs.declared.ends.Inward.{Inward}
use Rattle.link_ends.specs.declared.ends.Outward.{Outward}
use Rattle.link_board.specs.Seats.{IsReceiver, IsSender}
use Rattle.link_board.specs.Told.{Seated, SeesOrders, SeesOutcomes}

-- a seat that sends receives, and one that receives sends
module _ (seat : Seated ℕ ℕ) where
  pub sender_receives : seat.view.takes ≡ false → IsReceiver seat → ⊥
  sender_receives sends is = let both : true ≡ false = sym is.takes ∙ sends in cc

  pub receiver_sends : seat.view.sends ≡ false → IsSender seat → ⊥
  receiver_sends takes is = let both : true ≡ false = sym is.sends ∙ takes in cc

-- an order that was taken, and an outcome that was got, is seen no more
pub taken_unseen : (ready : Order ℕ → Type 0) (inward : Inward ℕ ℕ) → inward.taken ≡ 1 → SeesOrders ready inward [] → ⊥
taken_unseen ready inward taken sees = absurd (omega (arith, taken, sees.taken_seen))

pub got_unseen : (fits : Order ℕ → Outcome ℕ ℕ → Type 0) (out : Outward ℕ ℕ) → out.got ≡ 1 → SeesOutcomes fits out [] → ⊥
got_unseen fits out got sees = absurd (omega (arith, got, sees.got_seen))
