-- The calls of a post, each with what it answered.
use Rattle.std.specs.Prelude.{◌≡◌, ℕ, Result, Err, List, [], ◌∷◌}
use Rattle.base_words.specs.declared.names.JobId.{JobId}
use Rattle.base_words.specs.declared.names.TicketError.{TicketError}
use Rattle.base_words.specs.declared.names.TicketError.TheVariants.{Unknown}
use Rattle.base_words.specs.declared.order.Order.{Order}
use Rattle.base_words.specs.declared.order.Outcome.{Outcome}
use Rattle.base_words.specs.declared.order.SendError.{SendError}
use Rattle.base_words.specs.declared.order.SendError.TheVariants.{NoCore}

-- one call: an order was submitted to a core, an outcome was redeemed, or a submission was detached
pub data Call (J T : Type 0) : Type 0 where
  Submit : ℕ → Order J → Result JobId (SendError J) → Call J T
  Redeem : JobId → Result (Outcome J T) TicketError → Call J T
  Detach : JobId → Result (Unit {0}) TicketError → Call J T

-- what a call of a post does: the post before, the call, the post after
abbrev pub Doing : Type 0 → Type 0 → Type 0 → Type 1
Doing P J T = P → Call J T → P → Type 0

-- these calls of a post, one after another, and no other
abbrev pub Makes : {P J T : Type 0} → Doing P J T → List (Call J T) → P → P → Type 0
Makes does [] old new = new ≡ old
Makes {P} does (call ∷ calls) old new = (middle : P) × does old call middle × Makes does calls middle new

-- there is no core for it, and nothing is known of its ticket
abbrev pub IsRefused : {J T : Type 0} → Call J T → Type 0
IsRefused (Submit to order answer) = answer ≡ Err (NoCore order)
IsRefused (Redeem name answer) = answer ≡ Err Unknown
IsRefused (Detach name answer) = answer ≡ Err Unknown
