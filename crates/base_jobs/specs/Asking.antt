-- What a job asks of its post, call after call.
use Rattle.std.specs.Prelude.{◌≡◌, ℕ, List, [], ◌∷◌, Result, Ok, Err}
use Rattle.base_words.specs.declared.names.JobId.{JobId}
use Rattle.base_words.specs.declared.names.TicketError.{TicketError}
use Rattle.base_words.specs.declared.names.TicketError.TheVariants as refused
use Rattle.base_words.specs.declared.order.Order.{Order}
use Rattle.base_words.specs.declared.order.Outcome.{Outcome}
use Rattle.base_words.specs.declared.order.SendError.{SendError}
use Rattle.base_jobs.specs.Calls.{Call, Doing, Makes}
use Rattle.base_jobs.specs.Calls.Call.{Submit, Redeem, Detach}
use Rattle.base_jobs.specs.declared.asking.Redeemed.{Redeemed}
use Rattle.base_jobs.specs.declared.asking.Redeemed.TheVariants.{There, NotYet, Gone}

-- some calls were made, one after another, and no other
pub record MakesSome {P J T : Type 0} (does : Doing P J T) (old new : P) : Type 0 where
  pub calls : List (Call J T)
  pub makes : Makes does calls old new

-- an order is submitted, and detached if it is accepted
abbrev pub detached_calls : {J T : Type 0} → ℕ → Order J → Result JobId (SendError J) → List (Call J T)
detached_calls to order (Ok name) = Submit to order (Ok name) ∷ Detach name (Ok tt) ∷ []
detached_calls to order (Err error) = Submit to order (Err error) ∷ []

-- an outcome is there; it isn't there yet; or there is none to come
abbrev pub redeemed_as : {J T : Type 0} → Result (Outcome J T) TicketError → Redeemed J T
redeemed_as (Ok outcome) = There outcome
redeemed_as (Err refused.Pending) = NotYet
redeemed_as (Err refused.Gone) = Gone
redeemed_as (Err refused.Unknown) = Gone

-- one redeeming, whose answer is told so
pub record RedeemsAs {P J T : Type 0} (does : Doing P J T) (name : JobId) (told : Redeemed J T) (old new : P) : Type 0 where
  pub answer : Result (Outcome J T) TicketError
  pub is : told ≡ redeemed_as answer
  pub makes : Makes does (Redeem name answer ∷ []) old new
