-- What the calls on a seat of a house do.
use Rattle.std.specs.Prelude.{◌≡◌, ℕ, Option, None, Result}
use Rattle.base_words.specs.declared.order.Order.{Order}
use Rattle.host_calls.specs.declared.code.Code.{Code}
use Rattle.host_calls.specs.declared.member.Member.{Member}
use Rattle.host_calls.specs.declared.names.Name.{Name}
use Rattle.host_calls.specs.Submissions.{SendsTold}
use Rattle.fairexec_c.specs.Handles.{OnCore}

-- an actor submits an order, if it could be made; with an empty handle what the call writes to stays
abbrev pub Submits : Option Member → ℕ → Result (Order ℕ) Code → Name → ℕ → Name → Option Member → Type 0
Submits old to order before number after new = OnCore old new number (λ has told gets. SendsTold has to order before told after gets) × (old ≡ None → after ≡ before)
