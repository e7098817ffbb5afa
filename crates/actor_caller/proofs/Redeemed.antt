-- A runtime after a ticket was redeemed or detached.
use Rattle.std.proofs.Common.{◌≡◌, ◌-◌, ◌<◌, Some, length, ap, subst, arith}
use Rattle.std.specs.Prelude.{IfOk, IfSome, OnErr, Result, Ok, Err, slice_get}
use Rattle.std.proofs.lemmas.Result.{on_err_weaker}
use Rattle.base_words.specs.declared.names.JobId.{JobId}
use Rattle.base_words.specs.declared.names.TicketError.{TicketError}
use Rattle.base_words.specs.declared.order.Order.{Order}
use Rattle.base_words.specs.declared.order.Outcome.{Outcome}
use Rattle.link_ring.proofs.Fronts.{slice_get-there}
use Rattle.actor_desk.specs.Lanes.{FitsSent, IsGot}
use Rattle.actor_desk.proofs.Taken.{taken-get}
use Rattle.actor_desk.specs.Tickets.{DetachesTicket, RedeemsTicket}
use Rattle.link_ring.specs.Ends.{out_at}
use Rattle.actor_seat.specs.OutsideSeats.{UsesOutside}
use Rattle.actor_seat.specs.OutsideSeats.{OutsideView}
use Rattle.actor_caller.specs.State.{RuntimeView, SubmitsNothing, outside_of, submitted}
use Rattle.actor_caller.specs.Stored.{IsRuntime}
use Rattle.actor_caller.specs.Tickets.{DetachesHere, FitsSubmitted, RedeemsHere}
use Rattle.actor_caller.proofs.Sent.{nothing_on}

module _ {J T : Type 0} {fits : Order J → Outcome J T → Type 0} where
  -- an outcome that was got under a name fits the order that was submitted under it
  fits_submitted : (view : RuntimeView J T) → IsRuntime fits view → (name : JobId) → name.to < view.desk.cores → (answer : Result (Outcome J T) TicketError) →
      IfOk answer (IsGot (out_at name.to view.ends).out name.number) → IfOk answer (FitsSent fits (out_at name.to view.ends).out name.number) → IfOk answer (FitsSubmitted fits name view)
  fits_submitted view is name low (Err error) got fit = tt
  fits_submitted view is name low (Ok outcome) got fit =
      let lane = (is.lanes name.to low).lane_of in
      let beside = is.outside.outs name.to low in
      let named = lane.named.0 got.place (name.number, outcome) (taken-get _ _ got.place (name.number, outcome) got.got got.is) in
      let there : name.number - 1 < length (submitted name.to view) = omega (arith, named.0, named.2, beside.base) in
      let order = slice_get-there (submitted name.to view) (name.number - 1) there in
      let place : name.number - (out_at name.to view.ends).out.base - 1 ≡ name.number - 1 = omega (arith, beside.base) in
      let at : slice_get (submitted name.to view) (name.number - (out_at name.to view.ends).out.base - 1) ≡ Some order.0 = rw place order.1 in
      record { order = order.0; is = order.1; fit = subst (λ found. IfSome found (λ order. fits order outcome)) at fit }

  -- a call for a ticket
  module _ (inside view : RuntimeView J T) (seen : inside ≡ view) (is : IsRuntime fits inside) (name : JobId) (low : name.to < inside.desk.cores) (outside : OutsideView J T)
      (uses : UsesOutside fits name.to (outside_of inside) outside) (out : (out_at name.to outside.ends).out ≡ (out_at name.to inside.ends).out) where
    abbrev new : RuntimeView J T
    new = record inside { desk = outside.desk; ends = outside.ends }

    nothing : SubmitsNothing inside new
    nothing = nothing_on inside name.to outside uses (ap (λ out. out.sent) out) (ap (λ out. out.closed) out)

    -- where the outside actor is as it was, all is
    same_here : {A : Type 0} (answer : Result A TicketError) → OnErr answer (outside ≡ outside_of inside) → OnErr answer (new ≡ inside)
    same_here answer = on_err_weaker answer (ap (λ (outside : OutsideView J T). record inside { desk = outside.desk; ends = outside.ends }))

    pub redeemed_here : (answer : Result (Outcome J T) TicketError) → RedeemsTicket name inside.desk answer outside.desk → IfOk answer (IsGot (out_at name.to inside.ends).out name.number) →
        IfOk answer (FitsSent fits (out_at name.to inside.ends).out name.number) → OnErr answer (outside ≡ outside_of inside) → RedeemsHere fits name view answer new
    redeemed_here answer redeems got fit refused =
        subst (λ view. RedeemsHere fits name view answer new) seen
        (record { redeems = redeems; given = got; fitting = fits_submitted inside is name low answer got fit; refused = same_here answer refused; nothing = nothing })

    pub detached_here : (answer : Result (Unit {0}) TicketError) → DetachesTicket name inside.desk answer outside.desk → OnErr answer (outside ≡ outside_of inside) → DetachesHere name view answer new
    detached_here answer detaches refused = subst (λ view. DetachesHere name view answer new) seen (record { detaches = detaches; refused = same_here answer refused; nothing = nothing })
