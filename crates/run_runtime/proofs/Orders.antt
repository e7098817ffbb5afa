-- The orders of a house whose workers have ended, each under its name.
use Rattle.std.proofs.Common.{◌≡◌, ℕ, zero, suc, ◌+◌, ◌-◌, ◌<◌, ◌≤◌, List, refl, sym, ◌∙◌, ap, subst, arith}
use Rattle.std.specs.Prelude.{Option, Some, None, IfSome, slice_get}
use Rattle.std.specs.Option.{option_map}
use Rattle.base_words.specs.declared.names.JobId.{JobId}
use Rattle.base_words.specs.declared.order.Order.{Order}
use Rattle.base_words.specs.Assembly.{Assembly, first_under, journal_of}
use Rattle.base_words.specs.Filters.{accepted_orders}
use Rattle.base_words.specs.Orders.{without_job}
use Rattle.base_jobs.specs.Meanings.{Meaning}
use Rattle.actor_desk.specs.Ends.{name_of}
use Rattle.actor_desk.specs.Orders.{numbered_orders}
use Rattle.actor_desk.proofs.Names.{slice_get-behind}
use Rattle.actor_desk.proofs.NumberedOrders.{first_under-numbered, numbered-missing}
use Rattle.actor_core.specs.Together.{IsAssemblyOf}
use Rattle.link_ring.specs.declared.ring_out.Sending.{Sending}
use Rattle.link_ring.specs.Ends.{out_at}
use Rattle.link_ring.specs.Grid.{ends_at, no_ends}
use Rattle.actor_seat.specs.Linked.{LinkedView}
use Rattle.run_worker.specs.Together.{HaveEnded, all_ends, desk_among}
use Rattle.actor_seat.specs.Together.{no_linked}
use Rattle.run_worker.proofs.Ending.{at_last, ended_together}
use Rattle.run_runtime.specs.Outcomes.{AreItsOrders, Orders}
use Rattle.actor_caller.specs.State.{RuntimeView, outside_of}

module _ {J : Type 0} where
  -- the order of a number on a link, where numbers count from 1
  abbrev pub at_number : List (Order J) → ℕ → Option (Order J)
  at_number sent zero = None
  at_number sent (suc place) = slice_get sent place

  -- the order at a place has the next number
  pub at_place : (sent : List (Order J)) (number place : ℕ) (order : Order J) → number ≡ place + 1 → slice_get sent place ≡ Some order → at_number sent number ≡ Some order
  at_place sent number place order is at = let next : number ≡ suc place = omega (arith, is) in ap (at_number sent) next ∙ at

  -- the order before a number
  pub at_number_is : (sent : List (Order J)) (number : ℕ) (order : Order J) → 0 < number → slice_get sent (number - 1) ≡ Some order → at_number sent number ≡ Some order
  at_number_is sent zero order low at = absurd (omega (arith, low))
  at_number_is sent (suc place) order low at = let same : suc place - 1 ≡ place = omega arith in subst (λ place. slice_get sent place ≡ Some order) same at

  -- what stands under a number stands before it in the list
  before_number : (sent : List (Order J)) (number : ℕ) → IfSome (at_number sent number) (λ order. slice_get sent (number - 1) ≡ Some order)
  before_number sent zero = tt
  before_number sent (suc place) = by_found (slice_get sent place) (let same : suc place - 1 ≡ place = omega arith in ap (slice_get sent) same)
    where
      by_found : (found : Option (Order J)) → slice_get sent (suc place - 1) ≡ found → IfSome found (λ order. slice_get sent (suc place - 1) ≡ Some order)
      by_found None at = tt
      by_found (Some order) at = at

  -- where numbers count from 1, the two are one
  from_one : (sent : List (Order J)) (number : ℕ) → 0 < number → at_number sent number ≡ slice_get sent (number - 1)
  from_one sent zero low = absurd (omega (arith, low))
  from_one sent (suc place) low = let same : suc place - 1 ≡ place = omega arith in ap (slice_get sent) (sym same)

  -- the numbered orders of a link tell the order of a number without its job
  told_number : (sender core : ℕ) (sent : List (Order J)) (number : ℕ) → first_under (name_of sender core number) (numbered_orders sender core 0 sent) ≡ option_map without_job (at_number sent number)
  told_number sender core sent zero = numbered-missing sender core 0 sent 0 (λ low high. omega (arith, low))
  told_number sender core sent (suc place) = by_found (slice_get sent place) refl
    where
      by_found : (found : Option (Order J)) → slice_get sent place ≡ found → first_under (name_of sender core (suc place)) (numbered_orders sender core 0 sent) ≡ option_map without_job found
      by_found None at =
          let behind = slice_get-behind sent place at in
          numbered-missing sender core 0 sent (suc place) (λ low high. omega (arith, high, behind))
      by_found (Some order) at =
          let number : suc place ≡ 0 + place + 1 = omega arith in
          ap (λ number. first_under (name_of sender core number) (numbered_orders sender core 0 sent)) number
          ∙ first_under-numbered sender core 0 sent place order at

module _ {J : Type 0} {meaning : Meaning J ℕ} (view : RuntimeView J ℕ) (ended : List (LinkedView J ℕ))
    (have : HaveEnded meaning view.desk.cores view.desk.cap view.desk.burst ended (outside_of view)) (assembly : Assembly ℕ)
    (is : IsAssemblyOf view.desk.cores view.desk.cap view.desk.burst (desk_among ended (outside_of view)) assembly) where
  -- the end on which the order of a name was sent
  abbrev pub out_under : JobId → Sending J ℕ
  out_under name = out_at name.to (ends_at name.from (all_ends ended (outside_of view)))

  -- the orders of the house
  abbrev pub its_orders : Orders J
  its_orders name = at_number (out_under name).out.sent name.number

  pub sent_are : (name : JobId) → name.from ≤ view.desk.cores → name.to < view.desk.cores →
      accepted_orders name.to (journal_of name.from assembly) ≡ numbered_orders name.from name.to 0 (out_under name).out.sent
  sent_are name from to =
      let are = ended_together have in
      ap (accepted_orders name.to) (is.each name.from from)
      ∙ ((are.outs name.from name.to from to).accepted ∙ ap (λ actor. numbered_orders actor name.to 0 (out_under name).out.sent) (ap (λ terms. terms.actor) (are.actors name.from from)))

  -- the outside actor's ends are the caller's
  pub outside_ends : (name : JobId) → name.from ≡ view.desk.cores → ends_at name.from (all_ends ended (outside_of view)) ≡ view.ends
  outside_ends name is_outside =
      ap (λ actor. ends_at actor (all_ends ended (outside_of view))) is_outside
      ∙ at_last (λ (worker : LinkedView J ℕ). worker.ends) ended view.ends no_ends no_linked view.desk.cores have.count

  pub are_its_orders : AreItsOrders view assembly its_orders
  are_its_orders = record {
    sent = λ name from to. ap (first_under name) (sent_are name from to) ∙ told_number name.from name.to (out_under name).out.sent name.number;
    by_caller = λ name from to.
        subst (λ ends. IfSome (its_orders name) (λ order. slice_get (out_at name.to ends).out.sent (name.number - 1) ≡ Some order)) (outside_ends name from)
        (before_number (out_under name).out.sent name.number);
    all_of_caller = λ name from to counted.
        from_one (out_under name).out.sent name.number counted
        ∙ ap (λ ends. slice_get (out_at name.to ends).out.sent (name.number - 1)) (outside_ends name from);
  }
