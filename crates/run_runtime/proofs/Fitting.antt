-- What the journals of workers that have ended tell of a submission fits its order.
use Rattle.std.proofs.Common.{◌≡◌, ℕ, suc, ◌-◌, ◌<◌, ◌≤◌, Bool, true, false, cond, List, [], ◌∷◌, take, refl, sym, ◌∙◌, ap, subst, arith}
use Rattle.std.specs.Prelude.{Option, Some, None, IfSome, slice_get}
use Rattle.base_words.specs.declared.names.JobId.{JobId}
use Rattle.base_words.specs.declared.note.OutcomeNote.{OutcomeNote}
use Rattle.base_words.specs.declared.order.Order.{Order}
use Rattle.base_words.specs.declared.order.Outcome.{Outcome}
use Rattle.base_words.specs.Assembly.{Assembly, first_under, journal_of, outcome_of}
use Rattle.base_words.specs.Filters.{given_outcomes}
use Rattle.base_words.specs.Names.{same_name}
use Rattle.base_words.specs.Outcomes.{outcome_note}
use Rattle.base_words.proofs.NameLemmas.{one_name}
use Rattle.base_jobs.specs.Meanings.{Meaning}
use Rattle.link_ends.specs.Ends.{AreOf}
use Rattle.link_ring.proofs.Fronts.{slice_get-there}
use Rattle.actor_desk.specs.Ends.{name_of, named_outcomes}
use Rattle.actor_core.specs.Together.{IsAssemblyOf}
use Rattle.base_words.proofs.Prefixes.{IsPrefix-take}
use Rattle.link_ends.proofs.Lists.{slice_get-seen}
use Rattle.link_ring.specs.declared.ring_out.Sending.{Sending}
use Rattle.link_ring.specs.declared.ring_in.Receiving.{Receiving}
use Rattle.link_ring.specs.Ends.{in_at}
use Rattle.link_ring.specs.Grid.{ends_at}
use Rattle.actor_seat.specs.Linked.{LinkedView}
use Rattle.run_worker.specs.Together.{HaveEnded, all_ends, desk_among}
use Rattle.run_worker.proofs.Ending.{ended_together}
use Rattle.run_runtime.specs.Outcomes.{AllFitTheirOrders, FitsItsOrder, Orders}
use Rattle.run_runtime.proofs.Orders.{at_number, at_number_is, its_orders, out_under}
use Rattle.actor_caller.specs.State.{RuntimeView, outside_of}
use Rattle.link_ends.specs.Fits.{Fits}

-- the outcome that stands first under a name, among outcomes of one link
record IsFirst {J T : Type 0} (sender core : ℕ) (name : JobId) (given : List (ℕ × Outcome J T)) (told : OutcomeNote T) : Type 0 where
  place : ℕ
  outcome : ℕ × Outcome J T
  at : slice_get given place ≡ Some outcome
  named : name ≡ name_of sender core outcome.0
  as_told : outcome_note outcome.1 ≡ told

first_named : {J T : Type 0} (sender core : ℕ) (name : JobId) (given : List (ℕ × Outcome J T)) (told : OutcomeNote T) → first_under name (named_outcomes sender core given) ≡ Some told → IsFirst sender core name given told
first_named sender core name [] told found = cc
first_named {J} {T} sender core name (first ∷ given) told found = by_test (same_name name (name_of sender core first.0)) refl found (first_named sender core name given told)
  where
    by_test : (test : Bool) → same_name name (name_of sender core first.0) ≡ test → cond test (Some (outcome_note first.1)) (first_under name (named_outcomes sender core given)) ≡ Some told →
        (first_under name (named_outcomes sender core given) ≡ Some told → IsFirst sender core name given told) → IsFirst sender core name (first ∷ given) told
    by_test true same found later = record { place = 0; outcome = first; at = refl; named = one_name name (name_of sender core first.0) same; as_told = cc }
    by_test false apart found later =
        let rest = later found in record { place = suc rest.place; outcome = rest.outcome; at = rest.at; named = rest.named; as_told = rest.as_told }

-- the order of an outcome: it stands at the place of its number, and the outcome fits it
record HasOrder {J T : Type 0} (fits : Order J → Outcome J T → Type 0) (sent : List (Order J)) (outcome : ℕ × Outcome J T) : Type 0 where
  order : Order J
  at : slice_get sent (outcome.0 - 1) ≡ Some order
  fit : fits order outcome.1
  above : 0 < outcome.0

has_order : {J T : Type 0} {fits : Order J → Outcome J T → Type 0} (base taken : ℕ) (sent : List (Order J)) (given : List (ℕ × Outcome J T)) → base ≡ 0 → AreOf fits base (take taken sent) given →
    (place : ℕ) (outcome : ℕ × Outcome J T) → slice_get given place ≡ Some outcome → HasOrder fits sent outcome
has_order {fits = fits} base taken sent given none are place outcome at =
    let of = are.0 place outcome at in
    let order = slice_get-there (take taken sent) (outcome.0 - 1) (omega (arith, of.0, of.2, none)) in
    let same : outcome.0 - base - 1 ≡ outcome.0 - 1 = omega (arith, none) in
    let here : slice_get (take taken sent) (outcome.0 - base - 1) ≡ Some order.0 = rw same order.1 in
    record {
      order = order.0;
      at = slice_get-seen sent (take taken sent) (IsPrefix-take taken sent) (outcome.0 - 1) order.0 order.1;
      fit = subst (λ found. IfSome found (λ order. fits order outcome.1)) here of.1;
      above = omega (arith, of.0, none);
    }

module _ {J : Type 0} {meaning : Meaning J ℕ} (view : RuntimeView J ℕ) (ended : List (LinkedView J ℕ))
    (have : HaveEnded meaning view.desk.cores view.desk.cap view.desk.burst ended (outside_of view)) (assembly : Assembly ℕ)
    (is : IsAssemblyOf view.desk.cores view.desk.cap view.desk.burst (desk_among ended (outside_of view)) assembly) where
  abbrev orders : Orders J
  orders = its_orders view ended have assembly is

  module _ (name : JobId) (from : name.from ≤ view.desk.cores) (to : name.to < view.desk.cores) where
    abbrev out : Sending J ℕ
    out = out_under view ended have assembly is name

    abbrev inward : Receiving J ℕ
    inward = in_at name.from (ends_at name.to (all_ends ended (outside_of view)))

    given_are : given_outcomes name.from (journal_of name.to assembly) ≡ named_outcomes name.from name.to inward.inward.given
    given_are =
        let are = ended_together have in
        ap (given_outcomes name.from) (is.each name.to (omega (arith, to)) ∙ ap (λ desk. desk.journal.notes) (are.desks name.to to))
        ∙ ((are.ins name.from name.to from to).given ∙ ap (λ core. named_outcomes name.from core inward.inward.given) (ap (λ terms. terms.actor) (have.seats name.to to)))

    fits_its_order : (told : OutcomeNote ℕ) → outcome_of name assembly ≡ Some told → FitsItsOrder (Fits meaning) orders name told
    fits_its_order told found =
        let first = first_named name.from name.to name inward.inward.given told (ap (first_under name) (sym given_are) ∙ found) in
        let has = has_order out.out.base inward.inward.taken out.out.sent inward.inward.given ((ended_together have).outs name.from name.to from to).base
        (have.reunited name.from name.to from to).outcomes first.place first.outcome first.at in
        record {
          order = has.order;
          under = ap (λ named. at_number out.out.sent named.number) first.named ∙ at_number_is out.out.sent first.outcome.0 has.order has.above has.at;
          outcome = first.outcome.1;
          as_told = first.as_told;
          fit = has.fit;
        }

    by_told : (found : Option (OutcomeNote ℕ)) → outcome_of name assembly ≡ found → IfSome found (FitsItsOrder (Fits meaning) orders name)
    by_told None at = tt
    by_told (Some told) at = fits_its_order told at

  pub all_fit : AllFitTheirOrders view assembly orders (Fits meaning)
  all_fit name from to = by_told name from to (outcome_of name assembly) refl
