-- Each poll that the journals of workers tell which have ended is one that the job under its name owes.
use Rattle.std.proofs.Common.{◌≡◌, ℕ, ◌+◌, ◌<◌, ◌≤◌, List, length, refl, sym, ◌∙◌, ap, subst, arith}
use Rattle.std.specs.Prelude.{Option, Some, true, slice_get}
use Rattle.std.proofs.lemmas.Option.{get_or_from_slice_get, slice_get_within}
use Rattle.base_words.specs.declared.names.JobId.{JobId}
use Rattle.base_words.specs.declared.order.Order.{Order}
use Rattle.base_words.specs.Assembly.{Assembly, journal_of}
use Rattle.base_words.specs.Closing.{final_count}
use Rattle.base_jobs.specs.Meanings.{Meaning}
use Rattle.link_ends.specs.Calls.{final_of}
use Rattle.link_ends.specs.Ends.{Joined}
use Rattle.link_ends.specs.declared.ends.Inward.{Inward}
use Rattle.link_ends.specs.declared.ends.Outward.{Outward}
use Rattle.link_ends.proofs.Lists.{slice_get-seen}
use Rattle.actor_core.specs.OwedPolls.{PollsAreOwed, SawSent, SawShut, seen_by}
use Rattle.actor_core.specs.RightAnswers.{SeesNoLess}
use Rattle.actor_core.proofs.OwedNotes.{owed_stays}
use Rattle.actor_core.specs.Recorded.{order_taken, terms_at}
use Rattle.actor_core.specs.Together.{IsAssemblyOf}
use Rattle.actor_desk.specs.Ends.{name_of}
use Rattle.link_ring.specs.declared.ring_out.Sending.{Sending}
use Rattle.link_ring.specs.Ends.{EndsView, in_at, no_out, out_at}
use Rattle.link_ring.specs.Grid.{ends_at, no_ends}
use Rattle.actor_seat.specs.Linked.{LinkedView}
use Rattle.run_worker.specs.Together.{HaveEnded, all_ends, desk_among}
use Rattle.actor_seat.specs.Together.{no_linked, worker_at}
use Rattle.run_worker.proofs.Ending.{before_last, ended_together}
use Rattle.run_runtime.specs.Outcomes.{AllPollsAreOwed, seen_at_end}
use Rattle.actor_caller.specs.State.{RuntimeView, outside_of}
use Rattle.run_runtime.proofs.Orders.{at_number, at_place, its_orders}

-- a gate that is shut is told with the number of the last order
told_shut : {J T : Type 0} (out : Outward J T) (inward : Inward J T) (found : Option ℕ) (final : ℕ) → Joined out inward → found ≡ final_of inward inward.shut → out.closed ≡ true → final ≡ out.base + length out.sent →
    found ≡ Some final
told_shut out inward found final joined is closed at =
    let shut = joined.gate closed in
    let last : inward.base + length inward.seen ≡ final = omega (arith, at, joined.base, ap length (joined.final shut)) in
    is ∙ (ap (final_of inward) shut ∙ ap Some last)

module _ {J : Type 0} {meaning : Meaning J ℕ} (view : RuntimeView J ℕ) (ended : List (LinkedView J ℕ))
    (have : HaveEnded meaning view.desk.cores view.desk.cap view.desk.burst ended (outside_of view)) (assembly : Assembly ℕ)
    (is : IsAssemblyOf view.desk.cores view.desk.cap view.desk.burst (desk_among ended (outside_of view)) assembly) where
  abbrev all : List (EndsView J ℕ)
  all = all_ends ended (outside_of view)

  -- the journal of a core is its worker's
  journal_here : (core : ℕ) → core < view.desk.cores → journal_of core assembly ≡ (worker_at core ended).recorded.journal.notes
  journal_here core low = is.each core (omega (arith, low)) ∙ ap (λ desk. desk.journal.notes) ((ended_together have).desks core low)

  module _ (core : ℕ) (low : core < view.desk.cores) where
    abbrev worker : LinkedView J ℕ
    worker = worker_at core ended

    -- the order that a core took under a name was sent under it
    taken_under : (name : JobId) (order : Order J) → order_taken worker.recorded.took name ≡ Some order → its_orders view ended have assembly is name ≡ Some order
    taken_under name order taken =
        let are = ended_together have in
        let terms = have.seats core low in
        let known : name.from ≤ view.desk.cores = omega (arith, ((are.recorded core low).taken name order taken).sender, ap (λ terms. terms.cores) terms) in
        let stands = (are.ins name.from core known low).orders name order refl taken in
        let named : name ≡ name_of name.from core (stands.0 + 1) = stands.1 ∙ ap (λ number. name_of name.from number (stands.0 + 1)) (ap (λ terms. terms.actor) terms) in
        let sent = slice_get-seen (out_at core (ends_at name.from all)).out.sent (in_at name.from (ends_at core all)).inward.seen (are.joined name.from core known low).orders stands.0 order stands.2 in
        ap (λ named. at_number (out_at named.to (ends_at named.from all)).out.sent named.number) named
        ∙ at_place (out_at core (ends_at name.from all)).out.sent (stands.0 + 1) stands.0 order refl sent

    abbrev seen_out : Sending J ℕ → Outward J ℕ
    seen_out end = end.out

    -- the end of this core on which it sends to another
    end_here : (to : ℕ) (end : Sending J ℕ) → slice_get worker.ends.outs to ≡ Some end → (to < view.desk.cores) × (out_at to (ends_at core all) ≡ end)
    end_here to end at =
        let count = (have.ended core low).linked.beside.outs.count in (
          omega (arith, slice_get_within worker.ends.outs to end at, count, ap (λ terms. terms.cores) (have.seats core low)),
          ap (out_at to) (before_last (λ (worker : LinkedView J ℕ). worker.ends) ended view.ends no_ends no_linked core (omega (arith, low, have.count)))
              ∙ get_or_from_slice_get worker.ends.outs to end no_out at,
        )

    -- a gate that an end saw shut is told as shut by that core
    shut_told : (to final : ℕ) → SawShut seen_out worker.ends.outs to final → final_count core (journal_of to assembly) ≡ Some final
    shut_told to final (end, at, closed, number) =
        let are = ended_together have in
        let here = end_here to end at in
        let known : core ≤ view.desk.cores = omega (arith, low) in
        ap (final_count core) (journal_here to here.0)
        ∙ told_shut (out_at to (ends_at core all)).out (in_at core (ends_at to all)).inward _ final (are.joined core to known here.0) (are.ins core to known here.0).gate
        (ap (λ (end : Sending J ℕ). end.out.closed) here.1 ∙ closed)
        (number ∙ ap (λ (end : Sending J ℕ). end.out.base + length end.out.sent) (sym here.1))

    -- an order that was sent on an end stands under its name
    sent_under : (name : JobId) (order : Order J) → SawSent seen_out worker.ends.outs name order → name.from ≡ core → its_orders view ended have assembly is name ≡ Some order
    sent_under name order (end, at, (place, number, sent)) from =
        let here = end_here name.to end at in
        let base = ((ended_together have).outs core name.to (omega (arith, low)) here.0).base in
        let end_is : out_at name.to (ends_at name.from all) ≡ end = ap (λ sender. out_at name.to (ends_at sender all)) from ∙ here.1 in
        let number_is : name.number ≡ place + 1 = omega (arith, number, base, ap (λ (end : Sending J ℕ). end.out.base) here.1) in
        ap (λ (end : Sending J ℕ). at_number end.out.sent name.number) end_is
        ∙ at_place end.out.sent name.number place order number_is sent

    no_less : SeesNoLess (seen_by seen_out worker.ends.outs) (seen_at_end assembly (its_orders view ended have assembly is) core)
    no_less = record { shut = shut_told; sent = sent_under }

  pub all_owed : AllPollsAreOwed view assembly (its_orders view ended have assembly is) meaning
  all_owed core low =
      let seen = seen_at_end assembly (its_orders view ended have assembly is) core in
      let orders = its_orders view ended have assembly is in
      let recorded = (worker_at core ended).recorded in
      subst (PollsAreOwed meaning (record { actor = core; cores = view.desk.cores; cap = view.desk.cap; burst = view.desk.burst }) seen orders) (sym (journal_here core low))
      (subst (λ terms. PollsAreOwed meaning terms seen orders recorded.journal.notes) (have.seats core low)
      (owed_stays (terms_at recorded) (seen_by (λ (end : Sending J ℕ). end.out) (worker_at core ended).ends.outs) seen (no_less core low) meaning (order_taken recorded.took) orders (taken_under core low) recorded.journal.notes
      (have.ended core low).linked.owed))
