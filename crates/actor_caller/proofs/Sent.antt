-- A runtime after a call of its outside actor on the end to one core.
use Rattle.std.proofs.Common.{◌≡◌, ◌≢◌, ℕ, add-one, ◌+◌, ◌<◌, ◌≤◌, List, [], ◌∷◌, ◌++◌, length, map, set, refl, sym, ◌∙◌, ap, subst, arith, ⊎_elim, ◌-◌, Some}
use Rattle.std.specs.Prelude.{Bool, IfOk, Result, Ok, Err, ◌||◌, slice_get}
use Rattle.std.proofs.lemmas.Bool.{cases_eq}
use Rattle.std.proofs.lemmas.List.{append-nil}
use Rattle.link_ring.proofs.Windows.{slice_get-last}
use Rattle.link_ring.specs.declared.ring_out.Sending.{Sending}
use Rattle.base_words.specs.declared.order.Order.{Order}
use Rattle.base_words.specs.declared.order.Outcome.{Outcome}
use Rattle.base_words.specs.Spelled.{IsWithinLimits}
use Rattle.base_words.specs.declared.names.JobId.{JobId}
use Rattle.base_words.specs.declared.order.SendError.{SendError}
use Rattle.base_words.specs.declared.order.SendError.TheVariants.{Closed, Full, Spent, NoCore}
use Rattle.link_ends.specs.declared.ends.Outward.{Outward}
use Rattle.link_ends.specs.Calls.{Sends}
use Rattle.actor_desk.specs.Spending.{booked}
use Rattle.actor_desk.specs.Submissions.{DeskView, Submits, numbered}
use Rattle.link_ring.specs.Ends.{out_at}
use Rattle.link_ring.specs.Grid.{IsGrid}
use Rattle.link_ring.proofs.Using.{all_same, one_more_same}
use Rattle.link_ring.proofs.Keeping.{grid_kept}
use Rattle.note_journal.specs.Journals.{JournalView, places_of}
use Rattle.run_config.specs.Configs.{least_room}
use Rattle.actor_seat.specs.Bells.{rung_at}
use Rattle.actor_seat.specs.Linked.{LinkedView}
use Rattle.actor_seat.specs.Opening.{IsWorkerOf}
use Rattle.actor_seat.specs.OutsideSeats.{UsesOutside}
use Rattle.actor_seat.specs.OutsideSeats.{OutsideView}
use Rattle.actor_seat.specs.Together.{worker_at}
use Rattle.base_words.specs.Journal.{Journal}
use Rattle.base_words.specs.Outstanding.{outstanding_count}
use Rattle.actor_caller.specs.Rings.{RingsView}
use Rattle.actor_caller.specs.Sends.{SendsTo, accepted, is_closing, outstanding_upto, tells_closing}
use Rattle.actor_caller.specs.State.{PassesNothing, RuntimeView, StaysRunning, SubmitsNothing, closing_at, is_told_shut, outside_of, submitted}
use Rattle.actor_caller.specs.Stored.{IsHeld, IsRuntime}

module _ {J T : Type 0} (out later : Outward J T) (credited : ℕ) (order : Order J) where
  -- what was sent is longer by the order, if it was accepted
  pub sent_orders : (answer : Result JobId (SendError J)) → Sends out credited order later (numbered answer) → later.sent ≡ out.sent ++ accepted order answer
  sent_orders (Ok name) sends = ap (λ end. end.sent) sends.4
  sent_orders (Err (Closed back final)) sends = ap (λ end. end.sent) sends.2 ∙ sym (append-nil out.sent)
  sent_orders (Err (Full back)) sends = ap (λ end. end.sent) sends.3 ∙ sym (append-nil out.sent)
  sent_orders (Err (Spent back)) sends = ap (λ end. end.sent) sends.4 ∙ sym (append-nil out.sent)
  sent_orders (Err (NoCore back)) sends = absurd sends

  -- it stands under its name
  pub sent_named : (answer : Result JobId (SendError J)) → Sends out credited order later (numbered answer) → out.base ≡ 0 → IfOk answer (λ name. slice_get later.sent (name.number - 1) ≡ Some order)
  sent_named (Ok name) sends base =
      let place : name.number - 1 ≡ length out.sent = omega (arith, sends.2, base) in
      rw place (rw (ap (λ end. end.sent) sends.4) (slice_get-last out.sent order))
  sent_named (Err error) sends base = tt

-- a runtime whose outside actor made a call on the end to one core
module _ {J T : Type 0} {fits : Order J → Outcome J T → Type 0} (view : RuntimeView J T) (core : ℕ) (outside : OutsideView J T) (uses : UsesOutside fits core (outside_of view) outside) where
  cores : outside.desk.cores ≡ view.desk.cores
  cores = ap (λ desk. desk.cores) uses.rest

  pub runtime_on : IsRuntime fits view → booked outside.desk ≤ view.desk.journal.room → (closing : List Bool) → length closing ≡ view.desk.cores → (rung : RingsView J T) → length rung.times ≡ view.desk.cores + 1 →
      IsRuntime fits (record view { desk = outside.desk; ends = outside.ends; closing = closing; rung = rung })
  runtime_on is books closing count rung bells = record {
    count = is.count ∙ sym cores;
    each = subst (λ (desk : DeskView J T). (core : ℕ) → core < desk.cores → IsWorkerOf core desk.cores desk.cap desk.burst view.room (worker_at core view.workers)) (sym uses.rest) is.each;
    actor = ap (λ desk. desk.actor) uses.rest ∙ (is.actor ∙ sym cores);
    outside = uses.seated.outside;
    grid = subst (λ cores. IsGrid cores (map (λ worker. worker.ends) view.workers ++ outside.ends ∷ [])) (sym cores) (grid_kept view.desk.cores _ _ (one_more_same _ _ view.ends outside.ends (all_same (map (λ (worker : LinkedView J T). worker.ends) view.workers)) uses.same) is.grid);
    closings = count ∙ sym cores;
    bells = bells ∙ ap (λ cores. cores + 1) (sym cores);
    lanes = uses.seated.lanes;
    lanes_are = uses.seated.lanes_are;
    room_is = omega (arith, books, ap (λ desk. desk.journal.room) uses.rest);
    places = subst (λ (desk : DeskView J T). least_room desk.cores desk.cap desk.burst ≤ places_of desk.journal) (sym uses.rest) is.places;
    limits = subst (λ (desk : DeskView J T). IsWithinLimits desk.cores desk.cap desk.burst) (sym uses.rest) is.limits;
  }

  -- nothing was passed on
  journal_longer : outside.desk.journal ≡ record view.desk.journal { notes = outside.desk.journal.notes }
  journal_longer = ap (λ desk. desk.journal) uses.rest

  -- the outside actor stays
  pub running_on : (closing : List Bool) (rung : RingsView J T) → rung.names ≡ view.rung.names → StaysRunning view (record view { desk = outside.desk; ends = outside.ends; closing = closing; rung = rung })
  running_on closing rung names = record {
    desk = uses.rest ∙ ap (λ (journal : JournalView T). record view.desk { journal = journal; lanes = outside.desk.lanes }) (sym journal_longer);
    places = ap places_of journal_longer;
    grows = uses.grows;
    workers = refl;
    room = refl;
    bells = refl;
    names = names;
    watched = refl;
    marks = refl;
    tries = refl;
  }

  pub passes_nothing_on : (closing : List Bool) (rung : RingsView J T) → PassesNothing view (record view { desk = outside.desk; ends = outside.ends; closing = closing; rung = rung })
  passes_nothing_on closing rung = record { journal = journal_longer; refused = refl; asks = refl }

  -- nothing was submitted, where this end has sent what it had sent and heard of no gate
  pub nothing_on : (out_at core outside.ends).out.sent ≡ submitted core view → (out_at core outside.ends).out.closed ≡ is_told_shut core view → SubmitsNothing view (record view { desk = outside.desk; ends = outside.ends })
  nothing_on sent gate = record {
    orders = λ to. ⊎_elim (λ (same : to ≡ core). rw same sent) (λ (away : to ≢ core). ap (λ (end : Sending J T). end.out.sent) (uses.uses.others to away)) (cases_eq to core);
    gates = λ to. ⊎_elim (λ (same : to ≡ core). rw same gate) (λ (away : to ≢ core). ap (λ (end : Sending J T). end.out.closed) (uses.uses.others to away)) (cases_eq to core);
    closing = refl;
    rung = refl;
    passes = passes_nothing_on view.closing view.rung;
    stays = running_on view.closing view.rung refl;
  }

  -- what was sent stands under its name
  named_there : (order : Order J) (answer : Result JobId (SendError J)) → Submits core order view.desk answer outside.desk → IfOk answer (λ name. slice_get (out_at core outside.ends).out.sent (name.number - 1) ≡ Some order) →
      IfOk answer (λ name. slice_get (out_at name.to outside.ends).out.sent (name.number - 1) ≡ Some order)
  named_there order (Ok name) submits named = subst (λ to. slice_get (out_at to outside.ends).out.sent (name.number - 1) ≡ Some order) (sym submits.1) named
  named_there order (Err error) submits named = tt

  -- a send to this core, over the runtime as it was seen
  pub sends_to : IsRuntime fits view → core < view.desk.cores → (order : Order J) (answer : Result JobId (SendError J)) → Submits core order view.desk answer outside.desk →
      Sends (out_at core view.ends).out (out_at core view.ends).credited order (out_at core outside.ends).out (numbered answer) → (out_at core outside.ends).credited ≡ (out_at core view.ends).credited →
      (closing : List Bool) → closing ≡ set view.closing core (closing_at core view || tells_closing (is_closing order) answer) →
      (rung : RingsView J T) → rung ≡ record view.rung { times = rung_at core view.rung.times; over = outside.ends } → (seen : RuntimeView J T) → view ≡ seen →
      SendsTo core order seen answer (record view { desk = outside.desk; ends = outside.ends; closing = closing; rung = rung })
  sends_to is low order answer submits sends credited closing closing_is rung rings seen same =
      subst (λ was. SendsTo core order was answer (record view { desk = outside.desk; ends = outside.ends; closing = closing; rung = rung })) same
      (record {
        submits = submits;
        link = sends;
        credited = credited;
        uses = uses.uses;
        closing = closing_is;
        orders = sent_orders _ _ _ order answer sends;
        others = λ other away. ap (λ (end : Sending J T). end.out.sent) (uses.uses.others other away);
        gates = λ other away. ap (λ (end : Sending J T). end.out.closed) (uses.uses.others other away);
        named = named_there order answer submits (sent_named _ _ _ order answer sends (is.outside.outs core low).base);
        rings = rings;
        passes = passes_nothing_on closing rung;
        stays = running_on closing rung (ap (λ rung. rung.names) rings);
      })

module _ {J S : Type 0} {fits : Order J → Outcome J ℕ → Type 0} {has : S → Journal ℕ} {refused : S → ℕ → Type 0} where
  -- it has its numbers, and its sink stays what it is
  pub held_on : (view : RuntimeView J ℕ) {cores cap : ℕ} (sink : S) → IsHeld fits has refused view cores cap sink → (core : ℕ) (outside : OutsideView J ℕ) → UsesOutside fits core (outside_of view) outside → booked outside.desk ≤ view.desk.journal.room →
      (closing : List Bool) → length closing ≡ view.desk.cores → (rung : RingsView J ℕ) → length rung.times ≡ view.desk.cores + 1 →
      IsHeld fits has refused (record view { desk = outside.desk; ends = outside.ends; closing = closing; rung = rung }) cores cap sink
  held_on view sink held core outside uses books closing count rung bells =
      let passed : outside.desk.journal.passed ≡ view.desk.journal.passed = ap (λ desk. desk.journal.passed) uses.rest in
      record {
        runtime = runtime_on view core outside uses held.runtime books closing count rung bells;
        cores_are = held.cores_are ∙ sym (ap (λ desk. desk.cores) uses.rest);
        cap_is = held.cap_is ∙ sym (ap (λ desk. desk.cap) uses.rest);
        has_passed = held.has_passed ∙ sym passed;
        refusal = λ told. subst (λ passed. refused sink (length passed)) (sym passed) (held.refusal told);
      }

-- one more core counted
pub one_more_core : {T : Type 0} (notes : Journal T) (core count more : ℕ) → count ≡ outstanding_upto notes core → more ≡ outstanding_count core notes → count + more ≡ outstanding_upto notes (core + 1)
one_more_core notes core count more was is = rw add-one (omega (arith, was, is))
