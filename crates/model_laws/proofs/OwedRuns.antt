-- Each event of a run leaves each poll owed.
use Rattle.model_laws.proofs.Words.{◌≡◌, inl, inr, ℕ, ◌+◌, ◌<◌, ◌≤◌, List, [], ◌∷◌, length, refl, sym, ◌∙◌, ap, subst}
use Rattle.model_laws.proofs.Words.{JobId, Note, Order, Meaning, Event, Reply, WorldView, journal_at, noted, order_under, terms_at}
use Rattle.model_laws.proofs.Words.{accepted_orders, IsUnbegun, Happens, IsRun, Steps, AreThere, Sends, Delivers, Turns, Shuts, Collects, Redeems}
use Rattle.model_laws.proofs.Words.{Detaches, Closed, Full, Spent, Unknown, Gone, Send, Deliver, Turn, Shut, Collect}
use Rattle.model_laws.proofs.Words.{none-some, collected_notes, uncollected, outcome_note, next_place, without_job}
use Rattle.base_words.specs.declared.note.Note.TheVariants as writes
use Rattle.std.proofs.Common.{append-nil}
use Rattle.actor_core.specs.OwedPolls.{PollsAreOwed}
use Rattle.actor_core.proofs.OwedNotes.{SettleNothing, owed_longer}
use Rattle.model_world.specs.declared.event.Event.TheVariants.{Redeem, Detach}
use Rattle.model_world.specs.declared.event.Reply.TheVariants as reply
use Rattle.model_laws.proofs.OwedWorlds.{Adds, adds_shut}
use Rattle.model_laws.proofs.OwedCalls.{adds_sent}
use Rattle.model_laws.proofs.StillNotes.{AreStill, collected_still, redeemed_still, detached_still, back_still, delivery_still}
use Rattle.model_laws.proofs.StillNotes.{opening_sends_nothing, opening_shuts_nothing, opening_settles_nothing}
use Rattle.model_laws.proofs.StillNotes.{accepted_orders-longer, final_count-longer}
use Rattle.base_words.specs.Closing.{final_count}
use Rattle.model_laws.specs.OwedRuns.{seen_of, RunsOwePolls}
use Rattle.model_laws.proofs.OwedPolls.{IsOwing, added, polls_owe, same_owes, still_owes}

module _ {J : Type 0} (meaning : Meaning J ℕ) (old new : WorldView J ℕ) (is : IsOwing meaning old) where
  added_here : (actor : ℕ) (notes : List (Note ℕ)) → SettleNothing notes → Adds actor notes old new → IsOwing meaning new
  added_here = added meaning old new is

  still_here : (actor : ℕ) (notes : List (Note ℕ)) → AreStill notes → new ≡ noted actor notes old → IsOwing meaning new
  still_here = still_owes meaning old new is

  same_here : new ≡ old → IsOwing meaning new
  same_here = same_owes meaning old new is

  send_owes : (sender core : ℕ) (order : Order J) → sender ≤ old.cores → core < old.cores → (answer : Reply J) → Sends sender core order old new answer → IsOwing meaning new
  send_owes sender core order from known (reply.Sent name) did =
      added_here sender (writes.Sent name (without_job order) ∷ []) (refl, tt)
      (adds_sent sender core order old new (record { lists = is.lists; known = from }) known is.counted name did.0 did.1 did.2 did.3)
  send_owes sender core order from known (reply.NotSent (Closed back final)) did = same_here did.2
  send_owes sender core order from known (reply.NotSent (Full back)) did = same_here did.2
  send_owes sender core order from known (reply.NotSent (Spent back)) did = same_here did.3
  send_owes sender core order from known _ did = absurd did

  deliver_owes : (core sender : ℕ) (answer : Reply J) → Delivers core sender old new answer → IsOwing meaning new
  deliver_owes core sender reply.Noted did =
      still_here core did.2 (delivery_still ℕ (record { from = sender; to = core; number = next_place sender core old + 1 }) did.0 (journal_at core old) did.2 did.3) did.4
  deliver_owes core sender reply.Empty did = same_here did.1
  deliver_owes core sender _ did = absurd did

  turn_owes : (core spent : ℕ) → core < old.cores → (answer : Reply J) → Turns meaning core spent old new answer → IsOwing meaning new
  turn_owes core spent known reply.Noted (inl polls) = polls_owe meaning core spent old new is known polls
  turn_owes core spent known reply.Noted (inr back) =
      still_here core (writes.Returned back.name back.reason ∷ writes.Pick back.queue back.runtime ∷ []) (back_still ℕ back.name back.reason back.queue back.runtime) back.notes
  turn_owes core spent known reply.Idle did = same_here did.1
  turn_owes core spent known reply.Spent did = same_here did.2
  turn_owes core spent known _ did = absurd did

  shut_owes : (core sender : ℕ) (answer : Reply J) → Shuts core sender old new answer → IsOwing meaning new
  shut_owes core sender reply.Noted did = added_here core (writes.Shut sender _ ∷ []) (refl, tt) (adds_shut core sender _ old new refl did.1 did.2)
  shut_owes core sender reply.NotClosed did = same_here did.1
  shut_owes core sender reply.AlreadyShut did = same_here did.2
  shut_owes core sender _ did = absurd did

  collect_owes : (sender core : ℕ) (answer : Reply J) → Collects sender core old new answer → IsOwing meaning new
  collect_owes sender core (reply.Collected count) did = still_here sender (collected_notes (uncollected sender core old)) (collected_still (uncollected sender core old)) did.1
  collect_owes sender core _ did = absurd did

  redeem_owes : (sender : ℕ) (name : JobId) (answer : Reply J) → Redeems meaning sender name old new answer → IsOwing meaning new
  redeem_owes sender name (reply.Redeemed outcome) did = still_here sender (writes.Redeemed name (outcome_note outcome) ∷ []) (redeemed_still ℕ name (outcome_note outcome)) did.3
  redeem_owes sender name (reply.NoTicket error) did = same_here did.1
  redeem_owes sender name _ did = absurd did

  detach_owes : (sender : ℕ) (name : JobId) (answer : Reply J) → Detaches sender name old new answer → IsOwing meaning new
  detach_owes sender name reply.Detached did = still_here sender (writes.Detached name ∷ []) (detached_still ℕ name) did.1
  detach_owes sender name (reply.NoTicket Unknown) did = same_here did.1
  detach_owes sender name (reply.NoTicket Gone) did = same_here did.1
  detach_owes sender name _ did = absurd did

  step_owes : (event : Event J) → AreThere old.cores event → (answer : Reply J) → Steps meaning event old new answer → IsOwing meaning new
  step_owes (Send sender core order) are answer did = send_owes sender core order are.0 are.1 answer did
  step_owes (Deliver core sender) are answer did = deliver_owes core sender answer did
  step_owes (Turn core spent) are answer did = turn_owes core spent are answer did
  step_owes (Shut core sender) are answer did = shut_owes core sender answer did
  step_owes (Collect sender core) are answer did = collect_owes sender core answer did
  step_owes (Redeem sender name) are answer did = redeem_owes sender name answer did
  step_owes (Detach sender name) are answer did = detach_owes sender name answer did

  event_owes : (event : Event J) (answer : Reply J) → Happens meaning event old new answer → IsOwing meaning new
  event_owes event (reply.NoActor back) did = same_here did.2
  event_owes event (reply.NoRoom back) did = same_here did.3
  event_owes event answer did = step_owes event did.0 answer did.2

module _ {J : Type 0} (meaning : Meaning J ℕ) where
  run_owes : (events : List (Event J)) (old end : WorldView J ℕ) → IsOwing meaning old → IsRun meaning events old end → IsOwing meaning end
  run_owes [] old end is run = same_owes meaning old end is run
  run_owes (event ∷ events) old end is run = run_owes events run.0 end (event_owes meaning old run.0 is event run.1 run.2) run.3

  -- nothing is owed before the first event
  unbegun_owes : (world : WorldView J ℕ) → IsUnbegun world → IsOwing meaning world
  unbegun_owes world unbegun = record {
    lists = unbegun.lists;
    counted = record {
      kept = λ sender core.
          ap length (ap (accepted_orders core) (sym (append-nil (journal_at sender world))) ∙ accepted_orders-longer core (journal_at sender world) [] (opening_sends_nothing (journal_at sender world) (unbegun.opening sender)))
          ∙ sym (ap length (unbegun.no_order sender core));
      gates = λ sender core final shut. absurd (none-some final
          (sym (final_count-longer sender (journal_at core world) [] (opening_shuts_nothing (journal_at core world) (unbegun.opening core)))
          ∙ (ap (final_count sender) (append-nil (journal_at core world)) ∙ shut)));
    };
    owed = λ actor.
        subst (PollsAreOwed meaning (terms_at actor world) (seen_of actor world) (λ name. order_under name world)) (append-nil (journal_at actor world))
        (owed_longer meaning (terms_at actor world) (seen_of actor world) (λ name. order_under name world) (journal_at actor world) [] (opening_settles_nothing (journal_at actor world) (unbegun.opening actor)) tt);
  }

  pub runs_owe : RunsOwePolls meaning
  runs_owe events old end unbegun run = (run_owes events old end (unbegun_owes old unbegun) run).owed
