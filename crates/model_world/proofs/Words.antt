-- The words of the crates below and of this one that its proofs speak in.
pub use Rattle.base_words.specs.Collecting.{IsDetachable, IsRedeemable}
pub use Rattle.base_words.specs.Commands.{IsOpening, created_count, return_reason}
pub use Rattle.base_words.specs.Filters.{Outcomes, accepted_orders, collected_outcomes, name_started}
pub use Rattle.base_words.specs.Joining.{AreJoined}
pub use Rattle.base_words.specs.Journal.{Journal, is_told}
pub use Rattle.base_words.specs.Lawful.{IsNextSent}
pub use Rattle.base_words.specs.Lines.{line}
pub use Rattle.base_words.specs.Outcomes.{outcome_note}
pub use Rattle.base_words.specs.Outstanding.{outstanding_count}
pub use Rattle.base_words.specs.Picks.{IsRightPick, turns}
pub use Rattle.base_words.specs.Sound.{IsSound}
pub use Rattle.base_words.specs.Work.{has_work}
pub use Rattle.base_words.specs.declared.names.JobId.{JobId}
pub use Rattle.base_words.specs.declared.names.TicketError.{TicketError}
pub use Rattle.base_words.specs.declared.names.TicketError.TheVariants.{Gone, Pending, Unknown}
pub use Rattle.base_words.specs.declared.note.Note.{Note}
pub use Rattle.base_words.specs.declared.order.Order.{Order}
pub use Rattle.base_words.specs.declared.order.Order.TheVariants.{Job}
pub use Rattle.base_words.specs.declared.order.Outcome.{Outcome}
pub use Rattle.base_words.specs.declared.order.SendError.{SendError}
pub use Rattle.base_words.specs.declared.order.SendError.TheVariants.{Closed, Full, Spent}
pub use Rattle.base_words.specs.declared.stats.CoreStats.{CoreStats}
pub use Rattle.base_jobs.specs.Calls.{Call, Makes}
pub use Rattle.base_jobs.specs.Calls.Call.{Detach, Redeem, Submit}
pub use Rattle.base_jobs.specs.Meanings.{Meaning}
pub use Rattle.actor_desk.proofs.NumberedOrders.{get_or-map}
pub use Rattle.actor_core.specs.Ends.{IsInOf, IsSameSeat, KeepsIn}
pub use Rattle.actor_core.specs.Polls.{poll_note, polls_made}
pub use Rattle.actor_core.specs.Recorded.{IsRecorded, RecordedView, desk_of, order_taken}
pub use Rattle.actor_core.specs.Steps.{CreatesQueue, opened_beside, with_notes}
pub use Rattle.actor_desk.specs.Submissions.{DeskView, IsWritten, opened_desk, terms_of_desk}
pub use Rattle.actor_desk.specs.Tickets.{DetachesTicket, RedeemsTicket, RefusesTicket, StaysBeside}
pub use Rattle.actor_core.specs.Whole.{post_of}
pub use Rattle.link_ends.specs.Fits.{Fits}
pub use Rattle.link_ends.specs.Whole.{inward_of, kept_by_sender, out_of}
pub use Rattle.link_ends.specs.declared.plain.Whole.{Whole}
pub use Rattle.model_world.specs.Acts.{Acts, HasActed, IsActAt, IsActOf}
pub use Rattle.model_world.specs.Calls.{CallsAt}
pub use Rattle.model_world.specs.Collections.{Collects, Detaches, Redeems, WasAccepted, collected_notes, detached_reply, redeemed_reply, uncollected}
pub use Rattle.model_world.specs.Deliveries.{Delivers, IsDelivery, next_place}
pub use Rattle.model_world.specs.Inside.{IsAtRest, IsCoreAtRest, IsWorld, Parts, core_at, desk_at, desks, notes_at, seat_of, world_of}
pub use Rattle.model_world.specs.Links.{ChangesLink, link_at, no_link, row_of}
pub use Rattle.model_world.specs.Opening.{HasAllLists, IsFresh}
pub use Rattle.model_world.specs.Receipts.{HasReceived}
pub use Rattle.model_world.specs.Runs.{Happens, IsRun}
pub use Rattle.model_world.specs.Sends.{AreThere, Sends, actor_of, sent_reply}
pub use Rattle.model_world.specs.State.{WorldView, assembly_of, journal_at, noted, order_under, sent_at}
pub use Rattle.actor_core.specs.Stats.{TellsCore, TellsQueues}
pub use Rattle.model_world.specs.Turns.{IsHandBack, IsPoll, Turns, poll_notes}
pub use Rattle.model_world.specs.declared.event.Event.{Event}
pub use Rattle.model_world.specs.declared.event.Reply.{Reply}
pub use Rattle.model_world.specs.declared.model.acts.Act.{Act}
pub use Rattle.std.proofs.Common.{Bool, List, [], ap, append_assoc, arith, cond, false, get_or, get_or-set_other, get_or-set_same, inl, inr, length, refl}
pub use Rattle.std.proofs.Common.{set, subst, sym, true, vec_capacity, ℕ, ⊎_elim, ◌*◌, ◌++◌, ◌+◌, ◌-◌, ◌<◌, ◌^◌, ◌∙◌, ◌∷◌, ◌≡◌, ◌≢◌, ◌≤◌}
pub use Rattle.std.proofs.lemmas.Bool.{cases_lt, eq-eqb, true≢false}
pub use Rattle.std.proofs.lemmas.Iterator.Adapters.{YieldsList-from_vec}
pub use Rattle.std.proofs.lemmas.Iterator.Consumers.{YieldsList-end, YieldsList-turn}
pub use Rattle.std.proofs.lemmas.List.{append-nil, get_or_append_left, get_or_default, get_or_push, length-append, length-map, length-set, length_push}
pub use Rattle.std.proofs.lemmas.List.{map-append, map-id, map-set, set-get_or, set-set}
pub use Rattle.std.proofs.lemmas.Option.{get_or_from_slice_get}
pub use Rattle.std.specs.Prelude.{Err, IsTrue, None, Ok, Option, Result, Some, map, slice_get, unwrap_or, ◌↔◌}
