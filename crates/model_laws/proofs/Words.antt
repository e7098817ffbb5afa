-- The words of the crates below and of this one that its proofs speak in.
pub use Rattle.base_words.specs.Closing.{core_mode}
pub use Rattle.base_words.specs.Collecting.{IsRedeemable}
pub use Rattle.core_core.specs.declared.turn.Settled.{Settled}
pub use Rattle.core_core.specs.Whole.{settled_of}
pub use Rattle.base_words.specs.Commands.{IsOpening, created_count, effect_note, return_reason, stays_in_line}
pub use Rattle.base_words.specs.Filters.{Outcomes, accepted_orders, name_started}
pub use Rattle.base_words.specs.Journal.{Journal, is_told}
pub use Rattle.base_words.specs.Keys.{KeyAtMost}
pub use Rattle.base_words.specs.Lawful.{IsNextSent}
pub use Rattle.base_words.specs.Lines.{line}
pub use Rattle.base_words.specs.Outcomes.{outcome_note}
pub use Rattle.base_words.specs.Outstanding.{outstanding_count}
pub use Rattle.base_words.specs.Picks.{IsRightPick, turns}
pub use Rattle.base_words.specs.Runtimes.{virtual_runtime}
pub use Rattle.base_words.specs.Work.{has_work}
pub use Rattle.base_words.specs.declared.names.JobId.{JobId}
pub use Rattle.base_words.specs.declared.names.TicketError.TheVariants.{Gone, Pending, Unknown}
pub use Rattle.base_words.specs.declared.names.TicketError.{TicketError}
pub use Rattle.base_words.specs.declared.note.Note.{Note}
pub use Rattle.base_words.specs.declared.note.OutcomeNote.{OutcomeNote}
pub use Rattle.base_words.specs.declared.order.Answer.{Answer}
pub use Rattle.base_words.specs.declared.order.Order.TheVariants.{Close, CloseCore, Create, Job, SetShares, Wake}
pub use Rattle.base_words.specs.declared.order.Order.{Order}
pub use Rattle.base_words.specs.declared.order.Outcome.{Outcome}
pub use Rattle.base_words.specs.declared.order.Reason.{Reason}
pub use Rattle.base_words.specs.declared.order.SendError.TheVariants.{Closed, Full, Spent}
pub use Rattle.base_words.specs.declared.order.SendError.{SendError}
pub use Rattle.base_jobs.specs.Calls.Call.{Detach, Redeem, Submit}
pub use Rattle.base_jobs.specs.Calls.{Call, Makes}
pub use Rattle.base_jobs.specs.Scripts.{Script}
pub use Rattle.base_jobs.specs.Meanings.{Meaning}
pub use Rattle.base_jobs.specs.declared.job.Step.{Step}
pub use Rattle.link_ends.specs.Fits.{Fits}
pub use Rattle.actor_desk.specs.Tickets.{RefusesTicket}
pub use Rattle.model_world.specs.Calls.{CallsAt}
pub use Rattle.model_world.specs.Closings.{Shuts}
pub use Rattle.model_world.specs.Collections.{Collects, Detaches, Redeems, WasAccepted, collected_notes, detached_reply, redeemed_reply, uncollected}
pub use Rattle.model_world.specs.Deliveries.{Delivers, IsDelivery, next_place, with_effect}
pub use Rattle.model_world.specs.Opening.{HasAllLists, IsFresh, IsUnbegun}
pub use Rattle.model_world.specs.Runs.{Happens, IsRun, Steps}
pub use Rattle.model_world.specs.Sends.{AreThere, Sends, actor_of, sent_reply}
pub use Rattle.model_world.specs.State.{IsNearlyFull, WorldView, assembly_of, journal_at, noted, order_under, sent_at, terms_at, with_sent, without_job}
pub use Rattle.model_world.specs.Turns.{Ends, Further, IsFirstPoll, IsFurtherPoll, IsHandBack, IsPoll, MakesPolls, Turns, poll_notes, settle_note, settled_note}
pub use Rattle.model_world.specs.declared.event.Event.TheVariants.{Collect, Deliver, Send, Shut, Turn}
pub use Rattle.model_world.specs.declared.event.Event.{Event}
pub use Rattle.model_world.specs.declared.event.Reply.{Reply}
pub use Rattle.model_laws.specs.Alike.{AreAlike, AreAllAlike, AskAlike}
pub use Rattle.model_laws.specs.Creations.{CallNoQueues, IsNoCreation, OrderNoQueues, PollsOrderNone, with_creations}
pub use Rattle.model_laws.specs.Determined.{IsToldRun, OwesOne, WasRefused, WasRefusedSince, is_refusal, tells_refusal}
pub use Rattle.model_laws.specs.Rows.{name}
pub use Rattle.base_jobs.specs.ScriptMeaning.{script_meaning}
pub use Rattle.std.proofs.Common.{Bool, List, [], ap, append_assoc, arith, cond, false, get_or, get_or-set_same, inl, inr, length, refl, set}
pub use Rattle.std.proofs.Common.{subst, sym, true, ℕ, ⊎_elim, ◌++◌, ◌+◌, ◌-◌, ◌<◌, ◌^◌, ◌∙◌, ◌∷◌, ◌≡◌, ◌≤◌, ◌⊎◌}
pub use Rattle.std.proofs.Math.Logic.{⊎_map}
pub use Rattle.std.proofs.lemmas.Bool.{true≢false}
pub use Rattle.std.proofs.lemmas.List.{length-set}
pub use Rattle.std.proofs.lemmas.Option.{none-some, same_Some}
pub use Rattle.std.specs.Prelude.{Err, None, Ok, Option, Result, Some, is_some, nat_le, slice_get, unwrap_or, ◌==◌, ◌||◌}
