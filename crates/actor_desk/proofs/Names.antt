-- The words of the crates below and of the specs of this one that these proofs use.
pub use Rattle.std.proofs.Common.{Bool, List, None, Some, [], ap, append_assoc, arith, cond, false, get_or}
pub use Rattle.std.proofs.Common.{get_or-set_same, inl, inr, length, refl, reverse, rules, set, subst, suc, sym, take}
pub use Rattle.std.proofs.Common.{true, zero, ℕ, ◌*◌, ◌++◌, ◌+◌, ◌-◌, ◌<◌, ◌∙◌, ◌∷◌, ◌≡◌, ◌≢◌, ◌≤◌, ◌⊎◌}
pub use Rattle.std.proofs.lemmas.Bool.{eq-eqb, false_from_ne_true, lt-ltb, ne_eqb, true≢false}
pub use Rattle.std.proofs.lemmas.Bool.Decides.{eqb_tells}
pub use Rattle.std.proofs.lemmas.List.{get_or-replicate, length-append, length-replicate, length-take, map-append}
pub use Rattle.std.proofs.lemmas.List.{set-get_or, take-append-le, take_more}
pub use Rattle.std.proofs.lemmas.List.Sums.{sum_by-append, sum_by-le, sum_by-set}
pub use Rattle.std.proofs.lemmas.Option.{get_or_from_slice_get, slice_get-get_or, slice_get_within}
pub use Rattle.std.specs.Prelude.{Err, IfOk, IfSome, IsSome, Ok, Option, Result, count_by, is_some, map, not}
pub use Rattle.std.specs.Prelude.{replicate, slice_get, sum_by, unwrap_or, ◌&&◌, ◌==◌, ◌||◌}
pub use Rattle.std.specs.Vec.{vec_capacity}
pub use Rattle.actor_desk.proofs.Cores.{changed, found, unchanged}
pub use Rattle.actor_desk.proofs.Lanes.{IsLaneOf-fresh, IsLaneOf-more, Stands-sent, option_cases}
pub use Rattle.actor_desk.proofs.Taken.{get-taken, taken-get}
pub use Rattle.actor_desk.specs.Held.{Adds, Removes, at, count_of, tally}
pub use Rattle.actor_desk.specs.Lanes.{FitsSent, IsAwaited, IsGot, IsLaneOf, IsSent, IsUnused, Lane, fresh_lane}
pub use Rattle.actor_desk.specs.Lanes.{is_collected, is_detached}
pub use Rattle.actor_desk.specs.Steps.{CollectsNext, Detaches, Keeps, Redeems, Refuses}
pub use Rattle.actor_desk.specs.Told.{told_of}
pub use Rattle.actor_desk.specs.declared.entry.Entry.{Entry}
pub use Rattle.base_words.proofs.Collected.{nothing_collected_under}
pub use Rattle.base_words.proofs.NameLemmas.{one_name, same_as_itself}
pub use Rattle.base_words.proofs.Prefixes.{IsPrefix-along, IsPrefix-self}
pub use Rattle.base_words.proofs.Under.{first_under-came, first_under-last, first_under-longer}
pub use Rattle.base_words.specs.Assembly.{IsPrefix, first_under}
pub use Rattle.base_words.specs.Clauses.{queue_just_picked}
pub use Rattle.base_words.specs.Collecting.{IsDetachable, IsNextCollected, IsRedeemable}
pub use Rattle.base_words.specs.Commands.{effect_awaited}
pub use Rattle.base_words.specs.Filters.{accepted_orders, collected_outcomes, order_sent, outcome_collected}
pub use Rattle.base_words.specs.Journal.{EachNote, Journal, is_told, with_last}
pub use Rattle.base_words.specs.Lawful.{IsEffectDue, IsNextSent, MayFollow, MayStand, MayWrite, takes_turn}
pub use Rattle.base_words.specs.Names.{is_name, same_name}
pub use Rattle.base_words.specs.Orders.{IsSpelledOrder, without_job}
pub use Rattle.base_words.specs.Outcomes.{FitsOrder, IsSpelledOutcome, outcome_note}
pub use Rattle.base_words.specs.Outstanding.{is_gone, is_outstanding, name_collected, name_detached, name_redeemed}
pub use Rattle.base_words.specs.Outstanding.{outstanding_count}
pub use Rattle.base_words.specs.Terms.{Terms}
pub use Rattle.base_words.specs.declared.names.JobId.{JobId}
pub use Rattle.base_words.specs.declared.names.TicketError.{TicketError}
pub use Rattle.base_words.specs.declared.names.TicketError.TheVariants.{Gone, Unknown}
pub use Rattle.base_words.specs.declared.note.Note.{Note}
pub use Rattle.base_words.specs.declared.note.Note.TheVariants.{Redeemed, Sent}
pub use Rattle.base_words.specs.declared.note.OutcomeNote.{OutcomeNote}
pub use Rattle.base_words.specs.declared.order.Order.{Order}
pub use Rattle.base_words.specs.declared.order.Outcome.{Outcome}
pub use Rattle.base_words.specs.declared.order.SendError.{SendError}
pub use Rattle.base_words.specs.declared.order.SendError.TheVariants.{Closed, Full, NoCore}
pub use Rattle.base_jobs.specs.Calls.{Call, Doing, Makes}
pub use Rattle.base_jobs.specs.Calls.Call.{Detach, Redeem, Submit}
pub use Rattle.link_ends.proofs.Lists.{slice_get-behind, take-starts}
pub use Rattle.link_ends.specs.Calls.{Sends}
pub use Rattle.link_ends.specs.Ends.{AreDistinct}
pub use Rattle.link_ends.specs.Fits.{Fits}
pub use Rattle.link_ends.specs.declared.ends.Outward.{Outward}
pub use Rattle.note_journal.specs.Journals.{JournalView}
pub use Rattle.actor_desk.specs.Calls.{DetachesOn, Does, Knows, LendsEnd, RedeemsOn, SubmitsOn}
pub use Rattle.actor_desk.specs.Ends.{IsOutOf, KeepsOut, KeepsOuts, KeepsSent, ShowsMore, name_of}
pub use Rattle.actor_desk.specs.Ends.{named_outcomes}
pub use Rattle.actor_desk.specs.Orders.{numbered_orders}
pub use Rattle.actor_desk.specs.Posts.{AreOutsOf, ArePosts, HasPosted, IsLent, PostView, SendsMore}
pub use Rattle.actor_desk.specs.Spending.{HoldsSome, Spends, booked, due_of, is_waiting, left_of}
pub use Rattle.actor_desk.specs.Submissions.{DeskView, IsWritten, Submits, numbered, opened_desk, terms_of_desk}
pub use Rattle.actor_desk.specs.Tickets.{CollectsFrom, DetachesTicket, GetsAll, GetsNext, HasLane, KnowsLane}
pub use Rattle.actor_desk.specs.Tickets.{KnowsLanes, RedeemsTicket, RefusesTicket, StaysBeside, is_let_go}
