-- What the crates below and the specs of this one hand on to its proofs.
pub use Rattle.actor_core.proofs.OwedSteps.{closes_keep, collects_keep, delivers_keep, detaches_keep, ends_keep, picks_keep, sees_more_owed, shuts_keep, submits_keep}
pub use Rattle.actor_core.proofs.OwedTurns.{seen_got}
pub use Rattle.actor_core.specs.Deliveries.{entry_note, IsDelivery, with_effect}
pub use Rattle.actor_core.specs.Ends.{Gives, IsInOf, IsInOwing, IsSameSeat, KeepsIn, LeavesOwed}
pub use Rattle.actor_core.specs.Owed.{IsSentUnder, outcome_settled, owed_back}
pub use Rattle.actor_core.specs.OwedPolls.{HasOwedPolls, PollsAreOwed, seen_by}
pub use Rattle.actor_core.specs.Polls.{poll_note, settle_note}
pub use Rattle.actor_core.specs.Recorded.{desk_of, IsRecorded, order_taken, RecordedView, terms_at}
pub use Rattle.actor_core.specs.RightAnswers.{Seen}
pub use Rattle.actor_core.specs.Steps.{ClosesItself, Delivers, opened_beside, out_told, TellsShut, with_notes}
pub use Rattle.actor_core.specs.Turns.{EndsTurn, Follows, IsBack, IsFurther, IsHandBack, IsOut, IsOutUnder, IsPick, Picks, Settles}
pub use Rattle.actor_core.specs.Whole.{Begins, post_of, StaysPut}
pub use Rattle.actor_core.specs.declared.whole.Turned.{Turned}
pub use Rattle.actor_desk.proofs.Cores.{changed, IsUnused-fresh, unchanged}
pub use Rattle.actor_desk.proofs.LaneEnds.{fresh_has_lane}
pub use Rattle.actor_desk.specs.Calls.{Does}
pub use Rattle.actor_desk.specs.Ends.{IsOutOf, KeepsOuts}
pub use Rattle.actor_desk.specs.Lanes.{FitsSent, fresh_lane, IsGot, IsLaneOf, IsUnused}
pub use Rattle.actor_desk.specs.Posts.{AreOutsOf, ArePosts, HasPosted, SendsMore}
pub use Rattle.actor_desk.specs.Spending.{booked, HoldsSome, Spends}
pub use Rattle.actor_desk.specs.Submissions.{DeskView, IsWritten, numbered, opened_desk, Submits, terms_of_desk}
pub use Rattle.actor_desk.specs.Tickets.{AreCollected, CollectsFrom, DetachesTicket, GetsAll, HasLane, RedeemsTicket, StaysBeside}
pub use Rattle.actor_seat.specs.Bells.{AreApart, AreInPlace, bells_view, BellsView, BellView, HasRung, IsNamedFor, no_bell, NotesAreForLinks, once_more, rung_at, rung_at_some, rung_for, told_by}
pub use Rattle.actor_seat.specs.Bursts.{GoesThrough, MakesTurn, PollsOn, turn_view, TurnView}
pub use Rattle.actor_seat.specs.Linked.{AreBeside, AreOwing, Grows, IsLinked, LinkedView, PollsAsOwed, RunsOn, SeesNoLess, SendsOn, StaysLinked}
pub use Rattle.actor_seat.specs.Opening.{AreEndsOf, CreatesSince, IsOpenedOver}
pub use Rattle.actor_seat.specs.OutsideSeats.{IsSeatedOutside, OutsideView, UsesOutside}
pub use Rattle.actor_seat.specs.Queues.{is_opening, opening_of}
pub use Rattle.actor_seat.specs.Seats.{DetachesOn, IsSeated, PicksTaken, RedeemsOn, SubmitsOn, taken_of, UsesOut}
pub use Rattle.actor_seat.specs.Steps.{CollectsOf, DeliversFrom, PollsFirst, PollsFurther, PollsOne, ShutsGate}
pub use Rattle.actor_seat.specs.Wakes.{RefusesOwnWake, SendsOwnWake, WakesOwn}
pub use Rattle.actor_seat.specs.declared.seat.Taken.{Taken}
pub use Rattle.base_jobs.specs.Meanings.{Meaning}
pub use Rattle.base_jobs.specs.Steps.{AfterPoll, OwesAt}
pub use Rattle.base_words.specs.Assembly.{IsPrefix}
pub use Rattle.base_words.specs.Bursts.{has_bursts, polls_in_turn}
pub use Rattle.base_words.specs.Closing.{core_mode, final_count}
pub use Rattle.base_words.specs.Commands.{effect_note, IsOpening, refusal}
pub use Rattle.base_words.specs.Filters.{if_from}
pub use Rattle.base_words.specs.Journal.{Journal}
pub use Rattle.base_words.specs.Orders.{without_job}
pub use Rattle.base_words.specs.Outcomes.{outcome_note}
pub use Rattle.base_words.specs.Outstanding.{outstanding_count}
pub use Rattle.base_words.specs.Terms.{Terms}
pub use Rattle.base_words.specs.declared.names.JobId.{JobId}
pub use Rattle.base_words.specs.declared.names.TicketError.{TicketError}
pub use Rattle.base_words.specs.declared.note.Note.{Note}
pub use Rattle.base_words.specs.declared.note.OutcomeNote.{OutcomeNote}
pub use Rattle.base_words.specs.declared.order.Answer.{Answer}
pub use Rattle.base_words.specs.declared.order.Mode.{Mode}
pub use Rattle.base_words.specs.declared.order.Order.{Order}
pub use Rattle.base_words.specs.declared.order.Outcome.{Outcome}
pub use Rattle.base_words.specs.declared.order.Reason.{Reason}
pub use Rattle.base_words.specs.declared.order.SendError.{SendError}
pub use Rattle.core_core.specs.Answers.{IsReadyTurn}
pub use Rattle.core_core.specs.Whole.{TellsAhead}
pub use Rattle.core_core.specs.declared.turn.PickError.{PickError}
pub use Rattle.core_core.specs.declared.turn.Settled.{Settled}
pub use Rattle.core_core.specs.declared.turn.Turn.{Turn}
pub use Rattle.link_ends.specs.Calls.{Sends, Shuts}
pub use Rattle.link_ends.specs.Fits.{Fits}
pub use Rattle.link_ends.specs.Whole.{fresh, inward_of, out_of}
pub use Rattle.link_ends.specs.declared.ends.Inward.{Inward}
pub use Rattle.link_ends.specs.declared.ends.Outward.{Outward}
pub use Rattle.link_ring.proofs.Using.{ends_along, ends_same, in_used, out_used}
pub use Rattle.link_ring.specs.Ends.{AreFresh, EndsView, in_at, IsFreshOut, no_in, no_out, out_at, SameEnds}
pub use Rattle.link_ring.specs.Lending.{with_in, with_out}
pub use Rattle.link_ring.specs.Reached.{ends_reach}
pub use Rattle.link_ring.specs.declared.ring_in.Receiving.{Receiving}
pub use Rattle.link_ring.specs.declared.ring_out.Sending.{Sending}
pub use Rattle.note_journal.specs.Journals.{free_notes, JournalView, places_of}
pub use Rattle.note_journal.specs.Passing.{PassesOn}
pub use Rattle.note_journal.specs.declared.sink.Refused.{Refused}
pub use Rattle.std.proofs.Common.{ap, ap₂, arith, cond, drop, get_or, get_or-set_other, get_or-set_same, if◌then◌else◌, inl, inr, length, length-set, List, map, refl, replicate, set, subst, suc, sym, take, zero, ℕ, [], ⊎_elim, ◌*◌, ◌++◌}
pub use Rattle.std.proofs.Common.{◌+◌, ◌-◌, ◌<◌, ◌∙◌, ◌∷◌, ◌≡◌, ◌≢◌, ◌≤◌, ◌⊎◌}
pub use Rattle.std.proofs.Math.Seq.{drop-append_seam, get_or-append_seam, map-set_same}
pub use Rattle.std.proofs.lemmas.Bool.{cases_eq, eq-eqb, ne_eqb}
pub use Rattle.std.proofs.lemmas.Bool.Decides.{eqb_tells}
pub use Rattle.std.proofs.lemmas.List.{append_assoc, get_or-map, get_or_append_left, get_or_default, length-append, length-map, length-replicate, length-reverse, map-append, map-set, replicate-append-replicate, reverse-append, set-get_or}
pub use Rattle.std.proofs.lemmas.List.{take_more}
pub use Rattle.std.proofs.lemmas.Option.{get_or_from_slice_get, slice_get-get_or, slice_get_within}
pub use Rattle.std.proofs.lemmas.Result.{on_err_weaker}
pub use Rattle.std.specs.Prelude.{Bool, Err, false, IfOk, is_some, IsSome, None, Ok, OnErr, Option, Result, reverse, slice_get, slice_index_or, Some, true, unwrap_or, ◌==◌, ◌||◌}
