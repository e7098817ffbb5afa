-- The words of the crates below and of the specs of this one that these proofs use.
pub use Rattle.std.proofs.Common.{zero-add, ◌^◌}
pub use Rattle.std.proofs.lemmas.Bool.{eqb-true}
pub use Rattle.std.proofs.lemmas.List.{length-map, length-reverse}
pub use Rattle.std.proofs.lemmas.Option.{slice_get-map}
pub use Rattle.std.specs.Option.{option_map}
pub use Rattle.std.specs.Prelude.{All, sum_by}
pub use Rattle.actor_core.proofs.AgreementNames.{ChangesParks, Line, Marks, Parks, alone_out, awake, held_count, is_parked, ◌&&◌, is_inside, is_return, job_at, stays_in_line, is_wake_kept, keeps_wakes, marks_told, names_parked, parked, parked_of}
pub use Rattle.actor_core.proofs.AgreementNames.{Agrees, All-append, All-cons, All-head, All-nil, All-tail, Answer, AreMarked, ChangesLine, CoreView, Creates, HasClosed, InRange, IsAnswer, IsJobOut, IsKept, IsNextDelivered, IsOpening, JobOut}
pub use Rattle.actor_core.proofs.AgreementNames.{KeyAtMost, Mode, QueuesView, Reason, Weighs, add-zero, among, apart_of, cases_lt, core_mode, counted, created_count, delivered_names, figures_of, final_count, has_effect, has_work, if_from, jobs_out}
pub use Rattle.actor_core.proofs.AgreementNames.{known_of, le-leb, line, lt-leb, mode_of, most_turns, name_settled, names_of, no_figures, none-some, number_if, or_else, or_parts, pick_count, poll_note, queue_count, queue_mode, refusal, runtime_of}
pub use Rattle.actor_core.proofs.AgreementNames.{same_Some, settled_view, shares, slice_set, turns, waiting_of, ⊎_elim}
pub use Rattle.actor_core.specs.Polls.{polls_made, settle_note}
pub use Rattle.core_core.proofs.AheadTaken.{ahead_picks}
pub use Rattle.core_core.proofs.Turned.{some_front}
pub use Rattle.core_core.specs.Answers.{IsTaskOut}
pub use Rattle.core_core.specs.Closing.{ClosesCore, ShutsGate}
pub use Rattle.core_core.specs.Deliveries.{CreatesQueue as CoreCreates, Delivers as CoreDelivers, Enters}
pub use Rattle.core_core.specs.State.{gate_of, inside_count, opened}
pub use Rattle.core_core.specs.Settling.{Settles as CoreSettles, stays}
pub use Rattle.core_core.specs.Turns.{Picks as CorePicks, HandsBack, TakesOut}
pub use Rattle.core_core.specs.Whole.{IsAhead, TellsAhead, TurnsWhole, goes_out, pick_notes, settle_notes, settled_of}
pub use Rattle.core_core.specs.declared.delivery.Delivered.{Delivered}
pub use Rattle.core_core.specs.declared.delivery.Delivered.TheVariants.{Took}
pub use Rattle.core_core.specs.declared.turn.PickError.{PickError}
pub use Rattle.core_core.specs.declared.turn.PickError.TheVariants.{Busy}
pub use Rattle.core_core.specs.declared.turn.Settled.{Settled}
pub use Rattle.core_core.specs.declared.turn.Settled.TheVariants.{Finished, Parked, Stayed, Yielded}
pub use Rattle.core_core.specs.declared.turn.Turn.{Turn}
pub use Rattle.core_core.specs.declared.turn.Turn.TheVariants.{Idle, Resume, Start}
pub use Rattle.base_words.proofs.Known.{IsOld}
pub use Rattle.base_words.proofs.Told.{grows, length-with_last_if}
pub use Rattle.base_words.proofs.WorkOfLines.{no_work, work_of_line}
pub use Rattle.base_words.specs.Assembly.{Assembly, IsPrefix, journal_of, order_of}
pub use Rattle.base_words.specs.Closing.{IsNextShut, closes}
pub use Rattle.base_words.specs.Filters.{given_outcomes, name_delivered, name_ended, outcome_given}
pub use Rattle.base_words.specs.Joining.{AreJoined, CarriesOut, DeliversAs, DeliversAsSent, LinksAgree}
pub use Rattle.base_words.specs.Lawful.{IsLawful}
pub use Rattle.base_words.specs.Terms.{terms_of}
pub use Rattle.base_words.specs.declared.names.TicketError.TheVariants.{Pending}
pub use Rattle.base_words.specs.declared.note.Note.TheVariants.{Done, Pick, Returned, Yield}
pub use Rattle.base_words.specs.declared.order.Envelope.{Envelope}
pub use Rattle.base_words.specs.declared.order.Order.TheVariants.{Close, CloseCore, Create, Job, SetShares, Wake}
pub use Rattle.base_jobs.specs.Meanings.{Meaning, IsMeaning}
pub use Rattle.base_jobs.specs.Steps.{AfterPoll, IfDone, IfUndone, OwesOn}
pub use Rattle.base_jobs.specs.declared.job.Step.{Step}
pub use Rattle.actor_core.specs.Deliveries.{IsDelivery, entry_note, outcome_delivered}
pub use Rattle.actor_core.specs.Ends.{Gives, GivesMore, IsInOf, IsInOwing, IsSameSeat, IsUngiven, KeepsIn, LeavesOwed, told_under}
pub use Rattle.actor_core.specs.Owed.{IsSentUnder, OwesSettled, outcome_settled, owed_back}
pub use Rattle.actor_core.specs.Recorded.{HasTask, HaveTasks, IsHeld, IsRecorded, IsTaken, OwesAfter, RecordedView, delivered_count, desk_of, given_count, note_taken, order_taken, sum_upto, terms_at}
pub use Rattle.actor_core.specs.Steps.{ClosesItself, CreatesQueue, Delivers, IsNextIn, Receives, TellsShut, opened_beside, out_told, with_notes}
pub use Rattle.actor_core.specs.Together.{AreTogether, IsAssemblyOf}
pub use Rattle.actor_core.specs.Turns.{EndsTurn, Follows, IsFurther, NothingFollows, IsBack, IsHandBack, IsOut, IsOutUnder, IsPick, IsPolled, Picks, Settles}
pub use Rattle.actor_core.specs.Whole.{IsPostingTurn, MayAnswer, StaysPut, TurnsNoted, post_of}
pub use Rattle.link_ends.specs.Calls.{MayGive, SeesMore, Shuts, Takes, final_of}
pub use Rattle.link_ends.specs.Ends.{AreNamed, Joined, SoundIn}
pub use Rattle.link_ends.specs.declared.ends.Inward.{Inward}
pub use Rattle.actor_desk.proofs.Names.{AreOutsOf, ArePosts, Bool, Call, Closed, CollectsFrom, DeskView, DetachesTicket, Does, Doing, EachNote, Err, Fits, Full, Gone, HasPosted, IfSome, IsOutOf, IsSome, IsSpelledOrder, IsWritten, JobId, Journal}
pub use Rattle.actor_desk.proofs.Names.{KeepsOuts, KeepsSent, Lane, List, Makes, MayFollow, MayStand, MayWrite, NoCore, None, Note, Ok, Option, Order, Outcome, OutcomeNote, Outward, PostView, RedeemsTicket, Result, SendError, Some, Submits, Terms}
pub use Rattle.actor_desk.proofs.Names.{TicketError, Unknown, [], accepted_orders, ap, arith, booked, collected_outcomes, cond, effect_awaited, eq-eqb, eqb_tells, false, false_from_ne_true, first_under, get_or, get_or-replicate, inl, inr, is_name}
pub use Rattle.actor_desk.proofs.Names.{is_some, is_told, length, length-append, length-replicate, map-append, name_of, named_outcomes, ne_eqb, numbered_orders, one_name, opened_desk, outcome_note, outstanding_count, refl, reverse, same_as_itself}
pub use Rattle.actor_desk.proofs.Names.{same_name, slice_get, slice_get_within, subst, suc, sym, take, terms_of_desk, true, true≢false, unwrap_or, with_last, without_job, zero, ℕ, ◌*◌, ◌++◌, ◌+◌, ◌-◌, ◌<◌, ◌==◌, ◌∙◌, ◌∷◌, ◌≡◌, ◌≢◌, ◌≤◌, ◌⊎◌}
pub use Rattle.actor_desk.proofs.OutEnds.{keeps_outs}
pub use Rattle.actor_desk.proofs.Posting.{made_parts, posted_made, posted_rest}
pub use Rattle.actor_desk.specs.Posts.{lends}
pub use Rattle.actor_desk.specs.Submissions.{desk_with}
pub use Rattle.actor_desk.specs.Tickets.{AreCollected}
pub use Rattle.core_queues.specs.declared.queues.CreateError.{CreateError}
pub use Rattle.core_queues.specs.declared.queues.CreateError.TheVariants.{Memory, TooMany}
