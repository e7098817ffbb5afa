-- What the crates below and the specs of this one hand on to its proofs.
pub use Rattle.arrayvec.specs.ArrayVec.{array_vec_len}
pub use Rattle.base_jobs.specs.Calls.{Call}
pub use Rattle.base_jobs.specs.Meanings.{IsMeaning, Meaning}
pub use Rattle.base_jobs.specs.Ready.{HasReadyJob, IsReady}
pub use Rattle.base_jobs.specs.Steps.{AfterPoll, IfDone, IfUndone, is_done_step}
pub use Rattle.base_jobs.specs.declared.job.Step.{Step}
pub use Rattle.base_words.proofs.NameLemmas.{one_name}
pub use Rattle.base_words.specs.Bursts.{has_bursts}
pub use Rattle.base_words.specs.Charge.{charge, clamped, placed}
pub use Rattle.base_words.specs.Closing.{closes}
pub use Rattle.base_words.specs.Commands.{job_at, reason_if_closed, reason_if_returning}
pub use Rattle.base_words.specs.Journal.{or_else}
pub use Rattle.base_words.specs.Keys.{KeyAtMost}
pub use Rattle.base_words.specs.Names.{is_name, is_number}
pub use Rattle.base_words.specs.Work.{number_if}
pub use Rattle.base_words.specs.declared.names.JobId.{JobId}
pub use Rattle.base_words.specs.declared.names.Key.{Key}
pub use Rattle.base_words.specs.declared.note.Note.{Note}
pub use Rattle.base_words.specs.declared.order.Answer.{Answer}
pub use Rattle.base_words.specs.declared.order.Mode.{Mode}
pub use Rattle.base_words.specs.declared.order.Reason.{Reason}
pub use Rattle.core_core.specs.Answers.{AnswersOut, IsReadyTurn, IsTaskOut}
pub use Rattle.core_core.specs.Bursts.{begun, FollowsOut, GoesOn, held_by, IsOver, KeepsTurn, lasted, longer, may_go_on, polled_again, queue_held, queue_open, settled_tally}
pub use Rattle.core_core.specs.Closing.{ClosesCore, ClosesQueue, EndsParks, IsDrained, refusal, return_reason, still_parked, tally_woken, unparked}
pub use Rattle.core_core.specs.Deliveries.{counted, CountsAlone, Creates, CreatesQueue, Delivers}
pub use Rattle.core_core.specs.Figures.{queue_stats}
pub use Rattle.core_core.specs.Further.{follow_notes, Follows, FollowsWhole, IsAheadInTurn, TurnsFurther}
pub use Rattle.core_core.specs.Inside.{core_view, FitsTurns, IsCore, IsListed, IsPollable, IsWithinTurns, job_out, KeepsCounts, KeepsSlips, may_run, runtime_listed, unsettled_count}
pub use Rattle.core_core.specs.Relisted.{keys_after, relisted, slips_after}
pub use Rattle.core_core.specs.Senders.{AreThrough, awaited_count, is_awaited, senders_view, SendersView}
pub use Rattle.core_core.specs.Settling.{settled_view, Settles, SettlesOut, stays}
pub use Rattle.core_core.specs.State.{CoreView, entry_runtime, inside_count, is_any, is_working, IsBounded, JobOut, no_tally, out_count, queue_out, runtime_of, tally_of}
pub use Rattle.core_core.specs.Steps.{FinishesOut, IsOutOf, ParksOut, RejoinsOut, RestsOut, ReturnsOut}
pub use Rattle.core_core.specs.Turns.{HandsBack, IsNext, Picks, TakesOut}
pub use Rattle.core_core.specs.Waking.{EndsPark, is_out, name_out, Wakes}
pub use Rattle.core_core.specs.Whole.{goes_out, IsAhead, pick_notes, settle_notes, settled_of, SettlesStep, TurnsFirst, TurnsWhole}
pub use Rattle.core_core.specs.declared.bursts.Bursts.{Bursts}
pub use Rattle.core_core.specs.declared.bursts.OpenTurn.{OpenTurn}
pub use Rattle.core_core.specs.declared.delivery.Delivered.{Delivered}
pub use Rattle.core_core.specs.declared.out.Out.{Out}
pub use Rattle.core_core.specs.declared.senders.Sender.{Sender}
pub use Rattle.core_core.specs.declared.tally.Tally.{Tally}
pub use Rattle.core_core.specs.declared.turn.Settled.{Settled}
pub use Rattle.core_queues.proofs.QueuesLemmas.{held_count_all_empty, held_of-le-held_count, parked_of-past, parked_of_none_held, queue_exists_where_parked, waiting_of_none_held}
pub use Rattle.core_queues.specs.Fronts.{IsFrontReady, JoinsAgain, ParksOrStays, TurnsFront}
pub use Rattle.core_queues.specs.Parks.{ChangesParks, Moves}
pub use Rattle.core_queues.specs.Queues.{AddsQueue, awake, ChangesLine, ChangesMode, ChangesShares, first_queue, held_count, held_in, IsWithinLimits, Line, Marks, mode_of, no_queue, parked_of, Parks, queue_count, QueuesView, QueueView}
pub use Rattle.core_queues.specs.Queues.{shares_of, waiting_of}
pub use Rattle.core_queues.specs.Slips.{queues_alone, SlippedView}
pub use Rattle.core_queues.specs.Waking.{HoldsNone, KeepsWake, WakesParked}
pub use Rattle.core_queues.specs.declared.queues.CreateError.{CreateError}
pub use Rattle.core_timeline.specs.Rising.{EachKey, first_key, inserted, IsRising, LacksQueue, stands_before, StandsBefore}
pub use Rattle.core_timeline.specs.Tree.{KeyTree}
pub use Rattle.std.proofs.Common.{ap, arith, Bool, cond, drop, eqb, Err, false, get_or, inl, inr, length, length-append, length-set, List, map, max, min, None, Ok, Option, refl, Result, set, slice_get, Some, subst, suc, sym, true, zero, ℕ}
pub use Rattle.std.proofs.Common.{[], ⊎_elim, ◌*◌, ◌++◌, ◌+◌, ◌-◌, ◌<◌, ◌^◌, ◌↔◌, ◌∙◌, ◌∷◌, ◌≡◌, ◌≢◌, ◌≤◌}
pub use Rattle.std.proofs.lemmas.Bool.{cases_eq, cases_lt, eq-eqb, eqb-true, le-ltb, lt-ltb, ltb-false, ltb-true, true≢false}
pub use Rattle.std.proofs.lemmas.Bool.Decides.{eqb_tells}
pub use Rattle.std.proofs.lemmas.List.{append-nil, get_or-set_other, get_or-set_same, get_or_append_left, get_or_past, get_or_push, get_or_read, length-map, length-replicate, length_push, map-set, set-get_or, set-set}
pub use Rattle.std.proofs.lemmas.List.Elements.{All-append, All-cons, All-get_or, All-head, All-map, All-nil, All-push, All-same, All-set, All-tail, All-weaker}
pub use Rattle.std.proofs.lemmas.List.Sums.{sum_by-cons, sum_by-set}
pub use Rattle.std.specs.Prelude.{All, IfSome, is_some, IsSome, nat_lt, not, replicate, slice_index_or, slice_set, unwrap_or, ◌&&◌, ◌==◌, ◌||◌, ◌⊎◌}
