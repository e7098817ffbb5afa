-- What the crates below and the specs of this one hand on to its proofs.
pub use Rattle.base_words.specs.Asleep.{asleep}
pub use Rattle.base_words.specs.Assembly.{Assembly, first_under, is_command, IsAcceptedCommand, IsAcceptedJob, IsPrefix, journal_of, names_of, order_of, outcome_of}
pub use Rattle.base_words.specs.BadBursts.{BurstsAreRefused, BurstsAreUnsound}
pub use Rattle.base_words.specs.BadCloses.{ClosesAreRefused}
pub use Rattle.base_words.specs.BadClosings.{ClosingsAreRefused, creation_answered}
pub use Rattle.base_words.specs.BadCollects.{CollectsAreRefused}
pub use Rattle.base_words.specs.BadJournals.{both_taken, core_terms, outside_terms, submission}
pub use Rattle.base_words.specs.BadLinks.{LinksAreRefused}
pub use Rattle.base_words.specs.BadOrder.{OrderIsRefused}
pub use Rattle.base_words.specs.BadOutcomes.{OutcomesAreRefused}
pub use Rattle.base_words.specs.BadParks.{ParksAreRefused}
pub use Rattle.base_words.specs.BadRanges.{RangesAreRefused}
pub use Rattle.base_words.specs.BadStarts.{StartsAreRefused}
pub use Rattle.base_words.specs.BadTurns.{polled_more, TurnsAreRefused}
pub use Rattle.base_words.specs.BadWakes.{WakesAreRefused}
pub use Rattle.base_words.specs.Bursts.{has_bursts, parts_turns, poll_count, polls_in_turn, queue_begun_last, queue_in_turn, queue_just_picked, time_in_turn, time_of_poll, time_summed, turn_told}
pub use Rattle.base_words.specs.Charge.{charge, clamped, InRange}
pub use Rattle.base_words.specs.Clauses.{IsAcceptedInside, IsFurtherPoll, IsInItsTurn, IsOfNoParkedJob, IsOfTheJobOut, IsOfTheTurn, IsRightIfPick, name_answered, OutcomesRight, PicksRight, queue_served, RespectsCloses, return_told}
pub use Rattle.base_words.specs.Clauses.{StandsInOrder, StartsRight, takes_turn}
pub use Rattle.base_words.specs.Closing.{closes, core_mode, final_count, IsDrained, queue_mode}
pub use Rattle.base_words.specs.Commands.{created_count, effect_awaited, effect_note, has_effect, is_inside, IsAnswer, IsCreationAnswer, IsEffectDue, IsOpening, job_at, queue_created, reason_if_closed, reason_if_returning, refusal}
pub use Rattle.base_words.specs.Commands.{return_reason, return_reason_of, stays_in_line}
pub use Rattle.base_words.specs.Drained.{EachEndedOnce, times_told}
pub use Rattle.base_words.specs.Filters.{accepted_orders, collected_outcomes, delivered_names, finishes, given_outcomes, if_from, name_delivered, name_ended, name_started, order_sent, outcome_collected, Outcomes, returns, starts}
pub use Rattle.base_words.specs.GoodJournals.{answered_all, both_returned, closing, commanded, commanded_core, detached_one, drained_core, DrainedIsSound, emptied, ended, going_on, IsServed, one_returned, returning, returning_core, served}
pub use Rattle.base_words.specs.GoodParks.{alone, closed_over, first_parked, first_woken, handed_back, own, ParkingIsSound, stayed, taken_beside, two_taken, wake_kept, woken_early, woken_later}
pub use Rattle.base_words.specs.HandBacks.{ClosingHandsBack, CoreEmpties, is_hand_back, jobs_below, jobs_inside, picks_of, queue_picked, QueueEmpties, QueueHandsBack}
pub use Rattle.base_words.specs.Joining.{AreJoined, DeliversAsSent, LinksAgree}
pub use Rattle.base_words.specs.Journal.{at_place, EachNote, is_told, Journal, latest_told, list_told, or_else, with_all, with_last}
pub use Rattle.base_words.specs.Keys.{KeyAtMost}
pub use Rattle.base_words.specs.Lag.{gained, greatest_charge, KeepsWork}
pub use Rattle.base_words.specs.Lawful.{GoesOn, IsLawful, IsNextDelivered, IsNextSent, IsTurnEnd, IsTurnOf, MayFollow, MayStand}
pub use Rattle.base_words.specs.Laws.{IsNoLowerPick, JobsAddUp}
pub use Rattle.base_words.specs.Limits.{most_queues, most_turns}
pub use Rattle.base_words.specs.Lines.{jobs_out, line, name_joining, name_leaving, name_polled, name_settled, names_but, names_but_for, queue_of_first, queue_out}
pub use Rattle.base_words.specs.Names.{among, is_name, is_number, names_like, same_name}
pub use Rattle.base_words.specs.Outcomes.{AnswersClosing, AnswersCoreClosing, AnswersCreation, AnswersShares, AnswersWaking, FitsOrder, IsSpelledAnswer, IsSpelledOutcome}
pub use Rattle.base_words.specs.Outstanding.{name_collected, name_detached, name_redeemed}
pub use Rattle.base_words.specs.Parks.{ends_parks, is_parked, is_return, is_wake_kept, kept_unless, name_parked, name_parking, name_woken, parked, still_parked, unparked}
pub use Rattle.base_words.specs.Picks.{IsRightPick, pick_count, turns}
pub use Rattle.base_words.specs.PicksRefused.{PicksAreRefused}
pub use Rattle.base_words.specs.Polls.{poll_settled}
pub use Rattle.base_words.specs.Runtimes.{brings_work, charge_noted, charge_of, floor, place_noted, poll_charged, runtime_picked, shares, shares_told, turn_charged, virtual_runtime}
pub use Rattle.base_words.specs.Sound.{AllEnded, IsSound}
pub use Rattle.base_words.specs.Spelled.{AreSpelledNotes, IsBackReason, IsOwn, IsReceived, IsReturnReason, IsSpelled, IsSpelledNote, IsWithinLimits}
pub use Rattle.base_words.specs.StepsRefused.{StepsAreRefused}
pub use Rattle.base_words.specs.Sums.{begun_count, settled_count, waiting_count}
pub use Rattle.base_words.specs.Terms.{Terms, terms_of}
pub use Rattle.base_words.specs.Work.{entered_count, has_work, left_count, number_if, queue_entered, queue_joined, queue_of}
pub use Rattle.base_words.specs.declared.names.JobId.{JobId}
pub use Rattle.base_words.specs.declared.note.Note.{Note}
pub use Rattle.base_words.specs.declared.note.OutcomeNote.{OutcomeNote}
pub use Rattle.base_words.specs.declared.order.Answer.{Answer}
pub use Rattle.base_words.specs.declared.order.Mode.{Mode}
pub use Rattle.base_words.specs.declared.order.Order.{Order}
pub use Rattle.base_words.specs.declared.order.Reason.{Reason}
pub use Rattle.std.proofs.Common.{ap, append-nil, append_assoc, arith, Bool, cond, drop, false, get_or, get_or-set_other, get_or-set_same, inl, inr, length, length-append, List, refl, replicate, set, subst, suc, sym, take, true, zero, ℕ}
pub use Rattle.std.proofs.Common.{[], ◌*◌, ◌++◌, ◌+◌, ◌-◌, ◌<◌, ◌∙◌, ◌∷◌, ◌≡◌, ◌≤◌, ◌⊎◌}
pub use Rattle.std.proofs.Math.Nat.{div-lt_iff_lt-mul}
pub use Rattle.std.proofs.lemmas.Bool.{and_parts, cases_eq, cases_lt, eq-eqb, eqb-false, eqb-true, false_from_ne_true, le-ltb, leb-false, leb-true, lt-ltb, ltb-false, ltb-true, ne_eqb, or_cases, or_left, or_parts, or_right, true≢false}
pub use Rattle.std.proofs.lemmas.List.{length-map, map-append, take-append-drop}
pub use Rattle.std.proofs.lemmas.List.Filters.{length-filter_both}
pub use Rattle.std.proofs.lemmas.Option.{same_Some, slice_get_past}
pub use Rattle.std.specs.Option.{IsSome}
pub use Rattle.std.specs.Prelude.{is_some, IsTrue, map, max, min, nat_le, nat_lt, None, not, Option, reverse, slice_get, Some, unwrap_or, ◌&&◌, ◌==◌, ◌^◌, ◌||◌}
