-- The words of the crates below and of the specs of this one that these proofs use.
pub use Rattle.std.proofs.Common.{Bool, List, None, Some, [], add-zero, ap, append-nil, arith, cond, false, get_or, get_or-set_other, get_or-set_same, inl, inr, length, length-set, refl, set, subst, sym, true, ℕ, ⊎_elim, ◌++◌, ◌+◌, ◌<◌, ◌∙◌, ◌∷◌}
pub use Rattle.std.proofs.Common.{◌≡◌, ◌≤◌}
pub use Rattle.std.proofs.lemmas.Bool.{and_parts, cases_lt, false_from_ne_true, le-leb, lt-leb, or_parts, true≢false}
pub use Rattle.std.proofs.lemmas.Bool.Decides.{eqb_tells}
pub use Rattle.std.proofs.lemmas.List.{get_or_past, length-append, map-append}
pub use Rattle.std.proofs.lemmas.List.Elements.{All-append, All-cons, All-head, All-nil, All-tail}
pub use Rattle.std.proofs.lemmas.Option.{none-some, same_Some}
pub use Rattle.std.specs.Prelude.{Option, is_some, map, max, nat_le, nat_lt, not, slice_index_or, slice_set, unwrap_or, ◌&&◌, ◌==◌, ◌||◌, min, ◌-◌, ◌^◌}
pub use Rattle.actor_core.specs.Agreement.{Agrees, AgreesOnClosing, AreMarked, IsJobOut, IsKept, marks_told, names_of, names_parked, IsOpenTurn}
pub use Rattle.actor_core.specs.Figures.{Figures, figures_in, figures_noted, figures_of, figures_told, no_figures, plus, counted_up}
pub use Rattle.actor_core.specs.Polls.{poll_note}
pub use Rattle.core_core.specs.Closing.{HasClosed}
pub use Rattle.core_core.specs.Deliveries.{CountsAlone, Creates, Weighs, counted}
pub use Rattle.core_core.specs.State.{CoreView, JobOut, entry_runtime, is_any, is_working, no_tally, runtime_of, tally_of}
pub use Rattle.core_core.specs.Settling.{settled_view, stays}
pub use Rattle.core_core.specs.Turns.{IsNext}
pub use Rattle.core_core.specs.declared.tally.Tally.{Tally}
pub use Rattle.base_words.proofs.Counts.{queue_out-alone, queue_out-nobody}
pub use Rattle.base_words.proofs.Ended.{entered_somewhere}
pub use Rattle.base_words.proofs.JobsOut.{alone_out, jobs_out-done, jobs_out-park, jobs_out-resume, jobs_out-start, jobs_out-stayed, jobs_out-yield}
pub use Rattle.base_words.proofs.Known.{IsInside, Known, known_of, line_not_parked, not_old}
pub use Rattle.base_words.proofs.LineDistinct.{Distinct, apart_of, names_but-first, names_like-none, names_like-one}
pub use Rattle.base_words.proofs.LineSteps.{Sleeps, line-done, line-stayed, line-stayed_elsewhere, line-stays, line-took, line-took_elsewhere, line-turn, line-woken, parked-park, parked-park_elsewhere, parked-stays, woken_elsewhere}
pub use Rattle.base_words.proofs.LineSteps.{line-turn_elsewhere, line-yield, line-yield_elsewhere}
pub use Rattle.base_words.proofs.NameLemmas.{among, one_name, same_as_itself}
pub use Rattle.base_words.proofs.RuntimeSteps.{floor-stays, shares-created, shares-created_elsewhere, shares-set, shares-set_elsewhere, virtual_runtime-done, virtual_runtime-done_elsewhere, virtual_runtime-brought, virtual_runtime-busy}
pub use Rattle.base_words.proofs.RuntimeSteps.{virtual_runtime-park, virtual_runtime-park_elsewhere, virtual_runtime-stayed, virtual_runtime-stayed_elsewhere, virtual_runtime-stays, virtual_runtime-took_busy, virtual_runtime-took_elsewhere}
pub use Rattle.base_words.proofs.RuntimeSteps.{virtual_runtime-took_idle, virtual_runtime-yield, virtual_runtime-yield_elsewhere, virtual_runtime-in_turn, virtual_runtime-turned, virtual_runtime-turned_elsewhere}
pub use Rattle.base_words.proofs.Starts.{is_told-alone, is_told-start_elsewhere, started_of}
pub use Rattle.base_words.proofs.Told.{with_all-append}
pub use Rattle.base_words.proofs.Wakes.{is_wake_kept-elsewhere, is_wake_kept-ended, is_wake_kept-stayed, is_wake_kept-stayed_elsewhere, is_wake_kept-woken, keeps_wakes}
pub use Rattle.base_words.proofs.WorkOfLines.{has_work-line, right_pick_of_lines}
pub use Rattle.base_words.specs.Clauses.{queue_just_picked}
pub use Rattle.base_words.specs.Closing.{core_mode, core_mode_told, count_told, final_count, mode_told, queue_mode}
pub use Rattle.base_words.specs.Commands.{IsAnswer, IsOpening, created_count, effect_awaited, has_effect, queue_created, is_inside, job_at, reason_if_returning, refusal, return_reason, return_reason_of, stays_in_line}
pub use Rattle.base_words.specs.Filters.{delivered_names, if_from, name_ended, name_started}
pub use Rattle.base_words.specs.Journal.{EachNote, Journal, is_told, list_told, or_else, with_all, with_last}
pub use Rattle.base_words.specs.Keys.{KeyAtMost}
pub use Rattle.base_words.specs.Lawful.{IsEffectDue, IsNextDelivered, IsTurnOf, MayFollow, MayStand, MayWrite, takes_turn, may_go_on}
pub use Rattle.base_words.specs.Limits.{most_turns}
pub use Rattle.base_words.specs.Lines.{jobs_out, name_joining, name_leaving, name_polled, name_settled, names_but_for, line, queue_out}
pub use Rattle.base_words.specs.Names.{is_name, is_number, names_but, names_like, same_name}
pub use Rattle.base_words.specs.Parks.{ends_parks, is_parked, is_parked_in, is_return, is_wake_kept, name_parked, name_parking, parked, still_parked, unparked, wake_told}
pub use Rattle.base_words.specs.Picks.{IsRightPick, pick_count, turns}
pub use Rattle.base_words.specs.Runtimes.{brings_work, charge_noted, runtime_picked, shares, virtual_runtime}
pub use Rattle.base_words.specs.Terms.{Terms}
pub use Rattle.base_words.specs.Work.{has_work, number_if, queue_entered, queue_joined, queue_of}
pub use Rattle.base_words.specs.declared.names.JobId.{JobId}
pub use Rattle.base_words.specs.declared.note.Note.{Note}
pub use Rattle.base_words.specs.declared.note.Note.TheVariants.{Created}
pub use Rattle.base_words.specs.declared.order.Answer.{Answer}
pub use Rattle.base_words.specs.declared.order.Mode.{Mode}
pub use Rattle.base_words.specs.declared.order.Order.{Order}
pub use Rattle.base_words.specs.declared.order.Reason.{Reason}
pub use Rattle.base_words.specs.Charge.{InRange, charge, clamped}
pub use Rattle.core_queues.specs.Queues.{ChangesLine, ChangesParks, Line, Marks, Moves, Parks, QueuesView, awake, held_count, mode_of, no_queue, parked_of, queue_count, shares_of, waiting_of}
pub use Rattle.core_core.specs.Bursts.{FollowsOut, added_now, begun, lasted, longer, polled_again, settled_tally}
pub use Rattle.core_core.specs.declared.bursts.Bursts.{Bursts}
pub use Rattle.core_core.specs.declared.bursts.OpenTurn.{OpenTurn}
pub use Rattle.base_words.proofs.OpenTurns.{none_either}
pub use Rattle.base_words.proofs.TurnsOut.{begun_if_open, open_if_begun, turn_of_out}
pub use Rattle.base_words.specs.Bursts.{has_bursts, parts_turns, poll_count, polls_in_turn, queue_begun, queue_begun_last, queue_in_turn, time_in_turn, time_of_poll, time_summed, turn_told}
pub use Rattle.base_words.specs.Polls.{poll_settled}
