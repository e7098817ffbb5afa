-- What the crates below and the specs of this one hand on to its proofs.
pub use Rattle.actor_core.proofs.Ahead.{all_used, idle, works}
pub use Rattle.actor_core.proofs.StatsTold.{finished-within}
pub use Rattle.actor_core.proofs.Sums.{sum_upto-one_more, sum_upto-same}
pub use Rattle.actor_core.specs.Deliveries.{entry_note, IsDelivery, with_effect}
pub use Rattle.actor_core.specs.Ends.{Gives, IsInOf, IsSameSeat}
pub use Rattle.actor_core.specs.Polls.{poll_note, settle_note}
pub use Rattle.actor_core.specs.Recorded.{delivered_count, desk_of, given_count, IsRecorded, RecordedView, sum_upto, terms_at}
pub use Rattle.actor_core.specs.Rooms.{HasTurnRoom}
pub use Rattle.actor_core.specs.Stats.{AreExact}
pub use Rattle.actor_core.specs.Steps.{ClosesItself, Delivers, opened_beside, Receives}
pub use Rattle.actor_core.specs.Together.{AreTogether, IsAssemblyOf}
pub use Rattle.actor_core.specs.declared.whole.Turned.{Turned}
pub use Rattle.actor_desk.specs.Ends.{IsOutOf, name_of}
pub use Rattle.actor_desk.specs.Posts.{ArePosts}
pub use Rattle.actor_desk.specs.Spending.{left_of}
pub use Rattle.actor_desk.specs.Submissions.{IsWritten, terms_of_desk}
pub use Rattle.actor_desk.specs.Tickets.{AreCollected}
pub use Rattle.actor_seat.proofs.Along.{grows_along, grows_same, runs_along, runs_same, runs_stays, seat_along, seat_same, sees_same, stays_along, stays_same}
pub use Rattle.actor_seat.proofs.Fewer.{collected_few, delivered_few, delivery_short}
pub use Rattle.actor_seat.proofs.Growing.{no_shorter}
pub use Rattle.actor_seat.proofs.Opened.{created_more, created_none, opened_linked}
pub use Rattle.actor_seat.proofs.Openings.{opening_all}
pub use Rattle.actor_seat.proofs.Passed.{all_passed, has_passed, same_notes, same_places, still_free}
pub use Rattle.actor_seat.proofs.PollNotes.{begun, pick_behind, pick_noted, poll_grows, writes_first, writes_further, WritesPoll}
pub use Rattle.actor_seat.proofs.Rung.{rung_along, rung_behind}
pub use Rattle.actor_seat.specs.Bells.{AreApart, BellsView, BellView, HasRung, once_more, rung_for}
pub use Rattle.actor_seat.specs.Bursts.{EndsOpenTurn, GoesThrough, MakesTurn, PollsOn, turn_view, TurnView}
pub use Rattle.actor_seat.specs.Linked.{Grows, IsBetweenTurns, IsLinked, LinkedView, RunsOn, SeesNoLess, StaysLinked}
pub use Rattle.actor_seat.specs.Opening.{CreatesSince, IsOpenedOver}
pub use Rattle.actor_seat.specs.OutsideSeats.{OutsideView}
pub use Rattle.actor_seat.specs.Queues.{is_opening, opening_of}
pub use Rattle.actor_seat.specs.Steps.{CollectsOf, DeliversFrom, HandsBack, HasNoTurn, ShutsGate}
pub use Rattle.actor_seat.specs.Together.{no_linked, worker_at}
pub use Rattle.base_jobs.specs.Meanings.{Meaning}
pub use Rattle.base_words.proofs.Returning.{core_stays_returning, has_reason, nobody_enters}
pub use Rattle.base_words.specs.Assembly.{Assembly, journal_of}
pub use Rattle.base_words.specs.Bursts.{has_bursts, polls_in_turn, queue_begun_last, queue_in_turn}
pub use Rattle.base_words.specs.Closing.{closes, core_mode, core_mode_told, count_told, final_count, IsDrained}
pub use Rattle.base_words.specs.Commands.{created_count, effect_awaited, effect_note, IsOpening, refusal}
pub use Rattle.base_words.specs.Filters.{given_outcomes, if_from}
pub use Rattle.base_words.specs.Journal.{EachNote, Journal, latest_told, or_else, with_last}
pub use Rattle.base_words.specs.Lawful.{MayStand}
pub use Rattle.base_words.specs.Lines.{jobs_out, names_but}
pub use Rattle.base_words.specs.Outcomes.{outcome_note}
pub use Rattle.base_words.specs.Picks.{turns}
pub use Rattle.base_words.specs.Stats.{stats_of}
pub use Rattle.base_words.specs.Terms.{Terms}
pub use Rattle.base_words.specs.Work.{has_work, number_if}
pub use Rattle.base_words.specs.declared.names.JobId.{JobId}
pub use Rattle.base_words.specs.declared.note.Note.{Note}
pub use Rattle.base_words.specs.declared.order.Answer.{Answer}
pub use Rattle.base_words.specs.declared.order.Mode.{Mode}
pub use Rattle.base_words.specs.declared.order.Order.{Order}
pub use Rattle.base_words.specs.declared.order.Outcome.{Outcome}
pub use Rattle.base_words.specs.declared.order.Reason.{Reason}
pub use Rattle.base_words.specs.declared.stats.QueueStats.{QueueStats}
pub use Rattle.core_core.proofs.Turned.{some_front}
pub use Rattle.core_core.specs.declared.turn.Settled.{Settled}
pub use Rattle.core_queues.specs.Queues.{waiting_of}
pub use Rattle.link_ends.specs.Calls.{final_of}
pub use Rattle.link_ends.specs.Ends.{SoundIn}
pub use Rattle.link_ends.specs.declared.ends.Inward.{Inward}
pub use Rattle.link_ring.proofs.Using.{ends_same}
pub use Rattle.link_ring.specs.Ends.{EndsView, in_at, no_in, no_out, out_at, SameEnds}
pub use Rattle.link_ring.specs.Grid.{ends_at, no_ends}
pub use Rattle.note_journal.specs.Journals.{JournalView, places_of}
pub use Rattle.note_journal.specs.Passing.{IsAsked, PassesOn}
pub use Rattle.note_journal.specs.declared.sink.Refused.{Refused}
pub use Rattle.run_config.proofs.Counts.{queues_away, queues_here, queues_none}
pub use Rattle.run_config.specs.Configs.{Entry, least_room, queues_of}
pub use Rattle.run_watch.proofs.Closed.{stays-told}
pub use Rattle.run_watch.specs.Closed.{closed_by_itself}
pub use Rattle.run_watch.specs.declared.publisher.Publishing.{Publishing}
pub use Rattle.run_worker.specs.Again.{LooksAgain}
pub use Rattle.run_worker.specs.Asks.{AsksFor, AsksSince, name_polled, NotesNoPoll, polls_of, with_poll}
pub use Rattle.run_worker.specs.Ended.{ActsUnlessRefused, EndedView, HasEnded, IsServed, KnowsSeat, ServedView}
pub use Rattle.run_worker.specs.Few.{got_most, most_of_turn, round_most, taken_most, turn_most, woken_most, WritesFew}
pub use Rattle.run_worker.specs.Gates.{IsShutWithin, KeepsTaken, LeavesReturning, LeavesShut, LeavesUnless, ShutsFirst, WritesReturn, WritesShut}
pub use Rattle.run_worker.specs.Looks.{leaves_turns, LooksAtAll, LooksAtLinks, LooksOrRests, MakesRound, PassesLinks, turns_after, TurnsAlone}
pub use Rattle.run_worker.specs.Views.{FindsNoneDue, Peeks, round_view, RoundView, WakesDue}
pub use Rattle.run_worker.specs.Passing.{HandsOn, HandsOnWhere, HasPlaces, IsDue, IsDueAtRest, IsSupplied, PassesTo}
pub use Rattle.run_worker.specs.Queues.{behind_entries, behind_entry, creations}
pub use Rattle.run_worker.specs.Readings.{BeginsNext, kept_behind, ReadsNow, TimesNext, watch_view, WatchView}
pub use Rattle.run_worker.specs.Rooms.{ActsAsItMay, ActsByCommand, HasSpare, IsEnding, IsPolling, IsProvided, IsReady, IsShort, last_through, least_free, MayAct, WakesOwnPark}
pub use Rattle.run_worker.specs.Rounds.{AreRung, CollectsFirst, CollectsNext, HasShutGates, HearsAll, HearsFirst, HearsOne, HearsSome, is_turn, IsAllGot, IsAllTaken, IsHeard, LooksAtRoom, ShutsClosed, StepsServed, TellsNotes}
pub use Rattle.run_worker.specs.Serves.{CountsIdle, GoesOn, KeepsTries, Rests, round_of, Serves, ServesAlong, ServesOn, ServesOnce, ServesToItsEnd, ShowsAgain, ShowsEnd, ShowsNow}
pub use Rattle.run_worker.specs.Shown.{CantShow, IsShown, IsShownWhole, most_places, shown_of, ShownView, Shows, TellsAlone}
pub use Rattle.run_worker.specs.Timing.{due_behind, HearsNote, HearsNotes, HearsTurn, LosesTimer, SetsSleep, SleepsFor, SparesOwn}
pub use Rattle.run_worker.specs.Waking.{HasParked, is_over, is_wake, own_job, StopsWaking, WakesAll, WakesNext, WakesSome}
pub use Rattle.core_timers.specs.Timers.{Forgets, HasNoKey, IsAfter, IsVacant, LacksName, Sets, Timers}
pub use Rattle.core_queues.specs.Waking.{FindsNoPark, IsParkedAs}
pub use Rattle.actor_seat.specs.Wakes.{WakesOwn}
pub use Rattle.run_worker.specs.declared.waking.Due.{Due}
pub use Rattle.run_worker.specs.Together.{all_ends, desk_among, HaveEnded}
pub use Rattle.run_worker.specs.Turns.{TakesTurn}
pub use Rattle.run_worker.specs.Workers.{IsBellOf, KeepsOn, served_of, WorkerView}
pub use Rattle.std.proofs.Common.{ap, arith, cond, drop, Err, get_or, if◌then◌else◌, inl, inr, length, List, map, Ok, refl, replicate, Result, subst, suc, sym, true≢false, zero, ℕ, [], ⊎_elim, ◌*◌, ◌++◌, ◌+◌, ◌-◌, ◌<◌, ◌^◌, ◌||◌, ◌∙◌, ◌∷◌}
pub use Rattle.std.proofs.Common.{◌≡◌, ◌≢◌, ◌≤◌, ◌⊎◌}
pub use Rattle.std.proofs.Math.Nat.{add-mul, mul-add, mul_left_comm, suc-mul}
pub use Rattle.std.proofs.Math.Seq.{drop-cons, get_or-append_seam}
pub use Rattle.std.proofs.lemmas.Bool.{cases_eq, cases_lt, eq-eqb, false≢true, lt-ltb, ne_eqb}
pub use Rattle.std.proofs.lemmas.List.{append-nil, append_assoc, drop_all, get_or-map, get_or_append_left, get_or_default, length-append, length-map, reverse-append}
pub use Rattle.std.proofs.lemmas.Option.{get_or_from_slice_get, slice_get-get_or}
pub use Rattle.std.specs.Prelude.{Bool, false, is_none, is_some, IsSome, nat_lt, None, not, Option, reverse, slice_index_or, Some, sum_by, true, unwrap_or, ◌==◌}
