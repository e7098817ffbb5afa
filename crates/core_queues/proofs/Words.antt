-- What the crates below and the specs of this one hand on to its proofs.
pub use Rattle.base_jobs.specs.Meanings.{Meaning}
pub use Rattle.base_jobs.specs.Ready.{IsReady}
pub use Rattle.base_words.proofs.NameLemmas.{one_name}
pub use Rattle.base_words.specs.Names.{among, same_name}
pub use Rattle.base_words.specs.declared.names.JobId.{JobId}
pub use Rattle.base_words.specs.declared.order.Mode.{Mode}
pub use Rattle.core_index.proofs.Shown.{resized}
pub use Rattle.core_index.specs.Buckets.{name_at, Names}
pub use Rattle.core_queues.specs.Entries.{Appends, Inserts, MovesHead, Relinks, Renews, Requeues, Starts}
pub use Rattle.core_queues.specs.Fronts.{IsFrontReady, ParksOrStays, RestsFront, TurnsLine}
pub use Rattle.core_queues.specs.Lines.{IsChain, IsLastOr, JoinsLines, KeepsWakeOf, MovesOut, Skips}
pub use Rattle.core_queues.specs.Linked.{chain, HasOwnSlips, IsKept, IsLinked, job_count, key_at, line_at, linked_view, next_of, no_line, no_queue, queue_at, queue_of, shown, shown_parked, side, Spot}
pub use Rattle.core_queues.specs.Parks.{Moves}
pub use Rattle.core_queues.specs.Queues.{AddsQueue, ChangesLine, ChangesMode, ChangesParks, ChangesShares}
pub use Rattle.core_queues.specs.Rests.{AreAtRest, IsAtRest}
pub use Rattle.core_queues.specs.Seats.{AreFound, AreSeated, HasPlace, HasSeat, LeavesSeat, name_of, no_seat, parked_counts, parked_keys, seat_at, Vacates}
pub use Rattle.core_queues.specs.Slips.{has_slip, queues_alone, SlippedView}
pub use Rattle.core_queues.specs.View.{awake, held_count, held_in, IsWithinLimits, Marks, mode_of, parked_of, queue_count, QueuesView, QueueView, shares_of, waiting_of}
pub use Rattle.core_queues.specs.Waking.{FindsNoPark, HoldsNone, IsParkedAs, KeepsWake, WaitsAs, WakesParked}
pub use Rattle.core_queues.specs.declared.line.Line.{Line}
pub use Rattle.core_queues.specs.declared.line.Queue.{Queue}
pub use Rattle.core_queues.specs.declared.seats.ParkedAt.{ParkedAt}
pub use Rattle.core_queues.specs.declared.waiting.Waiting.{Waiting}
pub use Rattle.slab.proofs.SlabLemmas.{ContainsKey-within, Updates-set, Updates-with_value}
pub use Rattle.slab.specs.Slab.{ContainsKey, get, Slab, slab_len, Updates}
pub use Rattle.std.proofs.Common.{ap, append_assoc, arith, Bool, cond, drop, false, get_or, inl, inr, length, length-set, List, map, None, Option, refl, replicate, set, Some, subst, suc, sum_by, sym, take, true, zero, ℕ, [], ⊎_elim, ◌++◌}
pub use Rattle.std.proofs.Common.{◌+◌, ◌-◌, ◌<◌, ◌==◌, ◌||◌, ◌∙◌, ◌∷◌, ◌≡◌, ◌≤◌, ◌⊎◌}
pub use Rattle.std.proofs.lemmas.Bool.{cases_eq, cases_lt, eq-eqb, eqb-true, lt-ltb, ltb-true, ne_eqb}
pub use Rattle.std.proofs.lemmas.List.{get_or-map, get_or-set_other, get_or-set_same, get_or_append_left, get_or_past, get_or_push, get_or_read, length-append, length-map, length-replicate, length_push, map-append, map-set, nil_from_length}
pub use Rattle.std.proofs.lemmas.List.{set-set, take_all}
pub use Rattle.std.proofs.lemmas.List.Sums.{get_or-le-sum_by, sum_by-cons, sum_by-set, sum_by_more, sum_by_push}
pub use Rattle.std.specs.Prelude.{count_by, IfSome, is_some, IsSome, slice_index_or, slice_set}
