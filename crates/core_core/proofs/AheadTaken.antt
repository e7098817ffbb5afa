-- The job that is told ahead may be picked: there is a core to which the pick comes. A caller that notes the pick before the turn cites this.
use Rattle.core_core.proofs.Names.{ap, arith, begun, Bool, cases_eq, ChangesLine, CoreView, follow_notes, Follows, get_or-set_other, get_or-set_same, goes_out, held_in, inl, inr, IsAhead, IsAheadInTurn, JobId, Line, max, mode_of, no_queue}
use Rattle.core_core.proofs.Names.{Ok, parked_of, pick_notes, Picks, polled_again, queue_count, QueuesView, QueueView, refl, runtime_of, shares_of, slice_index_or, slice_set, Some, sum_by-set, sym, TakesOut, tally_of, waiting_of, ℕ, ◌+◌}
use Rattle.core_core.proofs.Names.{◌<◌, ◌∙◌, ◌≡◌, ◌⊎◌}
use Rattle.std.proofs.lemmas.List.{length-set}
use Rattle.core_core.proofs.Entries.{is_any-from_some}
use Rattle.core_core.proofs.FurtherTurn.{follows_ahead}
use Rattle.core_core.proofs.Picking.{exists_if_waiting}
use Rattle.core_core.proofs.Turned.{some_front, picks_ahead}

module _ {J : Type 0} where
  -- the queues with another line of this one
  abbrev queues_with : (view : QueuesView J) (queue : ℕ) (line : Line J) → QueuesView J
  queues_with view queue line = record view { queues = slice_set view.queues queue (record (slice_index_or view.queues queue no_queue) { waiting = line }) }

  ChangesLine-with : (view : QueuesView J) (queue : ℕ) (line : Line J) → queue < queue_count view → ChangesLine view (queues_with view queue line) queue line
  ChangesLine-with view queue line within = record {
    changed = ap (λ (one : QueueView J). one.waiting) here;
    others = λ other apart. ap (λ (one : QueueView J). one.waiting) (there other apart);
    same_shares = λ other. shares other (cases_eq other queue);
    same_modes = λ other. modes other (cases_eq other queue);
    same_parks = λ other. parks other (cases_eq other queue);
    same_count = length-set view.queues queue changed_queue;
    same_room = refl;
    held = omega (arith, sum_by-set held_in view.queues queue changed_queue no_queue within);
  }
    where
      changed_queue : QueueView J
      changed_queue = record (slice_index_or view.queues queue no_queue) { waiting = line }

      here : slice_index_or (slice_set view.queues queue changed_queue) queue no_queue ≡ changed_queue
      here = get_or-set_same view.queues queue changed_queue no_queue within

      there : (other : ℕ) → (other ≡ queue → ⊥) → slice_index_or (slice_set view.queues queue changed_queue) other no_queue ≡ slice_index_or view.queues other no_queue
      there other apart = get_or-set_other view.queues queue other changed_queue no_queue apart

      shares : (other : ℕ) → (other ≡ queue) ⊎ (other ≡ queue → ⊥) → shares_of other (queues_with view queue line) ≡ shares_of other view
      shares other (inl same) = ap (λ at. shares_of at (queues_with view queue line)) same ∙ ap (λ (one : QueueView J). one.shares) here ∙ sym (ap (λ at. shares_of at view) same)
      shares other (inr apart) = ap (λ (one : QueueView J). one.shares) (there other apart)

      modes : (other : ℕ) → (other ≡ queue) ⊎ (other ≡ queue → ⊥) → mode_of other (queues_with view queue line) ≡ mode_of other view
      modes other (inl same) = ap (λ at. mode_of at (queues_with view queue line)) same ∙ ap (λ (one : QueueView J). one.mode) here ∙ sym (ap (λ at. mode_of at view) same)
      modes other (inr apart) = ap (λ (one : QueueView J). one.mode) (there other apart)

      parks : (other : ℕ) → (other ≡ queue) ⊎ (other ≡ queue → ⊥) → parked_of other (queues_with view queue line) ≡ parked_of other view
      parks other (inl same) = ap (λ at. parked_of at (queues_with view queue line)) same ∙ ap (λ (one : QueueView J). one.parked) here ∙ sym (ap (λ at. parked_of at view) same)
      parks other (inr apart) = ap (λ (one : QueueView J). one.parked) (there other apart)

  -- what the pick of the job that is told ahead comes to
  takes_ahead : (view : CoreView J) (queue vr : ℕ) (name : JobId) (started woken : Bool) → IsAhead view queue vr name started woken → (job : J) × (mid : CoreView J) × TakesOut view name queue started job mid
  takes_ahead view queue vr name started woken is_ahead =
      let front = is_ahead.front in
      let any = is_any-from_some (waiting_of queue view.queues) (some_front (waiting_of queue view.queues) (name, record { started = started; woken = woken }, front.0) front.1 front.2) in
      let mid : CoreView J = record view {
        queues = queues_with view.queues queue front.1;
        tallies = slice_set view.tallies queue (record (tally_of queue view) { selected = (tally_of queue view).selected + 1 });
        floor = max view.floor (runtime_of queue view);
        turns = view.turns + 1;
        out = Some (record { name = name; queue = queue; woken = woken; job = front.0 });
        bursts = begun queue view.bursts;
      } in (
        front.0,
        mid,
        record { next = is_ahead.next; was_woken = woken; others = front.1; first = front.2; line = ChangesLine-with view.queues queue front.1 (exists_if_waiting view.queues queue any); rest = refl },
      )

module _ {J : Type 0} (T : Type 0) where
  -- the pick of the job that is told ahead, with its notes
  pub ahead_picks : (view : CoreView J) (queue vr : ℕ) (name : JobId) (started woken : Bool) → IsAhead view queue vr name started woken →
      (job : J) × (mid : CoreView J) × Picks {T = T} view (Ok (goes_out name queue started job)) mid (pick_notes queue vr name started)
  ahead_picks view queue vr name started woken is_ahead =
      let taken = takes_ahead view queue vr name started woken is_ahead in
      (taken.0, taken.1, picks_ahead T view taken.1 queue vr name started taken.0 taken.2 is_ahead.kept is_ahead.stands)

module _ {J : Type 0} (T : Type 0) where
  -- the further poll of the job that is told ahead in the open turn, with its note
  pub ahead_follows : (view : CoreView J) (queue vr : ℕ) (name : JobId) (started woken : Bool) → IsAheadInTurn view queue vr name started woken →
      (job : J) × (mid : CoreView J) × Follows {T = T} view (Some (goes_out name queue started job)) mid (follow_notes name started)
  ahead_follows view queue vr name started woken is_ahead =
      let front = is_ahead.front in
      let any = is_any-from_some (waiting_of queue view.queues) (some_front (waiting_of queue view.queues) (name, record { started = started; woken = woken }, front.0) front.1 front.2) in
      let mid : CoreView J = record view {
        queues = queues_with view.queues queue front.1;
        out = Some (record { name = name; queue = queue; woken = woken; job = front.0 });
        bursts = record (view.bursts) { «open» = Some (polled_again is_ahead.turn) };
      } in (
        front.0,
        mid,
        follows_ahead T view mid queue name started front.0 (record {
          turn = is_ahead.turn;
          goes = is_ahead.goes;
          its_queue = is_ahead.its_queue;
          was_woken = woken;
          others = front.1;
          first = front.2;
          line = ChangesLine-with view.queues queue front.1 (exists_if_waiting view.queues queue any);
          rest = refl;
        }),
      )
