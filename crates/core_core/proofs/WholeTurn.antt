-- The first poll of a turn, from what is known inside: the head of the first queue goes out, is polled, and its poll is settled, which ends the turn or leaves it open.
use Rattle.core_core.proofs.Names.{ap, arith, begun, Bool, Bursts, Call, CoreView, false, FitsTurns, get_or-set_same, has_bursts, IsAhead, is_any, is_done_step, is_some, IsBounded, IsCore, IsListed, IsRising, IsWithinLimits, JobId, JobOut, Key, keys_after}
use Rattle.core_core.proofs.Names.{LacksQueue, lasted, length, List, longer, max, Meaning, no_tally, None, number_if, OpenTurn, Option, queue_count, queue_held, QueuesView, refl, runtime_of, set-set, settled_tally, shares_of, slice_set}
use Rattle.core_core.proofs.Names.{slips_after, Some, Step, subst, sym, TakesOut, Tally, tally_of, true, TurnsFirst, TurnsFront, unsettled_count, unwrap_or, waiting_of, ℕ, ◌+◌, ◌<◌, ◌∙◌, ◌∷◌, ◌≡◌, ◌≤◌}
use Rattle.std.specs.Prelude.{◌-◌}
use Rattle.core_timeline.specs.Rising.{HasDistinctQueues}
use Rattle.core_core.proofs.Counting.{some_inside}
use Rattle.core_core.proofs.Fits.{picked_fits, tally_fits, IsBounded-from_turns}
use Rattle.core_core.proofs.Held.{held_none}
use Rattle.core_core.proofs.InTurn.{fits_in_turn, IsCore-settled_in_turn}
use Rattle.core_core.proofs.Turned.{ahead_is_first}
use Rattle.core_core.proofs.Turning.{begun_single, begun_open}
use Rattle.core_core.proofs.Picking.{exists_if_waiting, first_runtime, first_waits, first_is_next}
use Rattle.core_core.proofs.Whole.{IsCore-taken, IsCore-settled, turned_shares, settles_step}

-- a key is the first one, and no other is of its queue
pub record HasFirst (keys : List Key) (key : Key) : Type 0 where
  pub later : List Key
  pub are : keys ≡ key ∷ later
  pub absent : LacksQueue key.queue later

module _ {J : Type 0} where
  -- the queue of the first key exists
  pub first_exists : (view : CoreView J) (keys : List Key) (key : Key) (later : List Key) → keys ≡ key ∷ later → IsListed view keys → queue_held view ≡ None → key.queue < queue_count view.queues
  first_exists view keys key later are listed free = exists_if_waiting view.queues key.queue (first_waits view keys key later are listed free)

  -- the key of the job that is told ahead is the first one
  pub HasFirst-ahead : (view : CoreView J) (keys : List Key) (queue vr : ℕ) (name : JobId) (started woken : Bool) → IsListed view keys → IsRising keys → HasDistinctQueues keys → IsAhead view queue vr name started woken →
      HasFirst keys (record { vr = vr; queue = queue })
  HasFirst-ahead view keys queue vr name started woken listed rising distinct is_ahead =
      let first = ahead_is_first view keys queue vr name started woken listed rising is_ahead in
      record { later = first.0; are = first.1; absent = (subst HasDistinctQueues first.1 distinct).0 }

  -- its tally, as no poll of it is out
  pub first_fits : {T : Type 0} (meaning : Meaning J T) (view : CoreView J) (slips : List Bool) (keys : List Key) (inside room places queue : ℕ) → IsCore meaning view slips keys inside room places → queue_held view ≡ None →
      FitsTurns view.turns 0 (tally_of queue view)
  first_fits meaning view slips keys inside room places queue core free =
      let none : unsettled_count view ≡ 0 = ap (λ (held : Option ℕ). number_if (is_some held)) free in
      subst (λ unsettled. FitsTurns view.turns unsettled (tally_of queue view)) none (tally_fits view queue core.turns)

  -- the tally of a queue after one more pick of it
  abbrev pub picked_tally : CoreView J → ℕ → Tally
  picked_tally view queue = record (tally_of queue view) { selected = (tally_of queue view).selected + 1 }

  -- the turn that is open behind the first poll of it, if one is
  abbrev pub bursts_after : CoreView J → ℕ → ℕ → Bursts
  bursts_after view queue time = record (begun queue view.bursts) { «open» = lasted time (begun queue view.bursts).open }

  -- the core after the first poll of a turn of the queue of this key
  abbrev pub after_turn : CoreView J → Key → Tally → QueuesView J → Bursts → CoreView J
  after_turn view key tally queues bursts = record view {
    queues = queues;
    tallies = slice_set view.tallies key.queue tally;
    floor = max view.floor key.vr;
    turns = view.turns + 1;
    bursts = bursts;
  }

  -- none is where a settled poll ends its turn
  pub no_turn_after : (view : CoreView J) (queue time : ℕ) → has_bursts view.bursts.burst ≡ false → view.bursts.open ≡ None → (bursts_after view queue time).open ≡ None
  no_turn_after view queue time single no_turn = ap (lasted time) (begun_single queue view.bursts single ∙ no_turn)

  pub same_bursts : (view : CoreView J) (queue time : ℕ) → has_bursts view.bursts.burst ≡ false → view.bursts.open ≡ None → view.bursts ≡ bursts_after view queue time
  same_bursts view queue time single no_turn = λ i. record (view.bursts) { «open» = (no_turn ∙ sym (no_turn_after view queue time single no_turn)) i }

module _ {J T : Type 0} (meaning : Meaning J T) where
  -- what is known inside once the line of the first queue had its turn
  pub record HasTurned (old : CoreView J) (slips : List Bool) (keys : List Key) (inside room places : ℕ) (key : Key) (calls : List (Call J T)) (step : Step T) (told : Option ℕ) (time : ℕ) (tally : Tally) (queues : QueuesView J) : Type 0 where
    pub core : IsCore meaning old slips keys inside room places
    pub later : List Key
    pub are : keys ≡ key ∷ later
    pub absent : LacksQueue key.queue later
    pub rising : IsRising keys
    pub free : old.out ≡ None
    pub no_turn : old.bursts.open ≡ None
    pub turned : TurnsFront meaning old.queues key.queue calls step told queues
    pub limits : IsWithinLimits queues
    pub charged : tally ≡ settled_tally (begun key.queue old.bursts).open time (shares_of key.queue queues) (number_if (is_done_step step)) (picked_tally old key.queue)

  module _ (old : CoreView J) (slips : List Bool) (keys : List Key) (inside room places : ℕ) (key : Key) (calls : List (Call J T)) (step : Step T) (told : Option ℕ) (time : ℕ) (tally : Tally) (queues : QueuesView J)
      (turn : HasTurned old slips keys inside room places key calls step told time tally queues) where
    -- the job between its pick and its settling
    abbrev job_between : JobOut J
    job_between = record { name = turn.turned.name; queue = key.queue; woken = turn.turned.marks.woken; job = turn.turned.was }

    -- the core between them
    abbrev between : CoreView J
    between = record old {
      queues = turn.turned.between;
      tallies = slice_set old.tallies key.queue (picked_tally old key.queue);
      floor = max old.floor (runtime_of key.queue old);
      turns = old.turns + 1;
      out = Some job_between;
      bursts = begun key.queue old.bursts;
    }

    -- the core behind them
    abbrev behind : CoreView J
    behind = after_turn old key tally queues (bursts_after old key.queue time)

    takes : TakesOut old turn.turned.name key.queue turn.turned.marks.started turn.turned.was between
    takes = record {
      next = first_is_next old keys key turn.later turn.are turn.core.listed turn.free turn.no_turn turn.rising;
      was_woken = turn.turned.marks.woken;
      others = waiting_of key.queue turn.turned.between;
      first = turn.turned.first;
      line = turn.turned.leaves;
      rest = refl;
    }

    none_held : queue_held old ≡ None
    none_held = held_none old turn.free turn.no_turn

    same_floor : max old.floor key.vr ≡ max old.floor (runtime_of key.queue old)
    same_floor = ap (max old.floor) (sym (first_runtime old keys key turn.later turn.are turn.core.listed))

    within : key.queue < length old.tallies
    within = omega (arith, turn.core.counted.tallies, first_exists old keys key turn.later turn.are turn.core.listed none_held)

    -- what holds inside between them
    IsCore-between : IsCore meaning between (slice_set slips key.queue true) turn.later inside room places
    IsCore-between = IsCore-taken meaning old between slips keys turn.later key inside room places turn.turned.name turn.turned.marks.started turn.turned.was turn.core turn.are turn.absent takes turn.turned.limits

    -- the job that has its turn is inside
    pub one_inside : 1 ≤ inside
    one_inside = (some_inside between inside room places job_between refl IsCore-between.counted).0

    -- what holds inside where the poll ends the turn
    pub IsCore-turned : has_bursts old.bursts.burst ≡ false → FitsTurns (old.turns + 1) 0 tally → IsCore meaning behind (slips_after (is_any (waiting_of key.queue queues)) key.queue (slice_set slips key.queue true))
        (keys_after (is_any (waiting_of key.queue queues)) tally.runtime key.queue turn.later) (inside - number_if (is_done_step step)) room places
    IsCore-turned single fits =
        IsCore-settled meaning between behind (slice_set slips key.queue true) turn.later inside room places job_between turn.turned.marks turn.turned.job tally (is_any (waiting_of key.queue queues)) step
        IsCore-between refl turn.free (no_turn_after old key.queue time single turn.no_turn) turn.turned.joins turn.limits (sym (set-set old.tallies key.queue (picked_tally old key.queue) tally))
        fits refl refl refl same_floor turn.turned.polled.ended turn.turned.polled.ready refl

    -- the tally of a turn that stays open fits
    opened_fits : has_bursts old.bursts.burst ≡ true → FitsTurns (old.turns + 1) 1 tally
    opened_fits has =
        let was : OpenTurn = record { queue = key.queue; polls = 1; time = 0 } in
        let ended = number_if (is_done_step step) in
        let weight = shares_of key.queue queues in
        let before = first_fits meaning old slips keys inside room places key.queue turn.core none_held in
        let counted = turn.charged ∙ ap (λ (found : Option OpenTurn). settled_tally found time weight ended (picked_tally old key.queue)) (begun_open key.queue old.bursts has) in
        subst (FitsTurns (old.turns + 1) 1) (sym counted) (fits_in_turn (old.turns + 1) 1 was time weight ended (picked_tally old key.queue) (picked_fits old.turns (tally_of key.queue old) before))

    -- and where the turn stays open
    pub IsCore-opened : has_bursts old.bursts.burst ≡ true → IsCore meaning behind (slice_set slips key.queue true) turn.later (inside - number_if (is_done_step step)) room places
    IsCore-opened has =
        let was : OpenTurn = record { queue = key.queue; polls = 1; time = 0 } in
        IsCore-settled_in_turn meaning between behind (slice_set slips key.queue true) turn.later inside room places job_between was (longer time was) tally
        IsCore-between refl (begun_open key.queue old.bursts has) turn.free (ap (lasted time) (begun_open key.queue old.bursts has)) refl refl (sym (set-set old.tallies key.queue (picked_tally old key.queue) tally))
        (opened_fits has) refl refl refl same_floor step turn.turned.marks turn.turned.job turn.turned.joins turn.limits turn.turned.polled.ended turn.turned.polled.ready

    -- the same of what is equal to those
    pub IsCore-turned_as : has_bursts old.bursts.burst ≡ false → FitsTurns (old.turns + 1) 0 tally → (new : CoreView J) (new_slips : List Bool) (new_keys : List Key) (new_inside : ℕ) → new ≡ behind →
        new_slips ≡ slips_after (is_any (waiting_of key.queue queues)) key.queue (slice_set slips key.queue true) →
        new_keys ≡ keys_after (is_any (waiting_of key.queue queues)) tally.runtime key.queue turn.later → new_inside ≡ inside - number_if (is_done_step step) →
        IsCore meaning new new_slips new_keys new_inside room places
    IsCore-turned_as single fits new new_slips new_keys new_inside view slips_are keys_are count = rw (view, slips_are, keys_are, count) (IsCore-turned single fits)

    pub IsCore-opened_as : has_bursts old.bursts.burst ≡ true → (new : CoreView J) (new_slips : List Bool) (new_keys : List Key) (new_inside : ℕ) → new ≡ behind →
        new_slips ≡ slice_set slips key.queue true → new_keys ≡ turn.later → new_inside ≡ inside - number_if (is_done_step step) → IsCore meaning new new_slips new_keys new_inside room places
    IsCore-opened_as has new new_slips new_keys new_inside view slips_are keys_are count = rw (view, slips_are, keys_are, count) (IsCore-opened has)

    pub IsBounded-turned : has_bursts old.bursts.burst ≡ false → FitsTurns (old.turns + 1) 0 tally → IsBounded behind
    IsBounded-turned single fits = IsBounded-from_turns behind (IsCore-turned single fits).turns

    pub IsBounded-opened : has_bursts old.bursts.burst ≡ true → IsBounded behind
    IsBounded-opened has = IsBounded-from_turns behind (IsCore-opened has).turns

    -- the turn of the contract
    pub TurnsFirst-turned : (spent : ℕ) → time ≡ unwrap_or told spent → TurnsFirst meaning old spent calls step time behind
    unfolding takes
    TurnsFirst-turned spent counts =
        let turned = turn.turned in
        let ended = number_if (is_done_step step) in
        let picked = picked_tally old key.queue in
        let begins = (begun key.queue old.bursts).open in
        let weight = turned_shares step turned.between queues key.queue turned.name turned.marks turned.job turned.joins in
        let there = get_or-set_same old.tallies key.queue picked no_tally within in
        let charged = turn.charged ∙ ap (λ shares. settled_tally begins time shares ended picked) weight ∙ ap (λ (one : Tally). settled_tally begins time (shares_of key.queue turned.between) ended one) (sym there) in
        let written = sym (set-set old.tallies key.queue picked tally) ∙ ap (slice_set (slice_set old.tallies key.queue picked) key.queue) charged in
        record {
          name = turned.name;
          queue = key.queue;
          started = turned.marks.started;
          mid = between;
          ran = record { job = turned.job; step = step; told = told; before = turned.was };
          takes = takes;
          polled = turned.polled;
          stepped = refl;
          counts = counts;
          settles = settles_step between behind job_between turned.marks turned.job time step refl turned.joins
              (λ i. record old { queues = queues; tallies = written i; floor = same_floor i; turns = old.turns + 1; out = turn.free i; bursts = bursts_after old key.queue time });
        }
