-- What holds inside a core as a job enters a queue without work.
use Rattle.core_core.proofs.Names.{All-set, ap, arith, Bool, ChangesLine, cond, CoreView, entry_runtime, false, FitsTurns, is_any, is_number, is_working, IsCore, IsReady, IsWithinLimits, JobId, Key, keys_after, length, length-set, List}
use Rattle.core_core.proofs.Names.{Marks, Meaning, no_tally, not, placed, queue_count, queue_open, queue_out, QueuesView, refl, set-get_or, slice_index_or, slice_set, slips_after, sym, Tally, tally_of, true, unsettled_count, waiting_of, ℕ}
use Rattle.core_core.proofs.Names.{[], ◌++◌, ◌+◌, ◌<◌, ◌∙◌, ◌∷◌, ◌≡◌}
use Rattle.core_core.proofs.Charging.{tally_read}
use Rattle.core_core.proofs.Entries.{is_any-push, runtime_of-set_other, IsListed-held}
use Rattle.core_core.proofs.Held.{not_held}
use Rattle.core_core.proofs.Listed.{LacksQueue-from_none}
use Rattle.core_core.proofs.Parts.{both_false, idle_entry, KeepsCounts-enters, IsListed-activates, IsPollable-pushed}
use Rattle.core_core.proofs.SlipsKept.{KeepsSlips-same, KeepsSlips-inserted}
use Rattle.core_core.proofs.Turning.{KeepsTurn-same, held_in_turn}

module _ {J : Type 0} where
  -- the tallies as a job comes to a queue that has work
  pub stays_placed : (old : CoreView J) (queue : ℕ) → is_working queue old ≡ true → slice_set old.tallies queue (record (tally_of queue old) { runtime = entry_runtime queue old }) ≡ old.tallies
  stays_placed old queue work =
      ap (λ test. slice_set old.tallies queue (record (tally_of queue old) { runtime = cond test (tally_of queue old).runtime (placed (tally_of queue old).runtime old.floor) })) work
      ∙ set-get_or old.tallies queue no_tally

  -- and as one comes to a queue without work, which is placed
  pub is_placed : (old : CoreView J) (queue place : ℕ) (was tally : Tally) → is_working queue old ≡ false → place ≡ queue → place < length old.tallies → was ≡ slice_index_or old.tallies place was →
      tally ≡ record was { runtime = placed was.runtime old.floor } → slice_set old.tallies place tally ≡ slice_set old.tallies queue (record (tally_of queue old) { runtime = entry_runtime queue old })
  is_placed old queue place was tally idle at within read is =
      ap (λ number. slice_set old.tallies number tally) at
      ∙ ap (slice_set old.tallies queue) (is ∙ ap (λ (one : Tally). record one { runtime = placed one.runtime old.floor }) (tally_read old.tallies place queue was at within read))
      ∙ sym (ap (λ test. slice_set old.tallies queue (record (tally_of queue old) { runtime = cond test (tally_of queue old).runtime (placed (tally_of queue old).runtime old.floor) })) idle)

-- the queue is placed, and listed unless its turn is open
pub IsCore-entered : {J T : Type 0} (meaning : Meaning J T) (old : CoreView J) (queues : QueuesView J) (delivered : List ℕ) (slips : List Bool) (keys : List Key) (inside room places : ℕ) → IsCore meaning old slips keys inside room places →
    (key : Key) (tally : Tally) (name : JobId) (marks : Marks) (job : J) → ChangesLine old.queues queues key.queue (waiting_of key.queue old.queues ++ (name, marks, job) ∷ []) → IsWithinLimits queues → IsReady meaning job → inside < room →
    length delivered ≡ length old.delivered → is_working key.queue old ≡ false → key.queue < queue_count old.queues → tally.runtime ≡ key.vr → FitsTurns old.turns (unsettled_count old) tally →
    (in_turn : Bool) → is_number key.queue (queue_open old.bursts.open) ≡ in_turn →
    IsCore meaning (record old { queues = queues; tallies = slice_set old.tallies key.queue tally; delivered = delivered }) (slips_after (not in_turn) key.queue slips) (keys_after (not in_turn) key.vr key.queue keys) (inside + 1) room places
IsCore-entered {J} {T} meaning old queues delivered slips keys inside room places core key tally name marks job joins limits ready space known idle exists runtime fits in_turn is = by_turn in_turn is
  where
    new : CoreView J
    new = record old { queues = queues; tallies = slice_set old.tallies key.queue tally; delivered = delivered }

    within : key.queue < length old.tallies
    within = omega (arith, core.counted.tallies, exists)

    parts : (is_any (waiting_of key.queue old.queues) ≡ false) × (is_number key.queue (queue_out old.out) ≡ false)
    parts = both_false (is_any (waiting_of key.queue old.queues)) (is_number key.queue (queue_out old.out)) idle

    by_turn : (in_turn : Bool) → is_number key.queue (queue_open old.bursts.open) ≡ in_turn → IsCore meaning new (slips_after (not in_turn) key.queue slips) (keys_after (not in_turn) key.vr key.queue keys) (inside + 1) room places
    by_turn true here = record {
      counted = KeepsCounts-enters old new inside room places key.queue name marks job joins limits space refl refl (length-set old.tallies key.queue tally) known core.counted;
      listed = IsListed-held old new keys key.queue (held_in_turn old key.queue core.turning parts.1 here) refl joins.others (λ other apart. runtime_of-set_other old new key.queue other tally refl apart) core.listed;
      slipped = KeepsSlips-same (queue_count old.queues) (queue_count queues) slips slips keys joins.same_count refl core.slipped;
      pollable = IsPollable-pushed meaning old new key.queue name marks job joins ready core.pollable;
      turns = record { tallies = All-set (FitsTurns old.turns (unsettled_count old)) old.tallies key.queue tally fits core.turns.tallies; floor = core.turns.floor };
      turning = KeepsTurn-same old new refl refl (omega (arith, joins.same_count)) core.turning;
    }
    by_turn false apart =
        let lacks = LacksQueue-from_none key.queue keys (core.listed.at key.queue ∙ idle_entry old key.queue idle) in
        record {
          counted = KeepsCounts-enters old new inside room places key.queue name marks job joins limits space refl refl (length-set old.tallies key.queue tally) known core.counted;
          listed = IsListed-activates old new keys key tally joins.others (ap is_any joins.changed ∙ is_any-push (waiting_of key.queue old.queues) (name, marks, job)) refl refl within runtime idle (not_held key.queue old.out old.bursts.open parts.1 apart) core.listed;
          slipped = KeepsSlips-inserted (queue_count queues) slips keys key (omega (arith, exists, joins.same_count)) lacks (KeepsSlips-same (queue_count old.queues) (queue_count queues) slips slips keys joins.same_count refl core.slipped);
          pollable = IsPollable-pushed meaning old new key.queue name marks job joins ready core.pollable;
          turns = record { tallies = All-set (FitsTurns old.turns (unsettled_count old)) old.tallies key.queue tally fits core.turns.tallies; floor = core.turns.floor };
          turning = KeepsTurn-same old new refl refl (omega (arith, joins.same_count)) core.turning;
        }
