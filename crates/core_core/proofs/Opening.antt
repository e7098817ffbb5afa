-- What holds inside a core as it opens.
use Rattle.core_core.proofs.Names.{All-push, ap, arith, core_view, CoreView, false, first_queue, FitsTurns, is_any, IsCore, IsListed, IsPollable, IsWithinTurns, KeepsCounts, Key, length, List, Meaning, no_tally, None, parked_of}
use Rattle.core_core.proofs.Names.{queues_alone, refl, SendersView, SlippedView, suc, sym, Tally, waiting_of, zero, ℕ, [], ◌+◌, ◌∷◌, ◌≡◌, ◌≤◌}
use Rattle.core_queues.specs.Slips as slipped
use Rattle.core_core.proofs.Entries.{entry_of-none}
use Rattle.core_core.proofs.Fits.{no_tally_fits}
use Rattle.core_core.proofs.Settling.{may_run-free}
use Rattle.core_core.proofs.SlipsKept.{KeepsSlips-opened}

module _ {J : Type 0} (core cores room turns burst : ℕ) (senders : SendersView) where
  abbrev first_view : List Tally → CoreView J
  first_view tallies = core_view core cores (first_queue room) tallies 0 turns None senders None (record { burst = burst; «open» = None })

  -- no job waits
  no_job : (tallies : List Tally) (queue : ℕ) → waiting_of queue (first_view tallies).queues ≡ []
  no_job tallies zero = refl
  no_job tallies (suc queue) = refl

  -- nor is one parked
  no_park : (tallies : List Tally) (queue : ℕ) → parked_of queue (first_view tallies).queues ≡ []
  no_park tallies zero = refl
  no_park tallies (suc queue) = refl

  IsListed-opened : (tallies : List Tally) → IsListed (first_view tallies) []
  IsListed-opened tallies = record {
    at = λ queue. sym (entry_of-none (first_view tallies) queue (may_run-free (first_view tallies) queue false refl (ap is_any (no_job tallies queue))));
  }

  KeepsCounts-opened : (places : ℕ) → length senders.delivered ≡ cores + 1 → 256 ≤ places → KeepsCounts (first_view (no_tally ∷ [])) 0 room places
  KeepsCounts-opened places known reserved = record {
    limits = record { some_queue = omega arith; few_queues = omega arith; within_room = omega arith };
    tallies = refl;
    senders = known;
    all_inside = refl;
    within_room = omega arith;
    same_room = refl;
    reserved = reserved;
    out = tt;
  }

  IsPollable-opened : {T : Type 0} (meaning : Meaning J T) (tallies : List Tally) → IsPollable meaning (first_view tallies)
  IsPollable-opened meaning tallies = record {
    at = λ queue. rw (no_job tallies queue) (λ k d below. absurd (omega arith));
    parked = λ queue. rw (no_park tallies queue) (λ k d below. absurd (omega arith));
  }

  IsWithinTurns-opened : IsWithinTurns (first_view (no_tally ∷ []))
  IsWithinTurns-opened = record {
    tallies = All-push (FitsTurns turns 0) [] no_tally (λ k d below. absurd (omega arith)) (no_tally_fits turns 0 0 (omega arith));
    floor = omega arith;
  }

  -- all of it, of values that are equal to those
  pub IsCore-opened : {T : Type 0} (meaning : Meaning J T) (queues : SlippedView J) (tallies : List Tally) (keys : List Key) (places : ℕ) → queues ≡ slipped.first_queue room → tallies ≡ no_tally ∷ [] → keys ≡ [] →
      length senders.delivered ≡ cores + 1 → 256 ≤ places → IsCore meaning (core_view core cores (queues_alone queues) tallies 0 turns None senders None (record { burst = burst; «open» = None })) queues.slips keys 0 room places
  IsCore-opened meaning queues tallies keys places queues_are tallies_are keys_are known reserved = rw (queues_are, tallies_are, keys_are) (record {
    counted = KeepsCounts-opened places known reserved;
    listed = IsListed-opened (no_tally ∷ []);
    slipped = KeepsSlips-opened;
    pollable = IsPollable-opened meaning (no_tally ∷ []);
    turns = IsWithinTurns-opened;
    turning = record { single = λ none. refl; polled = λ has. tt; exists = tt };
  })
