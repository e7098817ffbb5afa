-- A poll that ends its turn is settled, and its job comes back: what holds inside then, and what it comes to in the words of the contract.
use Rattle.core_core.proofs.Names.{arith, Bool, ChangesLine, ChangesParks, CoreView, false, FitsTurns, inserted, is_any, IsCore, IsReady, IsWithinLimits, JobOut, Key, keys_after, length, List, Meaning, None, parked_of, ParksOut, QueuesView, refl}
use Rattle.core_core.proofs.Names.{RejoinsOut, settled_tally, shares_of, slice_index_or, slice_set, slips_after, Some, Tally, tally_of, true, waiting_of, ℕ, [], ◌++◌, ◌+◌, ◌<◌, ◌^◌, ◌∷◌, ◌≡◌}
use Rattle.core_core.proofs.Charging.{after_poll, charge_fits, charge_written, lasted_single}
use Rattle.core_core.proofs.HeldQueue.{KnowsHeld, knows_out}
use Rattle.core_core.proofs.Whole.{IsCore-rejoined, IsCore-parked}

module _ {J T : Type 0} (meaning : Meaning J T) (old : CoreView J) (slips : List Bool) (keys : List Key) (inside room places : ℕ) (core : IsCore meaning old slips keys inside room places)
    (out : JobOut J) (was_out : old.out ≡ Some out) (no_turn : old.bursts.open ≡ None) (time place shares : ℕ) (was tally : Tally) (at : place ≡ out.queue) (found : was ≡ slice_index_or old.tallies place was)
    (same : shares ≡ shares_of out.queue old.queues) (value : tally ≡ after_poll was time shares 0) (charge : tally.runtime < was.runtime + 2 ^ 50) (clamped : tally.time < was.time + 2 ^ 40) where
  known : KnowsHeld old slips keys out.queue
  known = knows_out meaning old slips keys inside room places out core was_out

  fits : FitsTurns old.turns 0 tally
  fits = charge_fits old.turns was tally time shares 0 (known.before place at was found) value charge clamped

  within : place < length old.tallies
  within = omega (arith, at, core.counted.tallies, known.exists)

  written : slice_set old.tallies out.queue tally ≡ slice_set old.tallies out.queue (settled_tally old.bursts.open time (shares_of out.queue old.queues) 0 (tally_of out.queue old))
  written = charge_written old.tallies place out.queue out.queue was tally old.bursts.open time shares (shares_of out.queue old.queues) 0 at refl within found value same no_turn

  -- the core once the job has its place again
  abbrev pub charged : QueuesView J → CoreView J
  charged queues = record old { queues = queues; tallies = slice_set old.tallies out.queue tally; out = None }

  -- it goes to the tail of its queue
  pub rejoins_charged : (queues : QueuesView J) (woken : Bool) (job : J) → ChangesLine old.queues queues out.queue (waiting_of out.queue old.queues ++ (out.name, record { started = true; woken = woken }, job) ∷ []) → IsWithinLimits queues → IsReady meaning job →
      IsCore meaning (charged queues) (slice_set slips out.queue false) (inserted (record { vr = tally.runtime; queue = out.queue }) keys) inside room places × RejoinsOut old out.name woken job time (charged queues)
  rejoins_charged queues woken job joins limits ready = (
    IsCore-rejoined meaning old (charged queues) slips keys inside room places out (record { started = true; woken = woken }) job tally core was_out refl no_turn joins limits refl fits refl refl refl refl ready,
    record { out = out; was_out = was_out; named = refl; line = joins; rest = λ i. record old { queues = queues; tallies = written i; out = None; bursts = lasted_single old.bursts time no_turn i } },
  )

  -- it is parked
  pub parks_charged : (queues : QueuesView J) (job : J) → ChangesParks old.queues queues out.queue (parked_of out.queue old.queues ++ (out.name, job) ∷ []) → IsWithinLimits queues → IsReady meaning job →
      IsCore meaning (charged queues) (slips_after (is_any (waiting_of out.queue queues)) out.queue slips) (keys_after (is_any (waiting_of out.queue queues)) tally.runtime out.queue keys) inside room places
      × ParksOut old out.name job time (charged queues)
  parks_charged queues job parks limits ready = (
    IsCore-parked meaning old (charged queues) slips keys inside room places out job tally (is_any (waiting_of out.queue queues)) core was_out refl no_turn parks limits refl fits refl refl refl refl ready refl,
    record { out = out; was_out = was_out; named = refl; parks = parks; rest = λ i. record old { queues = queues; tallies = written i; out = None; bursts = lasted_single old.bursts time no_turn i } },
  )
