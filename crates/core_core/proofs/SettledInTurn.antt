-- A poll in an open turn is settled, and the turn ends: what holds inside then, and what it comes to in the words of the contract.
use Rattle.core_core.proofs.Names.{ap, arith, Bool, Bursts, ChangesLine, ChangesParks, charge, clamped, CoreView, FinishesOut, FitsTurns, is_any, is_some, IsCore, IsReady, IsWithinLimits, JobOut, Key, keys_after, lasted, length, length-set}
use Rattle.core_core.proofs.Names.{List, longer, Meaning, min, no_tally, None, OpenTurn, Option, parked_of, ParksOut, queue_held, QueuesView, refl, RejoinsOut, set-get_or, settled_tally, shares_of, slice_index_or, slice_set, slips_after}
use Rattle.core_core.proofs.Names.{Some, sym, Tally, tally_of, true, true≢false, waiting_of, ℕ, [], ◌++◌, ◌+◌, ◌-◌, ◌<◌, ◌^◌, ◌∙◌, ◌∷◌, ◌≡◌}
use Rattle.core_core.proofs.Charging.{tally_read}
use Rattle.core_core.proofs.Counting.{some_inside, KeepsCounts-held}
use Rattle.core_core.proofs.Held.{held_out, held_turn}
use Rattle.core_core.proofs.InTurn.{counted_in_turn, tallies_in_turn, IsCore-rejoined_in_turn, IsCore-parked_in_turn}
use Rattle.core_core.proofs.FurtherTurn.{turn_exists, turn_fits}
use Rattle.core_core.proofs.Fits.{charged_fits}
use Rattle.core_core.proofs.Whole.{IsCore-left}

-- what is there
pub some_open : (found : Option OpenTurn) → is_some found ≡ true → (turn : OpenTurn) × (found ≡ Some turn)
some_open None some = absurd (true≢false (sym some))
some_open (Some turn) some = (turn, refl)

-- the tally of a queue after its turn
abbrev pub after_end : Tally → ℕ → ℕ → Tally
after_end tally time weight = record tally { runtime = tally.runtime + charge time weight; time = tally.time + clamped time }

module _ {J T : Type 0} (meaning : Meaning J T) (old : CoreView J) (slips : List Bool) (keys : List Key) (inside room places : ℕ) (core : IsCore meaning old slips keys inside room places) where
  module _ (out : JobOut J) (was_out : old.out ≡ Some out) (some : is_some old.bursts.open ≡ true) (time : ℕ) (bursts : Bursts) (lasts : bursts ≡ record (old.bursts) { «open» = lasted time old.bursts.open }) where
    abbrev was : (turn : OpenTurn) × (old.bursts.open ≡ Some turn)
    was = some_open old.bursts.open some

    still_open : bursts.open ≡ Some (longer time was.0)
    still_open = ap (λ (one : Bursts). one.open) lasts ∙ ap (lasted time) was.1

    same_burst : bursts.burst ≡ old.bursts.burst
    same_burst = ap (λ (one : Bursts). one.burst) lasts

    fits : FitsTurns old.turns 1 (tally_of out.queue old)
    fits = turn_fits meaning old slips keys inside room places out.queue out.queue core (held_out old out was_out)

    same_tallies : old.tallies ≡ slice_set old.tallies out.queue (settled_tally old.bursts.open time (shares_of out.queue old.queues) 0 (tally_of out.queue old))
    same_tallies =
        sym (tallies_in_turn old out.queue old.turns 1 was.0 time (shares_of out.queue old.queues) fits)
        ∙ ap (λ (found : Option OpenTurn). slice_set old.tallies out.queue (settled_tally found time (shares_of out.queue old.queues) 0 (tally_of out.queue old))) (sym was.1)

    -- the core once the job has its place again
    abbrev pub settled_in_turn : QueuesView J → CoreView J
    settled_in_turn queues = record old { queues = queues; out = None; bursts = bursts }

    -- it goes to the tail of its queue
    pub rejoins_in_turn : (queues : QueuesView J) (woken : Bool) (job : J) → ChangesLine old.queues queues out.queue (waiting_of out.queue old.queues ++ (out.name, record { started = true; woken = woken }, job) ∷ []) → IsWithinLimits queues → IsReady meaning job →
        IsCore meaning (settled_in_turn queues) slips keys inside room places × RejoinsOut old out.name woken job time (settled_in_turn queues)
    rejoins_in_turn queues woken job joins limits ready = (
      IsCore-rejoined_in_turn meaning old (settled_in_turn queues) slips keys inside room places out was.0 (longer time was.0) (tally_of out.queue old) core was_out was.1 refl still_open refl same_burst
          (sym (set-get_or old.tallies out.queue no_tally)) fits refl refl refl refl (record { started = true; woken = woken }) job joins limits ready,
      record { out = out; was_out = was_out; named = refl; line = joins; rest = λ i. record old { queues = queues; tallies = same_tallies i; out = None; bursts = lasts i } },
    )

    -- it is parked
    pub parks_in_turn : (queues : QueuesView J) (job : J) → ChangesParks old.queues queues out.queue (parked_of out.queue old.queues ++ (out.name, job) ∷ []) → IsWithinLimits queues → IsReady meaning job →
        IsCore meaning (settled_in_turn queues) slips keys inside room places × ParksOut old out.name job time (settled_in_turn queues)
    parks_in_turn queues job parks limits ready = (
      IsCore-parked_in_turn meaning old (settled_in_turn queues) slips keys inside room places out was.0 (longer time was.0) (tally_of out.queue old) core was_out was.1 refl still_open refl same_burst
          (sym (set-get_or old.tallies out.queue no_tally)) fits refl refl refl refl job parks limits ready,
      record { out = out; was_out = was_out; named = refl; parks = parks; rest = λ i. record old { queues = queues; tallies = same_tallies i; out = None; bursts = lasts i } },
    )

    -- it is done
    pub finishes_in_turn : (read written : ℕ) (tally new : Tally) → read ≡ out.queue → written ≡ out.queue → tally ≡ slice_index_or old.tallies read tally → new ≡ record tally { finished = min (tally.finished + 1) (2 ^ 64 - 1) } →
        FinishesOut old out.name time (record old { tallies = slice_set old.tallies written new; out = None; bursts = bursts })
    finishes_in_turn read written tally new at at_too found value =
        let exists = (some_inside old inside room places out was_out core.counted).1 in
        let within : read < length old.tallies = omega (arith, at, exists, core.counted.tallies) in
        let is = tally_read old.tallies read out.queue tally at within found in
        let counted = value ∙ ap (λ (one : Tally). record one { finished = min (one.finished + 1) (2 ^ 64 - 1) }) is ∙ counted_in_turn was.0 time (shares_of out.queue old.queues) 1 (tally_of out.queue old)
        ∙ ap (λ (one : Option OpenTurn). settled_tally one time (shares_of out.queue old.queues) 1 (tally_of out.queue old)) (sym was.1) in
        let tallies = ap (λ place. slice_set old.tallies place new) at_too ∙ ap (slice_set old.tallies out.queue) counted in
        record { out = out; was_out = was_out; named = refl; rest = λ i. record old { tallies = tallies i; out = None; bursts = lasts i } }

  -- the turn of a queue ends, and the queue is listed again if a job waits in it
  pub IsCore-turn_ended : (turn : OpenTurn) (tally : Tally) (weight : ℕ) → old.bursts.open ≡ Some turn → old.out ≡ None → tally ≡ after_end (tally_of turn.queue old) turn.time weight → tally.runtime < (tally_of turn.queue old).runtime + 2 ^ 50 → tally.time < (tally_of turn.queue old).time + 2 ^ 40 →
      IsCore meaning (record old { tallies = slice_set old.tallies turn.queue tally; bursts = record (old.bursts) { «open» = None } }) (slips_after (is_any (waiting_of turn.queue old.queues)) turn.queue slips)
      (keys_after (is_any (waiting_of turn.queue old.queues)) tally.runtime turn.queue keys) inside room places
  IsCore-turn_ended turn tally weight is_open free value charge_below time_below =
      let new : CoreView J = record old { tallies = slice_set old.tallies turn.queue tally; bursts = record (old.bursts) { «open» = None } } in
      let held : queue_held old ≡ Some turn.queue = held_turn old turn free is_open in
      let exists = turn_exists meaning old slips keys inside room places turn core is_open in
      let before = turn_fits meaning old slips keys inside room places turn.queue turn.queue core held in
      let finished : tally.finished ≡ (tally_of turn.queue old).finished = ap (λ (one : Tally). one.finished) value in
      let fits : FitsTurns old.turns 0 tally =
      charged_fits old.turns (tally_of turn.queue old) tally before (omega (arith, charge_below)) (ap (λ (one : Tally). one.selected) value) (omega (arith, time_below)) (omega (arith, finished, before.finished)) (ap (λ (one : Tally). one.returned) value) in
      IsCore-left meaning old new slips keys inside inside room places turn.queue tally (is_any (waiting_of turn.queue old.queues)) core held exists free refl (λ other. refl) refl
      (KeepsCounts-held old new inside room places refl refl refl core.counted.limits refl refl core.counted.out (length-set old.tallies turn.queue tally) refl core.counted)
      (record { at = core.pollable.at; parked = core.pollable.parked }) refl fits refl refl refl
