-- What is known inside of the queue of the job that is out, or of the turn that is open.
use Rattle.core_core.proofs.Names.{arith, Bool, CoreView, false, FitsTurns, IsCore, JobOut, Key, LacksQueue, List, Meaning, None, OpenTurn, queue_count, queue_held, slice_index_or, Some, subst, sym, Tally, tally_of, true, ℕ, ◌<◌, ◌∙◌, ◌≡◌}
use Rattle.core_core.proofs.Charging.{tally_read}
use Rattle.core_core.proofs.Counting.{some_inside}
use Rattle.core_core.proofs.FurtherTurn.{turn_exists, turn_fits}
use Rattle.core_core.proofs.Held.{held_out, held_turn}
use Rattle.core_core.proofs.Listed.{LacksQueue-from_none}
use Rattle.core_core.proofs.Settling.{held_entry_at}
use Rattle.core_core.proofs.SlipsKept.{slip_there}

module _ {J : Type 0} where
  -- it exists, isn't listed, has its slip, and what is read of its tally fits the turns but the one that is open
  pub record KnowsHeld (view : CoreView J) (slips : List Bool) (keys : List Key) (queue : ℕ) : Type 0 where
    pub exists : queue < queue_count view.queues
    pub absent : LacksQueue queue keys
    pub there : slice_index_or slips queue false ≡ true
    pub read : (place : ℕ) → place ≡ queue → (was : Tally) → was ≡ slice_index_or view.tallies place was → was ≡ tally_of queue view
    pub before : (place : ℕ) → place ≡ queue → (was : Tally) → was ≡ slice_index_or view.tallies place was → FitsTurns view.turns 1 was

  knows_held : {T : Type 0} (meaning : Meaning J T) (view : CoreView J) (slips : List Bool) (keys : List Key) (inside room places queue : ℕ) → IsCore meaning view slips keys inside room places →
      queue_held view ≡ Some queue → queue < queue_count view.queues → KnowsHeld view slips keys queue
  knows_held meaning view slips keys inside room places queue core held exists =
      let none = core.listed.at queue ∙ held_entry_at view queue held in
      let read : (place : ℕ) → place ≡ queue → (was : Tally) → was ≡ slice_index_or view.tallies place was → was ≡ tally_of queue view =
      λ place at was found. tally_read view.tallies place queue was at (omega (arith, at, core.counted.tallies, exists)) found in
      let fits = turn_fits meaning view slips keys inside room places queue queue core held in
      record {
        exists = exists;
        absent = LacksQueue-from_none queue keys none;
        there = slip_there _ _ keys queue exists none core.slipped;
        read = read;
        before = λ place at was found. subst (FitsTurns view.turns 1) (sym (read place at was found)) fits;
      }

  -- the queue of the job that is out
  pub knows_out : {T : Type 0} (meaning : Meaning J T) (view : CoreView J) (slips : List Bool) (keys : List Key) (inside room places : ℕ) (out : JobOut J) → IsCore meaning view slips keys inside room places →
      view.out ≡ Some out → KnowsHeld view slips keys out.queue
  knows_out meaning view slips keys inside room places out core is =
      knows_held meaning view slips keys inside room places out.queue core (held_out view out is) (some_inside view inside room places out is core.counted).1

  -- that of the turn that is open, where no job is out
  pub knows_turn : {T : Type 0} (meaning : Meaning J T) (view : CoreView J) (slips : List Bool) (keys : List Key) (inside room places : ℕ) (turn : OpenTurn) → IsCore meaning view slips keys inside room places →
      view.out ≡ None → view.bursts.open ≡ Some turn → KnowsHeld view slips keys turn.queue
  knows_turn meaning view slips keys inside room places turn core free is =
      knows_held meaning view slips keys inside room places turn.queue core (held_turn view turn free is) (turn_exists meaning view slips keys inside room places turn core is)
