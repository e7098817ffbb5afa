-- One turn of a worker that keeps room for its end, with the clock and the gate that serve it.
use Rattle.std.specs.Prelude.{◌≡◌, ℕ, Bool}
use Rattle.base_words.specs.declared.names.JobId.{JobId}
use Rattle.base_jobs.specs.Meanings.{Meaning}
use Rattle.run_worker.specs.Asks.{NotesNoPoll}
use Rattle.actor_seat.specs.Bursts.{MakesTurn, turn_view}
use Rattle.actor_seat.specs.Linked.{StaysLinked}
use Rattle.run_worker.specs.Ended.{ServedView}
use Rattle.run_worker.specs.Rooms.{IsReady}
use Rattle.run_worker.specs.Rounds.{LooksAtRoom, is_turn}
use Rattle.actor_core.specs.declared.whole.Turned.{Turned}

module _ {J T M G : Type 0} (meaning : Meaning J T) (tells : M → ℕ → M → Type 0) (asked : G → ℕ → JobId → G → Type 0) where
  -- The room is looked at, and then one turn is made; it tells whether there was work. A worker that is at its end right before the turn was so before, or
  -- it closed its core and shut each gate just now, and it is at its end behind the turn. The meter tells of each poll, and the gate is asked for each. No
  -- poll is noted before the turn.
  pub record TakesTurn (meter later : M) (gate after : G) (old : ServedView J T) (some : Bool) (new : ServedView J T) : Type 0 where
    pub before : ServedView J T
    pub looks : LooksAtRoom old before
    pub none : NotesNoPoll old.linked.recorded.journal.notes before.linked.recorded.journal.notes
    pub stays : StaysLinked old.linked before.linked
    pub ready : IsReady before.ending before.linked.recorded
    pub ended : new.ending ≡ before.ending
    pub made : Turned
    pub makes : MakesTurn meaning tells asked (turn_view before.linked meter gate) made (turn_view new.linked later after)
    pub answer : some ≡ is_turn made
