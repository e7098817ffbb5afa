-- What is true of a caller at any time, and what it has beside what is seen.
use Rattle.std.specs.Prelude.{◌≡◌, ℕ, ◌+◌, ◌<◌, ◌≤◌, Bool, true, Option, List, [], ◌∷◌, ◌++◌, length, map}
use Rattle.base_words.specs.declared.order.Order.{Order}
use Rattle.base_words.specs.declared.order.Outcome.{Outcome}
use Rattle.base_words.specs.Journal.{Journal}
use Rattle.base_words.specs.Spelled.{IsWithinLimits}
use Rattle.note_journal.specs.Journals.{places_of}
use Rattle.actor_desk.specs.Spending.{booked}
use Rattle.actor_desk.specs.Tickets.{HasLane}
use Rattle.link_ring.specs.Ends.{out_at}
use Rattle.link_ring.specs.Grid.{IsGrid}
use Rattle.run_config.specs.Configs.{least_room}
use Rattle.actor_seat.specs.Opening.{IsWorkerOf}
use Rattle.actor_seat.specs.OutsideSeats.{IsOutside, OutsideView}
use Rattle.actor_seat.specs.Together.{worker_at}
use Rattle.actor_caller.specs.Rings.{RingsView}
use Rattle.actor_caller.specs.State.{RuntimeView, outside_of}
use Rattle.actor_caller.specs.Teams.{TeamView}
use Rattle.run_watch.specs.declared.watcher.Watching.{Watching}

module _ {J T : Type 0} (fits : Order J → Outcome J T → Type 0) where
  -- Each core has its worker and its bell, and the outside actor has one; all links of the house are there, and the outside actor's journal is written by the rules and beside its ends.
  -- It has room for each note that is due of its submissions, and as many places as a worker needs.
  pub record IsRuntime (view : RuntimeView J T) : Type 0 where
    pub count : length view.workers ≡ view.desk.cores
    pub each : (core : ℕ) → core < view.desk.cores → IsWorkerOf core view.desk.cores view.desk.cap view.desk.burst view.room (worker_at core view.workers)
    pub actor : view.desk.actor ≡ view.desk.cores
    pub outside : IsOutside (outside_of view)
    pub grid : IsGrid view.desk.cores (map (λ worker. worker.ends) view.workers ++ view.ends ∷ [])
    pub closings : length view.closing ≡ view.desk.cores
    pub bells : length view.rung.times ≡ view.desk.cores + 1
    pub lanes : (core : ℕ) → core < view.desk.cores → HasLane fits core view.desk (out_at core view.ends).out (out_at core view.ends).credited
    pub lanes_are : length view.desk.lanes ≡ view.desk.cores
    pub room_is : booked view.desk ≤ view.desk.journal.room
    pub places : least_room view.desk.cores view.desk.cap view.desk.burst ≤ places_of view.desk.journal
    pub limits : IsWithinLimits view.desk.cores view.desk.cap view.desk.burst

module _ {J S : Type 0} (asks : S → Option ℕ) (mark : S → ℕ) where
  -- what a caller sees of a runtime that has these parts
  abbrev pub view_of : OutsideView J ℕ → List Bool → TeamView J ℕ → ℕ → RingsView J ℕ → Bool → S → List Watching → RuntimeView J ℕ
  view_of outside closing team room rung refused sink watched = record {
    desk = outside.desk;
    ends = outside.ends;
    closing = closing;
    workers = team.workers;
    room = room;
    rung = rung;
    bells = team.bells;
    refused = refused;
    asks = asks sink;
    watched = watched;
    marks = team.marks ++ mark sink ∷ [];
    tries = team.tries;
  }

module _ {J S : Type 0} (fits : Order J → Outcome J ℕ → Type 0) (has : S → Journal ℕ) (refused : S → ℕ → Type 0) where
  -- A runtime with its numbers. The outside actor's sink has the notes that were passed on. If it refused when it was last asked, it says so.
  pub record IsHeld (view : RuntimeView J ℕ) (cores cap : ℕ) (sink : S) : Type 0 where
    pub runtime : IsRuntime fits view
    pub cores_are : cores ≡ view.desk.cores
    pub cap_is : cap ≡ view.desk.cap
    pub has_passed : has sink ≡ view.desk.journal.passed
    pub refusal : view.refused ≡ true → refused sink (length view.desk.journal.passed)
