-- A step of a worker writes few notes.
use Rattle.std.specs.Prelude.{◌≡◌, ℕ, ◌+◌, ◌*◌, ◌≤◌, false, length}
use Rattle.note_journal.specs.Journals.{free_notes}
use Rattle.actor_core.specs.Rooms.{turn_notes}
use Rattle.run_worker.specs.Ended.{ServedView}
use Rattle.run_worker.specs.Rooms.{least_free}

-- how many notes a turn writes at most: three for each place of each link, which its polls may post together, and those of the turn
abbrev pub most_of_turn : ℕ → ℕ → ℕ → ℕ
most_of_turn cores cap burst = cores * (3 * cap) + turn_notes burst

module _ {J T : Type 0} where
  -- As long as its worker doesn't come to its end, the step writes at most so many notes. The worker doesn't come to its end by it where so many are free beyond
  -- those of a short journal.
  pub record WritesFew (count : ℕ) (old new : ServedView J T) : Type 0 where
    pub wrote : new.ending ≡ old.ending → length new.linked.recorded.journal.notes ≤ length old.linked.recorded.journal.notes + count
    pub goes : old.ending ≡ false
        → least_free old.linked.recorded.core.cores old.linked.recorded.cap old.linked.recorded.core.bursts.burst + count ≤ free_notes old.linked.recorded.journal
        → new.ending ≡ false

  -- so many notes a turn of this worker writes at most
  abbrev pub turn_most : ServedView J T → ℕ
  turn_most view = most_of_turn view.linked.recorded.core.cores view.linked.recorded.cap view.linked.recorded.core.bursts.burst

  -- so many a whole round writes at most: as many as a short journal lacks
  abbrev pub round_most : ServedView J T → ℕ
  round_most view = least_free view.linked.recorded.core.cores view.linked.recorded.cap view.linked.recorded.core.bursts.burst

  -- gates that are shut, and deliveries: one for each sender, and two for each place of each link
  abbrev pub taken_most : ServedView J T → ℕ
  taken_most view = view.linked.recorded.core.cores + 1 + (view.linked.recorded.core.cores + 1) * (2 * view.linked.recorded.cap)

  -- wakes of jobs that slept: two for each place of a link
  abbrev pub woken_most : ServedView J T → ℕ
  woken_most view = 2 * view.linked.recorded.cap

  -- outcomes that are collected: one for each place of each link
  abbrev pub got_most : ServedView J T → ℕ
  got_most view = view.linked.recorded.core.cores * view.linked.recorded.cap
