-- What is seen of a worker.
use Rattle.std.specs.Prelude.{◌≡◌, ℕ, Bool, false, Option, None, List, slice_index_or}
use Rattle.core_timers.specs.Timers.{Timers, IsVacant}
use Rattle.actor_seat.specs.Bells.{BellView}
use Rattle.run_worker.specs.Ended.{EndedView, ServedView}
use Rattle.actor_seat.specs.Linked.{LinkedView, RunsOn}
use Rattle.run_worker.specs.Shown.{ShownView}

-- A core beside its journal and ends, with a clock and a gate of its own, whether the worker is at its end, and the timers of the jobs that sleep. The reading behind its last poll, if the
-- next poll begins with it. How long polls took since its last look at its links, and how many turns it may make before the next. After how many rounds in which nothing was done it parks, and how many such rounds it made in a
-- row. The names of the bells that it rings, and the sink to which it passes on notes. Its board, and how many rounds in which something was done it counted
-- since it published last.
pub record WorkerView (J T C G S : Type 0) : Type 0 where
  pub linked : LinkedView J T
  pub ending : Bool
  pub timers : Timers
  pub clock : C
  pub gate : G
  pub last : Option ℕ
  pub taken : ℕ
  pub turns : ℕ
  pub tries : ℕ
  pub idle : ℕ
  pub bells : List ℕ
  pub sink : S
  pub shown : ShownView T
  pub since : ℕ

-- its core, and whether it is at its end
abbrev pub served_of : {J T C G S : Type 0} → WorkerView J T C G S → ServedView J T
served_of worker = record { linked = worker.linked; ending = worker.ending }

-- it is the bell of this core among those of these names
pub record IsBellOf (core : ℕ) (names : List ℕ) (bell : BellView) : Type 0 where
  pub actor : bell.actor ≡ core
  pub name : bell.name ≡ slice_index_or names core 0

-- a worker that has made no round yet: it isn't at its end, no job of it sleeps, it looks at its links first, and its clock wasn't read
pub record HasNotBegun {J T C G S : Type 0} (worker : WorkerView J T C G S) : Type 0 where
  pub ending : worker.ending ≡ false
  pub timers : IsVacant worker.timers
  pub last : worker.last ≡ None
  pub taken : worker.taken ≡ 0
  pub turns : worker.turns ≡ 0
  pub idle : worker.idle ≡ 0

-- what a worker owes of what it gives back: its life goes on, it is the same board, and its sink bears the same mark
pub record KeepsOn {J T C G S : Type 0} (mark : S → ℕ) (worker : WorkerView J T C G S) (ended : EndedView J T S) : Type 0 where
  pub runs : RunsOn worker.linked ended.linked
  pub board : ended.shown.board ≡ worker.shown.board
  pub marked : mark ended.sink ≡ mark worker.sink
