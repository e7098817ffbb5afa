-- Which queues a note speaks of.
use Rattle.std.specs.Prelude.{◌≡◌, ℕ, Option, Some, None}
use Rattle.base_words.specs.declared.note.Note.{Note}
use Rattle.base_words.specs.declared.note.Note.TheVariants.{Took, Created, SharesSet, QueueClosed, Woken, Pick, Start, Resume, Yield, Park, Stayed, Done, Returned, Turned}
use Rattle.base_words.specs.Journal.{Journal}
use Rattle.base_words.specs.Work.{queue_of}
use Rattle.note_facts.specs.Parks.{park_of}
use Rattle.note_facts.specs.declared.spots.Spot.{Spot}

-- the queue that a note speaks of, by its number or by a job of it
abbrev pub queue_noted : {T : Type 0} → Note T → Journal T → Option ℕ
queue_noted (Took name queue) before = Some queue
queue_noted (Created queue weight) before = Some queue
queue_noted (SharesSet queue weight) before = Some queue
queue_noted (QueueClosed queue mode) before = Some queue
queue_noted (Pick queue runtime) before = Some queue
queue_noted (Start name) before = queue_of name before
queue_noted (Resume name) before = queue_of name before
queue_noted (Yield name time) before = queue_of name before
queue_noted (Park name time) before = queue_of name before
queue_noted (Stayed name time) before = queue_of name before
queue_noted (Done name time value) before = queue_of name before
queue_noted (Returned name reason) before = queue_of name before
queue_noted (Turned queue time) before = Some queue
queue_noted _ before = None

-- the queue in which the job is parked whose park a note ends or renews
abbrev pub park_noted : {T : Type 0} → Note T → Journal T → Option ℕ
park_noted (Park name time) before = park_of name before
park_noted (Woken name) before = park_of name before
park_noted _ before = None

-- the queue in which a note that speaks of this queue parks a job
abbrev pub queue_parking : {T : Type 0} → Note T → Option ℕ → Option ℕ
queue_parking (Park name time) queue = queue
queue_parking _ queue = None

-- the queues of a spot are those of a note
pub record FitsSpot {T : Type 0} (spot : Spot) (note : Note T) (before : Journal T) : Type 0 where
  pub queue : spot.queue ≡ queue_noted note before
  pub parked : spot.parked ≡ park_noted note before
