-- Queues that were told one after another.
use Rattle.std.specs.Prelude.{◌≡◌, ℕ, ◌<◌, min, nat_lt, if◌then◌else◌, get_or}
use Rattle.note_facts.specs.declared.recent.Recent.{Recent}

-- how many queues there are to go over
abbrev pub size : Recent → ℕ
size recent = min recent.told 256

-- the queue at a place: where more than 256 were told, each queue has a place
abbrev pub queue_at : Recent → ℕ → ℕ
queue_at recent place = if nat_lt 256 recent.told then place else get_or recent.queues place 0

-- a queue has a place
pub record Holds (recent : Recent) (queue : ℕ) : Type 0 where
  pub place : ℕ
  pub within : place < size recent
  pub is : queue_at recent place ≡ queue
