-- Which polls a journal tells, and that a gate was asked for each of them.
use Rattle.std.specs.Prelude.{◌≡◌, ℕ, Option, Some, None, List, [], ◌∷◌, ◌++◌}
use Rattle.base_words.specs.declared.names.JobId.{JobId}
use Rattle.base_words.specs.declared.note.Note.{Note}
use Rattle.base_words.specs.declared.note.Note.TheVariants.{Start, Resume}
use Rattle.base_words.specs.Journal.{Journal}

-- one poll more, if there is one
abbrev pub with_poll : Option JobId → List JobId → List JobId
with_poll None polls = polls
with_poll (Some name) polls = name ∷ polls

module _ {T : Type 0} where
  -- the job that a note says is polled
  abbrev pub name_polled : Note T → Option JobId
  name_polled (Start name) = Some name
  name_polled (Resume name) = Some name
  name_polled _ = None

  -- the jobs that a journal says are polled, the last poll first
  abbrev pub polls_of : Journal T → List JobId
  polls_of [] = []
  polls_of (note ∷ before) = with_poll (name_polled note) (polls_of before)

  -- no poll was noted
  abbrev pub NotesNoPoll : Journal T → Journal T → Type 0
  NotesNoPoll old new = polls_of new ≡ polls_of old

module _ {G : Type 0} (asked : G → ℕ → JobId → G → Type 0) where
  -- the gate was asked once for each of these polls by this core, the last poll first, and for nothing else
  abbrev pub AsksFor : ℕ → List JobId → G → G → Type 0
  AsksFor core [] old new = new ≡ old
  AsksFor core (name ∷ before) old new = (middle : G) × AsksFor core before old middle × asked middle core name new

  -- the gate was asked by this core once for each poll that was noted since, in their order, and for nothing else
  pub record AsksSince {T : Type 0} (core : ℕ) (old new : Journal T) (before after : G) : Type 0 where
    pub polls : List JobId
    pub told : polls_of new ≡ polls ++ polls_of old
    pub asks : AsksFor core polls before after
