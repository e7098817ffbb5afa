-- Names of submissions, as the host knows them.
use Rattle.std.specs.Prelude.{◌≡◌, ◌⊎◌, ◌<◌, ◌≤◌, Option, Some, None}
use Rattle.base_words.specs.declared.names.JobId.{JobId}
use Rattle.host_calls.specs.declared.names.Name.{Name}

-- a name for the host
abbrev pub name_told : JobId → Name
name_told name = record { number = name.number; from = name.from; to = name.to }

-- the name that the host's stands for, if an actor and a core can have its numbers
abbrev pub IsTicketOf : Name → Option JobId → Type 0
IsTicketOf told (Some name) = name_told name ≡ told
IsTicketOf told None = (256 ≤ told.from) ⊎ (256 ≤ told.to)
