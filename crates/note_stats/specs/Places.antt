-- What a queue gained between two places of a journal.
use Rattle.std.specs.Prelude.{ℕ, ◌-◌, length, take}
use Rattle.base_words.specs.Journal.{Journal, at_place}
use Rattle.base_words.specs.Lag.{gained}

-- the notes from a place on
abbrev pub notes_from : {T : Type 0} → ℕ → Journal T → Journal T
notes_from place journal = take (length journal - place) journal

-- what a queue gained from a place on
abbrev pub gained_from : {T : Type 0} → ℕ → ℕ → ℕ → Journal T → ℕ
gained_from burst queue place journal = gained burst queue (notes_from place journal) (at_place place journal)

-- what a queue gained from one place to another: the sum of its charges in the notes between them
abbrev pub gained_between : {T : Type 0} → ℕ → ℕ → ℕ → ℕ → Journal T → ℕ
gained_between burst queue from to journal = gained_from burst queue from (at_place to journal)
