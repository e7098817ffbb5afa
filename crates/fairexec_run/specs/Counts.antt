-- How many submissions a journal has, how many outcomes were collected, and how many orders were delivered.
use Rattle.std.specs.Prelude.{ℕ, ◌+◌, List, [], ◌∷◌, Option, None, Some}
use Rattle.base_words.specs.declared.names.JobId.{JobId}
use Rattle.base_words.specs.declared.note.Note.{Note}
use Rattle.base_words.specs.declared.note.Note.TheVariants.{Sent, Took, Back, Answered}
use Rattle.base_words.specs.Journal.{Journal}
use Rattle.base_words.specs.Outstanding.{name_collected}

-- the submission that a note says was sent
abbrev pub name_sent : Note ℕ → Option JobId
name_sent (Sent name order) = Some name
name_sent _ = None

abbrev pub one_if : Option JobId → ℕ
one_if None = 0
one_if (Some name) = 1

-- how many submissions the notes tell
abbrev pub sent_count : Journal ℕ → ℕ
sent_count [] = 0
sent_count (note ∷ before) = one_if (name_sent note) + sent_count before

-- how many collected outcomes they tell
abbrev pub collected_count : Journal ℕ → ℕ
collected_count [] = 0
collected_count (note ∷ before) = one_if (name_collected note) + collected_count before

-- one for an order that a note says was delivered
abbrev pub one_if_delivered : Note ℕ → ℕ
one_if_delivered (Took name queue) = 1
one_if_delivered (Back name reason) = 1
one_if_delivered (Answered name answer) = 1
one_if_delivered _ = 0

-- how many delivered orders they tell
abbrev pub delivered_count : Journal ℕ → ℕ
delivered_count [] = 0
delivered_count (note ∷ before) = one_if_delivered note + delivered_count before

-- how many all of these journals tell
abbrev pub delivered_in : List (Journal ℕ) → ℕ
delivered_in [] = 0
delivered_in (journal ∷ journals) = delivered_count journal + delivered_in journals
