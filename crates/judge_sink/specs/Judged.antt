-- What is known of the notes of its own core that a sink judged.
use Rattle.std.specs.Prelude.{◌≡◌, ℕ, if◌then◌else◌, None, ◌∷◌, length}
use Rattle.base_words.specs.declared.note.Note.{Note}
use Rattle.base_words.specs.declared.note.Note.TheVariants.{Sent, Took, Back, Answered, Shut}
use Rattle.base_words.specs.Closing.{IsCounted, IsNextShut, final_count}
use Rattle.base_words.specs.Commands.{has_effect}
use Rattle.base_words.specs.Filters.{accepted_orders}
use Rattle.base_words.specs.Journal.{Journal, EachNote}
use Rattle.base_words.specs.Lawful.{MayStand}
use Rattle.base_words.specs.Terms.{Terms}

-- the same notes without an answer whose effect is still to be told
abbrev pub without_awaited : Journal ℕ → Journal ℕ
without_awaited (Answered name answer ∷ before) = if has_effect answer then before else Answered name answer ∷ before
without_awaited journal = journal

-- a gate may be shut, and the core's own is shut at the count of what it sent to itself
pub record MayShut (core cores sender count : ℕ) (before : Journal ℕ) : Type 0 where
  pub next : IsNextShut cores sender count before
  pub own : sender ≡ core → count ≡ length (accepted_orders core before)

-- a gate is shut as it may be, behind its own the core sends itself nothing, and what is delivered is within the count of its gate
abbrev pub IsAllowed : ℕ → ℕ → Note ℕ → Journal ℕ → Type 0
IsAllowed core cores (Shut sender count) before = MayShut core cores sender count before
IsAllowed core cores (Sent name order) before = name.to ≡ core → final_count core before ≡ None
IsAllowed core cores (Took name queue) before = IsCounted (final_count name.from before) name.number
IsAllowed core cores (Back name reason) before = IsCounted (final_count name.from before) name.number
IsAllowed core cores (Answered name answer) before = IsCounted (final_count name.from before) name.number
IsAllowed core cores _ before = Unit {0}

-- a note keeps to the gates of its core
pub record KeepsLinks (core cores : ℕ) (note : Note ℕ) (before : Journal ℕ) : Type 0 where
  pub allowed : IsAllowed core cores note before

-- each note may stand where it stands, and keeps to the gates, an answer whose effect is still to be told too
pub record IsJudged (terms : Terms) (has : Journal ℕ) : Type 0 where
  pub lawful : EachNote (MayStand terms) (without_awaited has)
  pub links : EachNote (KeepsLinks terms.actor terms.cores) has
