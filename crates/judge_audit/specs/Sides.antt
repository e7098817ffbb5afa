-- The four lists of a link, as names.
use Rattle.std.specs.Prelude.{◌≡◌, ℕ, ◌+◌, ◌≤◌, ◌++◌, List, [], ◌∷◌, length, Option, None}
use Rattle.base_words.specs.declared.names.JobId.{JobId}
use Rattle.base_words.specs.declared.note.Note.{Note}
use Rattle.base_words.specs.declared.note.Note.TheVariants.{Sent, Back, Answered, Done, Returned, Collected}
use Rattle.base_words.specs.Assembly.{IsPrefix}
use Rattle.base_words.specs.Filters.{if_to, if_from, name_delivered}
use Rattle.base_words.specs.Journal.{Journal, list_told, with_last, at_place}
use Rattle.judge_audit.specs.declared.sides.Side.{Side}
use Rattle.judge_audit.specs.declared.sides.Side.TheVariants as sides

-- the name that a note says was sent to this core
abbrev pub name_sent : {T : Type 0} → ℕ → Note T → Option JobId
name_sent core (Sent name order) = if_to core name name
name_sent core _ = None

-- the name under which a note says an outcome was given to this actor
abbrev pub name_given : {T : Type 0} → ℕ → Note T → Option JobId
name_given actor (Done name time value) = if_from actor name name
name_given actor (Back name reason) = if_from actor name name
name_given actor (Returned name reason) = if_from actor name name
name_given actor (Answered name answer) = if_from actor name name
name_given actor _ = None

-- the name under which a note says an outcome of this core was collected
abbrev pub name_collected : {T : Type 0} → ℕ → Note T → Option JobId
name_collected core (Collected name what) = if_to core name name
name_collected core _ = None

-- the name that a note tells of a list
abbrev pub name_told : {T : Type 0} → Side → Note T → Option JobId
name_told (sides.Sent core) = name_sent core
name_told (sides.Delivered actor) = name_delivered actor
name_told (sides.Given actor) = name_given actor
name_told (sides.Collected core) = name_collected core

-- the next name behind a place, and the place behind it
pub record IsNext (side : Side) (journal : Journal ℕ) (from : ℕ) (name : JobId) (behind : ℕ) : Type 0 where
  pub within : behind ≤ length journal
  pub next : list_told (name_told side) (at_place behind journal) ≡ list_told (name_told side) (at_place from journal) ++ name ∷ []

-- with what a note tells the list goes on as the whole list does up to the next place
pub record Advances (front : Side) (note : Note ℕ) (whole : Side) (other : Journal ℕ) (behind next : ℕ) : Type 0 where
  pub within : next ≤ length other
  pub even :
      with_last (list_told (name_told whole) (at_place behind other)) (name_told front note) ≡ list_told (name_told whole) (at_place next other)

-- so far both journals tell the same list
pub record AreEven (front : Side) (front_journal : Journal ℕ) (place : ℕ) (whole : Side) (whole_journal : Journal ℕ) (behind : ℕ) : Type 0 where
  pub within : behind ≤ length whole_journal
  pub even : list_told (name_told front) (at_place place front_journal) ≡ list_told (name_told whole) (at_place behind whole_journal)

-- up to this line, counted from 1, a journal tells what isn't the beginning of the whole list, and before it what is
pub record TurnsOff (told : Journal ℕ → List JobId) (journal : Journal ℕ) (whole : List JobId) (line : ℕ) : Type 0 where
  pub place : ℕ
  pub counted : line ≡ place + 1
  pub within : line ≤ length journal
  pub kept : IsPrefix (told (at_place place journal)) whole
  pub broken : IsPrefix (told (at_place line journal)) whole → ⊥
