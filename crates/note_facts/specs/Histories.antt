-- What the notes of a journal tell at each place under the name of the note there.
use Rattle.std.specs.Prelude.{◌≡◌, ◌↔◌, ℕ, ◌+◌, ◌<◌, Option, Some, None, true, false, List, ◌∷◌, length, get_or}
use Rattle.base_words.specs.declared.names.JobId.{JobId}
use Rattle.base_words.specs.declared.note.Note.{Note}
use Rattle.base_words.specs.declared.note.Note.TheVariants.{Back, Answered, Woken, Start, Resume, Yield, Park, Stayed, Done, Returned, Redeemed}
use Rattle.base_words.specs.Assembly.{first_under}
use Rattle.base_words.specs.Clauses.{name_answered}
use Rattle.base_words.specs.Commands.{stays_in_line}
use Rattle.base_words.specs.Filters.{collected_outcomes, name_started, name_ended}
use Rattle.base_words.specs.Journal.{Journal, is_told, at_place}
use Rattle.base_words.specs.Outstanding.{name_redeemed}
use Rattle.base_words.specs.Work.{queue_of}
use Rattle.note_facts.specs.declared.histories.Fact.{Fact}
use Rattle.note_facts.specs.declared.histories.History.{History}
use Rattle.note_facts.specs.Parks.{park_of}
use Rattle.note_facts.specs.Jobs.{KnowsPast}

-- nothing was told
abbrev pub no_fact : Fact
no_fact = record { queue = None; parked = None; stays = false; started = false; ended = false; answered = false; redeemed = false; collected = false }

-- the name of which a note asks what was told before it
abbrev pub name_asked : {T : Type 0} → Note T → Option JobId
name_asked (Back name reason) = Some name
name_asked (Answered name answer) = Some name
name_asked (Woken name) = Some name
name_asked (Start name) = Some name
name_asked (Resume name) = Some name
name_asked (Yield name time) = Some name
name_asked (Park name time) = Some name
name_asked (Stayed name time) = Some name
name_asked (Done name time value) = Some name
name_asked (Returned name reason) = Some name
name_asked (Redeemed name outcome) = Some name
name_asked _ = None

-- a fact is what these notes tell under a name
pub record TellsOf (fact : Fact) (name : JobId) (before : Journal ℕ) : Type 0 where
  pub queue : fact.queue ≡ queue_of name before
  pub parked : fact.parked ≡ park_of name before
  pub stays : fact.stays ≡ stays_in_line name before
  pub started : fact.started ≡ is_told name_started name before
  pub ended : fact.ended ≡ is_told name_ended name before
  pub answered : fact.answered ≡ is_told name_answered name before
  pub redeemed : fact.redeemed ≡ is_told name_redeemed name before

-- a note redeems the outcome that was collected
abbrev pub IsAsCollected : Note ℕ → Journal ℕ → Type 0
IsAsCollected (Redeemed name outcome) before = first_under name (collected_outcomes name.to before) ≡ Some outcome
IsAsCollected _ before = ⊥

-- a fact is what the notes before a note tell under its name, and whether it redeems what was collected
pub record FitsPlace (fact : Fact) (note : Note ℕ) (before : Journal ℕ) : Type 0 where
  pub told : (name : JobId) → name_asked note ≡ Some name → TellsOf fact name before
  pub collected : (fact.collected ≡ true) ↔ IsAsCollected note before

-- each of the first facts, as many as the count says, fits its place
abbrev pub FitFirst : List Fact → Journal ℕ → ℕ → Type 0
FitFirst facts journal count =
    (place : ℕ) (note : Note ℕ) (before : Journal ℕ) → place < count → at_place (place + 1) journal ≡ note ∷ before →
    FitsPlace (get_or facts place no_fact) note before

-- a fact for each place, and what is known of all notes
pub record IsHistory (history : History) (journal : Journal ℕ) : Type 0 where
  pub facts : FitFirst history.facts.items journal (length journal)
  pub past : KnowsPast history.past journal

-- the facts that were made, and what is known, as far as the notes were read
pub record HistorySoFar (facts : List Fact) (journal : Journal ℕ) (count : ℕ) : Type 0 where
  pub counted : length facts ≡ count
  pub fit : FitFirst facts journal count
