-- What all journals tell of one submission.
use Rattle.std.specs.Prelude.{◌≡◌, ℕ, ◌+◌, Option, Some, None, unwrap_or, List, [], ◌∷◌, if◌then◌else◌, length}
use Rattle.base_words.specs.declared.names.JobId.{JobId}
use Rattle.base_words.specs.declared.note.Note.{Note}
use Rattle.base_words.specs.declared.note.Note.TheVariants as note
use Rattle.base_words.specs.Assembly.{Assembly, journal_of}
use Rattle.base_words.specs.Journal.{Journal, with_last}
use Rattle.base_words.specs.Names.{is_name}
use Rattle.judge_view.specs.Clocks.{clock_of}
use Rattle.judge_view.specs.Spans.{clock_when}
use Rattle.judge_view.specs.declared.clocks.CoreTime.{CoreTime}
use Rattle.judge_view.specs.declared.stories.StoryWalk.{StoryWalk}
use Rattle.judge_view.specs.declared.stories.Chapter.{Chapter}
use Rattle.judge_view.specs.declared.stories.Part.{Part}
use Rattle.judge_view.specs.declared.stories.Part.TheVariants.{Sending, Serving, Fetching}

-- the submission that a note of its sender sends
abbrev pub name_sent : Note ℕ → Option JobId
name_sent (note.Sent name order) = Some name
name_sent _ = None

-- the submission that a note of its receiver delivers, polls or ends
abbrev pub name_served : Note ℕ → Option JobId
name_served (note.Took name queue) = Some name
name_served (note.Back name reason) = Some name
name_served (note.Answered name answer) = Some name
name_served (note.Woken name) = Some name
name_served (note.Start name) = Some name
name_served (note.Resume name) = Some name
name_served (note.Yield name time) = Some name
name_served (note.Park name time) = Some name
name_served (note.Stayed name time) = Some name
name_served (note.Done name time value) = Some name
name_served (note.Returned name reason) = Some name
name_served _ = None

-- the submission that a note of its sender collects, redeems or detaches
abbrev pub name_fetched : Note ℕ → Option JobId
name_fetched (note.Collected name outcome) = Some name
name_fetched (note.Redeemed name outcome) = Some name
name_fetched (note.Detached name) = Some name
name_fetched _ = None

-- the submission that a note names in this part of its story
abbrev pub name_told : Part → Note ℕ → Option JobId
name_told Sending note = name_sent note
name_told Serving note = name_served note
name_told Fetching note = name_fetched note

-- the actor in whose journal this part of a story stands
abbrev pub teller : Part → JobId → ℕ
teller Sending name = name.from
teller Serving name = name.to
teller Fetching name = name.from

-- before the first note
abbrev pub no_clock : CoreTime
no_clock = record { turns = 0; time = 0 }

-- the clock behind the newest note that names the submission in this part of its story
abbrev pub clock_told : Part → JobId → Journal ℕ → CoreTime
clock_told part name journal = unwrap_or (clock_when (name_told part) name journal) no_clock

-- a note of a story: its place in the journal, counted from 1, and the clock of its actor behind the note before it in the story and behind it
abbrev pub chapter : Part → JobId → Note ℕ → Journal ℕ → Chapter
chapter part name note before =
    record { place = length before + 1; from = clock_told part name before; clock = clock_of (note ∷ before); note = note }

-- the newest note, if it names the submission in this part of its story
abbrev pub chapter_told : Part → JobId → Journal ℕ → Option Chapter
chapter_told part name [] = None
chapter_told part name (note ∷ before) = if is_name name (name_told part note) then Some (chapter part name note before) else None

-- the notes of a journal that name the submission in this part of its story, the oldest first
abbrev pub chapters : Part → JobId → Journal ℕ → List Chapter
chapters part name [] = []
chapters part name (note ∷ before) = with_last (chapters part name before) (chapter_told part name (note ∷ before))

-- a part of the story of a submission, by the journals of all actors
abbrev pub story : Part → JobId → Assembly ℕ → List Chapter
story part name assembly = chapters part name (journal_of (teller part name) assembly)

-- places and clocks are those of these notes
pub record KnowsStory (part : Part) (name : JobId) (walk : StoryWalk) (journal : Journal ℕ) : Type 0 where
  pub same_part : walk.part ≡ part
  pub same_name : walk.name ≡ name
  pub place : walk.place ≡ length journal
  pub from : walk.from ≡ clock_told part name journal
  pub clock : walk.clock ≡ clock_of journal

-- the newest note is answered if it is one of the story, and all is known
pub record IsRead (part : Part) (name : JobId) (answer : Option Chapter) (walk : StoryWalk) (journal : Journal ℕ) : Type 0 where
  pub told : answer ≡ chapter_told part name journal
  pub knows : KnowsStory part name walk journal
