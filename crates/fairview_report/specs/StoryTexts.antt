-- The story of a submission as text.
use Rattle.std.specs.Prelude.{ℕ, ◌-◌, ◌==◌, if◌then◌else◌, List, [], ◌++◌, Option, Some, None, flat_map, length, codes, decimal}
use Rattle.base_words.specs.declared.names.JobId.{JobId}
use Rattle.base_words.specs.Assembly.{Assembly}
use Rattle.text_words.specs.Notes.{name_text, note_text}
use Rattle.judge_view.specs.Stories.{story, teller}
use Rattle.judge_view.specs.declared.clocks.CoreTime.{CoreTime}
use Rattle.judge_view.specs.declared.stories.Chapter.{Chapter}
use Rattle.judge_view.specs.declared.stories.Part.{Part}
use Rattle.judge_view.specs.declared.stories.Part.TheVariants.{Sending, Serving, Fetching}

-- where a chapter stands: its actor, and its place in the journal
abbrev pub place_text : ℕ → Chapter → List ℕ
place_text actor chapter = codes "actor " ++ decimal actor ++ codes " note " ++ decimal chapter.place

-- the clock of a chapter, and how far it went since an earlier one
abbrev pub clock_text : CoreTime → CoreTime → List ℕ
clock_text from to =
    codes "turn " ++ decimal to.turns ++ codes " +" ++ decimal (to.turns - from.turns) ++ codes " at " ++ decimal to.time ++ codes " +"
    ++ decimal (to.time - from.time) ++ codes " ns"

-- the line of a note of a story
abbrev pub chapter_line : ℕ → Chapter → List ℕ
chapter_line actor chapter = place_text actor chapter ++ codes " " ++ clock_text chapter.from chapter.clock ++ codes ": " ++ note_text chapter.note

-- the same with its line feed, if there is one
abbrev pub chapter_if : ℕ → Option Chapter → List ℕ
chapter_if actor None = []
chapter_if actor (Some chapter) = chapter_line actor chapter ++ codes "\n"

-- the lines of the notes of a story that an actor wrote
abbrev pub chapters_text : ℕ → List Chapter → List ℕ
chapters_text actor chapters = flat_map (λ chapter. chapter_line actor chapter ++ codes "\n") chapters

-- a part of the story of a submission
abbrev pub part_text : Part → JobId → Assembly ℕ → List ℕ
part_text part name assembly = chapters_text (teller part name) (story part name assembly)

-- the whole story: it is sent, served and fetched
abbrev pub whole_text : JobId → Assembly ℕ → List ℕ
whole_text name assembly = part_text Sending name assembly ++ part_text Serving name assembly ++ part_text Fetching name assembly

-- a submission of which nothing is told
abbrev pub nothing_text : JobId → List ℕ
nothing_text name = codes "nothing is told of " ++ name_text name ++ codes "\n"

-- the story of a submission, or that nothing is told of it
abbrev pub story_text : JobId → Assembly ℕ → List ℕ
story_text name assembly = if length (whole_text name assembly) == 0 then nothing_text name else whole_text name assembly
