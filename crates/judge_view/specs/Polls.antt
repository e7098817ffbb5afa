-- The polls of a core, each with its turn.
use Rattle.std.specs.Prelude.{◌≡◌, ℕ, ◌+◌, Option, Some, None, option_map, unwrap_or, min, List, [], ◌∷◌}
use Rattle.base_words.specs.declared.names.JobId.{JobId}
use Rattle.base_words.specs.declared.note.Note.{Note}
use Rattle.base_words.specs.declared.note.Note.TheVariants.{Pick}
use Rattle.base_words.specs.Journal.{Journal, latest_told, with_last}
use Rattle.base_words.specs.Lines.{name_settled}
use Rattle.base_words.specs.Names.{is_name}
use Rattle.base_words.specs.Polls.{poll_settled}
use Rattle.base_words.specs.Picks.{turns}
use Rattle.base_words.specs.Work.{number_if}
use Rattle.note_facts.specs.Names.{known, SetsOne}
use Rattle.note_facts.specs.Accounts.{greatest_count}
use Rattle.judge_view.specs.Clocks.{clock_of}
use Rattle.judge_view.specs.Ends.{end_of}
use Rattle.judge_view.specs.declared.ends.End.{End}
use Rattle.judge_view.specs.declared.polls.Poll.{Poll}
use Rattle.judge_view.specs.declared.polls.PollWalk.{PollWalk}
use Rattle.judge_view.specs.declared.polls.Picked.{Picked}

-- the queue that a note picks, with its virtual runtime
abbrev pub pick_told : {T : Type 0} → Note T → Option Picked
pick_told (Pick queue runtime) = Some (record { queue = queue; virtual_runtime = runtime })
pick_told _ = None

-- how many polls of a job are settled
abbrev pub steps_of : {T : Type 0} → JobId → Journal T → ℕ
steps_of name [] = 0
steps_of name (note ∷ before) = steps_of name before + number_if (is_name name (name_settled note))

-- a poll of the turn of this pick
abbrev pub poll_of : {T : Type 0} → Picked → JobId × ℕ → End → Journal T → Poll
poll_of picked told end before =
    record { turn = turns before; picked = picked; name = told.0; step = steps_of told.0 before + 1; time = told.1; end = end }

-- the poll that a note settles, if a pick stands before it
abbrev pub poll_told : {T : Type 0} → Option Picked → Option (JobId × ℕ) → End → Journal T → Option Poll
poll_told None told end before = None
poll_told (Some picked) None end before = None
poll_told (Some picked) (Some told) end before = Some (poll_of picked told end before)

-- the settled polls of a core, the oldest first
abbrev pub polls : {T : Type 0} → Journal T → List Poll
polls [] = []
polls (note ∷ before) = with_last (polls before) (poll_told (latest_told pick_told before) (poll_settled note) (end_of note) before)

-- one more poll of this job is settled, and it is told if a pick stands before it
pub record Settles (old new : PollWalk) (name : JobId) (time : ℕ) (end : End) (told : Option Poll) : Type 0 where
  pub clock : new.clock ≡ old.clock
  pub picked : new.picked ≡ old.picked
  pub steps : SetsOne old.steps new.steps name (min (unwrap_or (known old.steps name) 0 + 1) greatest_count)
  pub poll : told ≡ option_map (λ picked. record {
    turn = old.clock.turns;
    picked = picked;
    name = name;
    step = min (unwrap_or (known old.steps name) 0 + 1) greatest_count;
    time = time;
    end = end;
  }) old.picked

-- the same of a poll that a note settles, if it settles one
abbrev pub SettlesTold : PollWalk → PollWalk → Option (JobId × ℕ) → End → Option Poll → Type 0
SettlesTold old new None end poll = (new ≡ old) × (poll ≡ None)
SettlesTold old new (Some told) end poll = Settles old new told.0 told.1 end poll

-- the turns, the newest pick and the steps of each job are those of these notes
pub record KnowsTurns (walk : PollWalk) (journal : Journal ℕ) : Type 0 where
  pub clock : walk.clock ≡ clock_of journal
  pub picked : walk.picked ≡ latest_told pick_told journal
  pub steps : (name : JobId) → unwrap_or (known walk.steps name) 0 ≡ steps_of name journal

-- the poll that a note settles, by the notes before it
abbrev pub poll_noted : Note ℕ → Journal ℕ → Option Poll
poll_noted note before = poll_told (latest_told pick_told before) (poll_settled note) (end_of note) before

-- the poll that a note settles is told, and the note is known too
pub record TellsPoll (told : Option Poll) (walk : PollWalk) (note : Note ℕ) (before : Journal ℕ) : Type 0 where
  pub poll : told ≡ poll_noted note before
  pub knows : KnowsTurns walk (note ∷ before)
