-- Which queue a core may pick, and which note takes the turn of a pick.
use Rattle.std.specs.Prelude.{◌≡◌, ℕ, ◌+◌, Bool, true, false, not, if◌then◌else◌, Option, None, is_some, [], ◌∷◌, IsTrue}
use Rattle.base_words.specs.declared.note.Note.{Note}
use Rattle.base_words.specs.declared.note.Note.TheVariants.{Pick, Start, Resume, Returned}
use Rattle.base_words.specs.Keys.{KeyAtMost}
use Rattle.base_words.specs.Bursts.{queue_in_turn}
pub use Rattle.base_words.specs.Bursts.{queue_just_picked}
use Rattle.base_words.specs.Journal.{Journal}
use Rattle.base_words.specs.Work.{queue_of, has_work}
use Rattle.base_words.specs.Runtimes.{virtual_runtime}
use Rattle.base_words.specs.Lines.{jobs_out}

-- a queue may run if it has work, no job of the core is out, and no turn is open
pub record IsEligible {T : Type 0} (burst queue : ℕ) (journal : Journal T) : Type 0 where
  pub work : IsTrue (has_work queue journal)
  pub nobody_out : jobs_out journal ≡ []
  pub no_turn : queue_in_turn burst journal ≡ None

-- a pick is right at an eligible queue, at its virtual runtime, where no eligible queue has a lesser pair (virtual runtime, number)
pub record IsRightPick {T : Type 0} (burst queue runtime : ℕ) (before : Journal T) : Type 0 where
  pub at : runtime ≡ virtual_runtime burst queue before
  pub eligible : IsEligible burst queue before
  pub least : (other : ℕ) → IsEligible burst other before → KeyAtMost runtime queue (virtual_runtime burst other before) other

-- one for a pick
abbrev pub pick_count : {T : Type 0} → Note T → ℕ
pick_count (Pick queue runtime) = 1
pick_count _ = 0

-- a journal has as many turns as picks
abbrev pub turns : {T : Type 0} → Journal T → ℕ
turns [] = 0
turns (note ∷ before) = turns before + pick_count note

-- a note that takes the turn of a pick: a hand-back, or a poll that goes on with no open turn
abbrev pub takes_turn : {T : Type 0} → ℕ → Note T → Journal T → Bool
takes_turn burst (Start name) before = not (is_some (queue_in_turn burst before))
takes_turn burst (Resume name) before = not (is_some (queue_in_turn burst before))
takes_turn burst (Returned name reason) before = true
takes_turn burst _ before = false

-- the queue whose pick a note answers to
abbrev pub queue_served : {T : Type 0} → ℕ → Note T → Journal T → Option ℕ
queue_served burst (Start name) before = if is_some (queue_in_turn burst before) then None else queue_of name before
queue_served burst (Resume name) before = if is_some (queue_in_turn burst before) then None else queue_of name before
queue_served burst (Returned name reason) before = queue_of name before
queue_served burst _ before = None
