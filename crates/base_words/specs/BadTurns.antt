-- Journals of a core that picks and polls as none may.
use Rattle.std.specs.Prelude.{ℕ, zero, suc, ◌-◌, [], ◌∷◌}
use Rattle.base_words.specs.declared.note.Note.TheVariants.{Took, Created, CoreClosed, Pick, Start, Resume, Yield}
use Rattle.base_words.specs.declared.order.Mode.TheVariants.{Return}
use Rattle.base_words.specs.BadJournals.{submission, polled, yielded}
use Rattle.base_words.specs.Journal.{Journal}
use Rattle.base_words.specs.Limits.{most_turns}
use Rattle.base_words.specs.StepsRefused.{CoreMayWrite}

-- a pick is followed by a note that takes no turn
abbrev pub picked_for_nothing : Journal ℕ
picked_for_nothing = Took (submission 2) 0 ∷ Pick 0 0 ∷ Took (submission 1) 0 ∷ []

-- a queue without work is picked
abbrev pub idle_picked : Journal ℕ
idle_picked = Pick 0 0 ∷ []

-- a pick is followed by a job of another queue
abbrev pub turn_of_another : Journal ℕ
turn_of_another = Start (submission 2) ∷ Pick 0 0 ∷ Took (submission 2) 1 ∷ Took (submission 1) 0 ∷ Created 1 1000 ∷ []

-- a job starts twice
abbrev pub started_twice : Journal ℕ
started_twice = Start (submission 1) ∷ Pick 0 10 ∷ yielded

-- a job resumes before it started
abbrev pub resumed_first : Journal ℕ
resumed_first = Resume (submission 1) ∷ Pick 0 0 ∷ Took (submission 1) 0 ∷ []

-- a core that hands back what it holds resumes a job
abbrev pub resumed_by_returning : Journal ℕ
resumed_by_returning = Resume (submission 1) ∷ Pick 0 10 ∷ CoreClosed Return ∷ yielded

-- a resumed job stays at the head of its queue, and is polled again before the one behind it
abbrev pub resumed_at_head : Journal ℕ
resumed_at_head =
    Resume (submission 1) ∷ Pick 0 20 ∷ Yield (submission 1) 10 ∷ Resume (submission 1) ∷ Pick 0 10 ∷ Took (submission 2) 0 ∷ yielded

-- a job yields that isn't out
abbrev pub yielded_inside : Journal ℕ
yielded_inside = Yield (submission 1) 10 ∷ []

-- a job was polled once and so many times more, each time for 1 ns
abbrev pub polled_more : ℕ → Journal ℕ
polled_more zero = Yield (submission 1) 1 ∷ polled
polled_more (suc count) = Yield (submission 1) 1 ∷ Resume (submission 1) ∷ Pick 0 (suc count) ∷ polled_more count

-- a core that had all its turns picks once more
abbrev pub picked_beyond_turns : Journal ℕ
picked_beyond_turns = Pick 0 most_turns ∷ polled_more (most_turns - 1)

-- none of them may stand
pub record TurnsAreRefused : Type 0 where
  pub for_nothing : CoreMayWrite picked_for_nothing → ⊥
  pub idle : CoreMayWrite idle_picked → ⊥
  pub another : CoreMayWrite turn_of_another → ⊥
  pub twice : CoreMayWrite started_twice → ⊥
  pub first : CoreMayWrite resumed_first → ⊥
  pub returning : CoreMayWrite resumed_by_returning → ⊥
  pub at_head : CoreMayWrite resumed_at_head → ⊥
  pub yielded : CoreMayWrite yielded_inside → ⊥
  pub beyond_turns : CoreMayWrite picked_beyond_turns → ⊥
