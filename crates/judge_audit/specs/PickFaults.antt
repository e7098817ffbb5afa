-- Which line of a core's journal an audit of its picks names; and turns and keys that it takes for none.
use Rattle.std.specs.Prelude.{◌≡◌, ℕ, ◌+◌, ◌≤◌, ◌⊎◌, true, Some, None, is_some, ◌∷◌, length}
use Rattle.std.proofs.Common.{ap, sym, ◌∙◌, arith}
use Rattle.base_words.specs.declared.names.Key.{Key}
use Rattle.base_words.specs.declared.note.Note.{Note}
use Rattle.base_words.specs.Clauses.{PicksRight}
use Rattle.base_words.specs.Journal.{Journal, EachNote, at_place}
use Rattle.base_words.specs.Picks.{queue_just_picked}
use Rattle.note_facts.specs.Faults.{IsFirstFault}
use Rattle.note_facts.specs.declared.accounts.Accounts.{Accounts}
use Rattle.judge_audit.specs.OpenTurns.{AnswersPick, FitsEnd, FitsPoll}
use Rattle.judge_audit.specs.Picks.{Follows}
use Rattle.judge_audit.specs.Waiting.{IsPlacedIf}
use Rattle.judge_audit.specs.Winners.{key_of}
use Rattle.judge_audit.specs.declared.least.Least.{Least}
use Rattle.judge_audit.specs.declared.turns.OpenTurn.{OpenTurn}

-- behind this line stands a note that doesn't follow it as it should
pub record IsCutOff (burst : ℕ) (journal : Journal ℕ) (line : ℕ) : Type 0 where
  pub note : Note ℕ
  pub there : at_place (line + 1) journal ≡ note ∷ at_place line journal
  pub broken : Follows burst note (at_place line journal) → ⊥

-- all up to this line is right, which is a pick, and what stands behind it, if anything, isn't its turn
pub record IsUnfollowed (burst : ℕ) (journal : Journal ℕ) (line : ℕ) : Type 0 where
  pub within : line ≤ length journal
  pub kept : EachNote (PicksRight burst) (at_place line journal)
  pub picked : is_some (queue_just_picked (at_place line journal)) ≡ true
  pub unfollowed : (line ≡ length journal) ⊎ IsCutOff burst journal line

-- at this line stands the first wrong note, and it isn't wrong for the pick before it
pub record IsWrongNote (burst : ℕ) (journal : Journal ℕ) (line : ℕ) : Type 0 where
  pub fault : IsFirstFault (PicksRight burst) journal line
  pub own : (queue_just_picked fault.before ≡ None) ⊎ Follows burst fault.note fault.before

-- the rule of picks is first broken at this line
abbrev pub IsPickFault : ℕ → Journal ℕ → ℕ → Type 0
IsPickFault burst journal line = IsUnfollowed burst journal line ⊎ IsWrongNote burst journal line

-- the line of a note behind so many others, or that of the pick before it, if the note doesn't follow that as it should
abbrev pub IsLineOf : ℕ → Note ℕ → Journal ℕ → ℕ → ℕ → Type 0
IsLineOf burst note before place line =
    ((line ≡ place) × (is_some (queue_just_picked before) ≡ true) × (Follows burst note before → ⊥)) ⊎
    ((line ≡ place + 1) × ((queue_just_picked before ≡ None) ⊎ Follows burst note before))

-- a turn of queue 3 that has had two polls
abbrev pub second_poll : OpenTurn
second_poll = record { queue = 3; polls = 2; time = 7 }

-- a poll answers to no pick, or to one within a turn
pub poll_unpicked : AnswersPick None None None → ⊥
poll_unpicked answers = let some = answers.0 in cc

pub picked_within : AnswersPick (Some second_poll) (Some 3) (Some 3) → ⊥
picked_within answers = cc

-- a third poll of a turn that may have two
pub poll_too_many : FitsPoll 2 (Some second_poll) None (Some 3) → ⊥
poll_too_many fits = absurd (omega (arith, fits.poll_left))

-- a turn ends that wasn't open, or tells another time
pub ends_unopened : FitsEnd None None 3 7 → ⊥
ends_unopened ends = ends

pub ends_with_another_time : FitsEnd (Some second_poll) None 3 8 → ⊥
ends_with_another_time ends = absurd (omega (arith, ends.its_time))

-- a queue is placed under the number of another
pub placed_as_another : (accounts : Accounts) (old new : Least) (runtime : ℕ) → key_of new 3 ≡ record { vr = runtime; queue = 5 } → IsPlacedIf accounts old new (Some 3) → ⊥
placed_as_another accounts old new runtime there placed = absurd (omega (arith, ap (λ (key : Key). key.queue) (sym there ∙ placed.here)))
