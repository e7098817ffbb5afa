-- Turns: the right pick, and polls of jobs of its queue, or the first job of its line is handed back.
use Rattle.std.specs.Prelude.{◌≡◌, ◌⊎◌, ℕ, ◌-◌, ◌^◌, ◌<◌, Bool, Some, true, false, List, [], ◌∷◌}
use Rattle.base_words.specs.declared.names.JobId.{JobId}
use Rattle.base_words.specs.declared.note.Note.{Note}
use Rattle.base_words.specs.declared.note.Note.TheVariants as writes
use Rattle.base_words.specs.declared.order.Reason.{Reason}
use Rattle.base_words.specs.Bursts.{has_bursts}
use Rattle.base_words.specs.Work.{has_work}
use Rattle.base_words.specs.Lawful.{GoesOn, IsTurnEnd, may_go_on}
use Rattle.base_words.specs.Lines.{line}
use Rattle.base_words.specs.Picks.{IsRightPick, turns}
use Rattle.base_words.specs.Commands.{return_reason}
use Rattle.base_jobs.specs.Meanings.{Meaning}
use Rattle.actor_core.specs.declared.whole.Turned.{Turned}
use Rattle.actor_core.specs.declared.whole.Turned.TheVariants as turned
use Rattle.model_world.specs.declared.event.Reply.{Reply}
use Rattle.model_world.specs.declared.event.Reply.TheVariants as reply
pub use Rattle.model_world.specs.Polls.{IsPoll, polls_made, poll_note, poll_notes, settle_note, settled_note}
use Rattle.model_world.specs.State.{WorldView, journal_at, noted}

-- what a core is told of its turn
abbrev pub turned_reply : {J : Type 0} → Turned → Reply J
turned_reply turned.Polled = reply.Noted
turned_reply turned.Returned = reply.Noted
turned_reply turned.Idle = reply.Idle
turned_reply turned.Spent = reply.Spent

module _ {J T : Type 0} where
  -- a turn is left, and the right pick is made: its queue or the core hands back, and so the first job of that line is returned, which charges nothing
  pub record IsHandBack (core : ℕ) (old new : WorldView J T) : Type 0 where
    pub turn_left : turns (journal_at core old) < 2 ^ 64 - 1
    pub queue : ℕ
    pub runtime : ℕ
    pub right : IsRightPick old.burst queue runtime (journal_at core old)
    pub name : JobId
    pub others : List JobId
    pub first : line queue (journal_at core old) ≡ name ∷ others
    pub reason : Reason
    pub returns : return_reason queue (journal_at core old) ≡ Some reason
    pub notes : new ≡ noted core (writes.Returned name reason ∷ writes.Pick queue runtime ∷ []) old

  -- the open turn may not go on, and a note of its own ends it, with its queue and its time
  pub record EndsTurn (core : ℕ) (old new : WorldView J T) : Type 0 where
    pub queue : ℕ
    pub time : ℕ
    pub end : IsTurnEnd old.burst queue time (journal_at core old)
    pub notes : new ≡ noted core (writes.Turned queue time ∷ []) old

  -- how a turn ends behind its polls: by a note of its own, where a turn may have several; else its only poll has ended it
  abbrev pub Ends : Bool → ℕ → WorldView J T → WorldView J T → Type 0
  Ends true core old new = EndsTurn core old new
  Ends false core old new = new ≡ old

module _ {J : Type 0} (meaning : Meaning J ℕ) where
  -- a turn is left, and the right pick is made: the first job of that line is polled
  pub record IsFirstPoll (core spent : ℕ) (old new : WorldView J ℕ) : Type 0 where
    pub turn_left : turns (journal_at core old) < 2 ^ 64 - 1
    pub queue : ℕ
    pub runtime : ℕ
    pub right : IsRightPick old.burst queue runtime (journal_at core old)
    pub name : JobId
    pub poll : IsPoll meaning core spent queue name (writes.Pick queue runtime ∷ []) old new

  -- the open turn may go on: the first job of the line of its queue is polled, and no pick is made
  pub record IsFurtherPoll (core spent : ℕ) (name : JobId) (old new : WorldView J ℕ) : Type 0 where
    pub queue : ℕ
    pub goes_on : GoesOn old.burst queue (journal_at core old)
    pub may : may_go_on old.burst queue (journal_at core old) ≡ true
    pub poll : IsPoll meaning core spent queue name [] old new

  -- further polls of the open turn, of these jobs one after another, and then its end
  abbrev pub Further : ℕ → ℕ → List JobId → WorldView J ℕ → WorldView J ℕ → Type 0
  Further core spent [] old new = Ends (has_bursts old.burst) core old new
  Further core spent (name ∷ later) old new = (next : WorldView J ℕ) × IsFurtherPoll core spent name old next × Further core spent later next new

  -- a turn of polls, of which each takes this time, unless its job tells a time of its own: a first one, perhaps further ones, and the end of the turn
  pub record MakesPolls (core spent : ℕ) (old new : WorldView J ℕ) : Type 0 where
    pub mid : WorldView J ℕ
    pub first : IsFirstPoll core spent old mid
    pub later : List JobId
    pub further : Further core spent later mid new

  -- Turn: polls, or a job is handed back; nothing where no queue has work, and nothing where all turns are used
  abbrev pub Turns : ℕ → ℕ → WorldView J ℕ → WorldView J ℕ → Reply J → Type 0
  Turns core spent old new reply.Noted = MakesPolls core spent old new ⊎ IsHandBack core old new
  Turns core spent old new reply.Idle = ((queue : ℕ) → has_work queue (journal_at core old) ≡ false) × (new ≡ old)
  Turns core spent old new reply.Spent =
      (turns (journal_at core old) ≡ 2 ^ 64 - 1) × ((queue : ℕ) × (has_work queue (journal_at core old) ≡ true)) × (new ≡ old)
  Turns core spent old new _ = ⊥
