-- What the calls for a further poll of the open turn do, and what its end does.
use Rattle.std.specs.Prelude.{◌≡◌, ℕ, ◌+◌, Bool, true, false, unwrap_or, Option, Some, None, List, [], ◌∷◌, slice_set}
use Rattle.base_words.specs.Charge.{charge, clamped}
use Rattle.base_words.specs.declared.names.JobId.{JobId}
use Rattle.base_words.specs.declared.note.Note.{Note}
use Rattle.base_words.specs.declared.note.Note.TheVariants as notes
use Rattle.base_jobs.specs.Calls.{Call}
use Rattle.base_jobs.specs.declared.job.Step.{Step}
use Rattle.base_jobs.specs.Meanings.{Meaning}
use Rattle.base_jobs.specs.Steps.{AfterPoll}
use Rattle.core_queues.specs.Fronts.{IsPolled, HasFront}
use Rattle.core_queues.specs.Queues.{shares_of}
use Rattle.core_core.specs.declared.bursts.OpenTurn.{OpenTurn}
use Rattle.core_core.specs.declared.turn.Settled.{Settled}
use Rattle.core_core.specs.declared.turn.Turn.{Turn}
use Rattle.core_core.specs.declared.turn.Turn.TheVariants as turns
use Rattle.core_core.specs.State.{CoreView, tally_of, runtime_of}
use Rattle.core_core.specs.Bursts.{may_go_on, GoesOn, IsOver, FollowsOut}
use Rattle.core_core.specs.Settling.{SettlesOut}
use Rattle.core_core.specs.Whole.{goes_out, SettlesStep}

module _ {J : Type 0} where
  -- the job that follows in the open turn: its queue, where the queue stands, its name, whether it was started, and whether a wake of it is kept
  pub record IsAheadInTurn (view : CoreView J) (queue vr : ℕ) (name : JobId) (started woken : Bool) : Type 0 where
    pub turn : OpenTurn
    pub goes : GoesOn view turn
    pub its_queue : queue ≡ turn.queue
    pub stands : vr ≡ runtime_of queue view
    pub front : HasFront view.queues queue name (record { started = started; woken = woken })

module _ {T : Type 0} where
  -- the note of a further poll
  abbrev pub follow_notes : JobId → Bool → List (Note T)
  follow_notes name false = notes.Start name ∷ []
  follow_notes name true = notes.Resume name ∷ []

module _ {J T : Type 0} where
  -- what a call for a further poll does, by what it answers, with its notes
  abbrev pub Follows : CoreView J → Option (Turn J) → CoreView J → List (Note T) → Type 0
  Follows old None new written = IsOver old × (new ≡ old) × (written ≡ [])
  Follows old (Some (turns.Start name queue job)) new written = FollowsOut old name queue false job new × (written ≡ follow_notes name false)
  Follows old (Some (turns.Resume name queue job)) new written = FollowsOut old name queue true job new × (written ≡ follow_notes name true)
  Follows old (Some (turns.Back name order reason)) new written = ⊥
  Follows old (Some turns.Idle) new written = ⊥

  -- the turn ends: its queue is charged once, for all its polls, under the shares that it has now
  pub record EndsTurn (old : CoreView J) (time : ℕ) (new : CoreView J) (written : List (Note T)) : Type 0 where
    pub turn : OpenTurn
    pub was_open : old.bursts.open ≡ Some turn
    pub free : old.out ≡ None
    pub over : may_go_on old turn ≡ false
    pub its_time : time ≡ turn.time
    pub rest : new ≡ record old {
      tallies = slice_set old.tallies turn.queue (record (tally_of turn.queue old) {
        runtime = (tally_of turn.queue old).runtime + charge time (shares_of turn.queue old.queues);
        time = (tally_of turn.queue old).time + clamped time;
      });
      bursts = record (old.bursts) { «open» = None };
    }
    pub noted : written ≡ notes.Turned turn.queue time ∷ []

module _ {J T : Type 0} (meaning : Meaning J T) where
  -- a further poll of the open turn with the job in its place: the job follows, is polled once with these calls of its post, and is settled; the notes are those of the two calls
  pub record FollowsWhole (old : CoreView J) (spent : ℕ) (calls : List (Call J T)) (name : JobId) (queue : ℕ) (started : Bool) (followed : List (Note T)) (settled : Settled T) (written : List (Note T)) (new : CoreView J) : Type 0 where
    pub mid : CoreView J
    pub ran : AfterPoll J T
    pub follows : Follows old (Some (goes_out name queue started ran.before)) mid followed
    pub polled : IsPolled meaning calls ran
    pub settles : SettlesOut mid ran spent settled new written

  -- the state of such a poll: the next job of the turn goes out, and its poll is settled, with the time that counts
  pub record TurnsFurther (old : CoreView J) (spent : ℕ) (calls : List (Call J T)) (step : Step T) (time : ℕ) (new : CoreView J) : Type 0 where
    pub name : JobId
    pub queue : ℕ
    pub started : Bool
    pub mid : CoreView J
    pub ran : AfterPoll J T
    pub follows : FollowsOut old name queue started ran.before mid
    pub polled : IsPolled meaning calls ran
    pub stepped : ran.step ≡ step
    pub counts : time ≡ unwrap_or ran.told spent
    pub settles : SettlesStep step follows.was_woken mid name ran.job time new
