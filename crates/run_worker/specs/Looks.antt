-- When a worker looks at its links, and what a round is.
use Rattle.std.specs.Prelude.{◌≡◌, ◌⊎◌, ◌&&◌, ◌||◌, ℕ, ◌+◌, ◌<◌, ◌≤◌, Bool, true, false, Option, is_some, not, unwrap_or}
use Rattle.base_words.specs.declared.names.JobId.{JobId}
use Rattle.base_words.specs.Closing.{core_mode}
use Rattle.base_jobs.specs.Meanings.{Meaning}
use Rattle.run_worker.specs.Asks.{NotesNoPoll}
use Rattle.run_worker.specs.Ended.{ServedView, IsServed}
use Rattle.run_worker.specs.Few.{got_most, taken_most, turn_most}
use Rattle.run_worker.specs.Readings.{TimesNext, WatchView, kept_behind}
use Rattle.run_worker.specs.Rounds.{CollectsFirst, HearsAll, ShutsClosed, StepsServed}
use Rattle.actor_seat.specs.Steps.{HasNoTurn}
use Rattle.run_worker.specs.Timing.{HearsTurn, SparesOwn}
use Rattle.run_worker.specs.Views.{FindsNoneDue, Peeks, RoundView, WakesDue}
use Rattle.run_worker.specs.Turns.{TakesTurn}

-- Without a look at the links a turn is made exactly if one is left and polls took little time since the last look, and it counts as one of those that are
-- left.
abbrev pub PassesLinks : ℕ → ℕ → Bool → ℕ → Type 0
PassesLinks taken turns true left = (taken < 2000) × (turns ≡ left + 1)
PassesLinks taken turns false left = ((turns ≡ 0) ⊎ (2000 ≤ taken)) × (left ≡ turns)

-- how many turns may be made at most without a look
abbrev pub most_turns : ℕ
most_turns = 24

-- 24 turns may be made without a look behind one that leaves turns, and none behind another
abbrev pub turns_after : Bool → ℕ
turns_after true = most_turns
turns_after false = 0

-- A look leaves turns if there was work, and its core is open, or nothing was delivered, shut or collected. So behind a look by which its core was closed the
-- next round looks again, and shuts the gates.
abbrev pub leaves_turns : Bool → Bool → Bool → Bool
leaves_turns worked came closed = worked && not (came && closed)

module _ {J T C G : Type 0} (meaning : Meaning J T) (sleeps : J → Option ℕ) (reads : C → ℕ → C → Type 0) (asked : G → ℕ → JobId → G → Type 0) where
  -- Each gate of a closed core is shut, its own only where no job sleeps, and each sender is heard, then a turn is made, and then the outcomes of each core are collected. Between these steps
  -- the core agrees with its journal and its ends, and each step leaves the notes that stand and what the ends have seen. It tells whether anything was
  -- done, and how many turns may be made without a look behind it. The clock is read for its turn and for nothing else, and the time of polls is counted
  -- anew from there. Behind a look that made no turn the next poll begins with a fresh reading. No poll is noted before its turn or behind it. The timers of the
  -- jobs that the turn parked are set.
  pub record LooksAtLinks (old : RoundView J T C G) (some : Bool) (new : RoundView J T C G) : Type 0 where
    pub heard : ServedView J T
    pub turned : ServedView J T
    pub timed : WatchView C
    pub came : Bool
    pub worked : Bool
    pub back : Bool
    pub steps : StepsServed (taken_most old.served) old.served came heard
    pub spared : ℕ
    pub spares : SparesOwn old.timers old.served.linked spared
    pub shuts : ShutsClosed spared old.served.linked heard.linked
    pub hears : HearsAll (old.served.linked.recorded.core.cores + 1) old.served heard
    pub sound : IsServed meaning heard
    pub none_before : NotesNoPoll old.served.linked.recorded.journal.notes heard.linked.recorded.journal.notes
    pub turn : TakesTurn meaning (TimesNext reads) asked old.watch timed old.gate new.gate heard worked turned
    pub turn_steps : StepsServed (turn_most heard) heard worked turned
    pub sets : HearsTurn sleeps (unwrap_or timed.last 0) heard.linked.recorded turned.linked.recorded old.timers new.timers
    pub gathers : StepsServed (got_most turned) turned back new.served
    pub collects : CollectsFirst old.served.linked.recorded.core.cores new.served
    pub none_behind : NotesNoPoll turned.linked.recorded.journal.notes new.served.linked.recorded.journal.notes
    pub tells : some ≡ (worked || (came || back))
    pub plans : new.turns ≡ turns_after (leaves_turns worked (came || back) (is_some (core_mode new.served.linked.recorded.journal.notes)))
    pub forgets : new.watch ≡ record timed { last = kept_behind worked timed.last; taken = 0 }

  -- The jobs that slept long enough are woken, and then there is a look at all links. It tells whether anything was done.
  pub record LooksAtAll (old : RoundView J T C G) (some : Bool) (new : RoundView J T C G) : Type 0 where
    pub woken : RoundView J T C G
    pub woke : Bool
    pub found : Bool
    pub wakes : WakesDue reads old woke woken
    pub looks : LooksAtLinks woken found new
    pub tells : some ≡ (woke || found)

  -- no turn without a look, if it is time to look, and all is as it was; or one such turn, which counts, and it tells whether there was work
  abbrev pub TurnsAlone : RoundView J T C G → Bool → RoundView J T C G → Type 0
  TurnsAlone old some new =
      (PassesLinks old.watch.taken old.turns false new.turns × (some ≡ false) × (new ≡ old))
      ⊎ (PassesLinks old.watch.taken old.turns true new.turns × TakesTurn meaning (TimesNext reads) asked old.watch new.watch old.gate new.gate old.served some new.served × StepsServed (turn_most old.served) old.served some new.served
      × HearsTurn sleeps (unwrap_or new.watch.last 0) old.served.linked.recorded new.served.linked.recorded old.timers new.timers)

  -- a look at everything; or none and nothing else, behind a round in which nothing was done, where no timer is due and no turn is to be made
  abbrev pub LooksOrRests : Bool → RoundView J T C G → Bool → RoundView J T C G → Type 0
  LooksOrRests was_idle old some new =
      (peeked : RoundView J T C G) × Peeks reads old peeked
      × (LooksAtAll peeked some new ⊎ ((was_idle ≡ true) × FindsNoneDue reads old peeked × HasNoTurn peeked.served.linked.recorded.journal.notes × (some ≡ false) × (new ≡ peeked)))

  -- a turn without a look for which there was work; or none, or one for which there was none, and then a look if one is to be
  abbrev pub MakesRound : Bool → RoundView J T C G → Bool → RoundView J T C G → Type 0
  MakesRound was_idle old some new =
      ((some ≡ true) × TurnsAlone old true new) ⊎ ((middle : RoundView J T C G) × TurnsAlone old false middle × LooksOrRests was_idle middle some new)
