-- How a worker serves its core: round after round, and a rest where nothing is to be done.
use Rattle.std.specs.Prelude.{◌≡◌, ◌⊎◌, ℕ, ◌+◌, ◌≤◌, ◌<◌, Bool, true, false, nat_lt, if◌then◌else◌, Option, List, [], ◌∷◌}
use Rattle.base_words.specs.declared.names.JobId.{JobId}
use Rattle.note_journal.specs.declared.sink.Sink as taking
use Rattle.base_jobs.specs.Meanings.{Meaning}
use Rattle.run_worker.specs.Ended.{EndedView}
use Rattle.run_worker.specs.Looks.{LooksAtAll, MakesRound}
use Rattle.run_worker.specs.Views.{RoundView}
use Rattle.run_worker.specs.Passing.{HandsOn, HandsOnWhere, IsDue, IsDueAtRest}
use Rattle.run_worker.specs.Readings.{watch_view}
use Rattle.run_worker.specs.Shown.{Shows, shown_each}
use Rattle.run_worker.specs.Workers.{WorkerView, served_of}

-- The rounds in a row in which nothing was done are counted. The next round is made at once, unless nothing was done in this one and in as many before it as
-- the worker tries.
abbrev pub CountsIdle : ℕ → Bool → ℕ → Bool → ℕ → Type 0
CountsIdle tries true idle again later = (again ≡ true) × (later ≡ 0)
CountsIdle tries false idle true later = (idle < tries) × (later ≡ idle + 1)
CountsIdle tries false idle false later = (tries ≤ idle) × (later ≡ idle)

module _ {J T C G S : Type 0} where
  -- its core, its timers, the watch and the gate that serve it, and its turns without a look
  abbrev pub round_of : WorkerView J T C G S → RoundView J T C G
  round_of worker = record { served = served_of worker; timers = worker.timers; watch = watch_view worker.clock worker.last worker.taken; gate = worker.gate; turns = worker.turns }

  -- the worker tries as often as before, and rings the same bells; its sink isn't asked, and nothing is published
  pub record KeepsTries (old new : WorkerView J T C G S) : Type 0 where
    pub tries : new.tries ≡ old.tries
    pub bells : new.bells ≡ old.bells
    pub sink : new.sink ≡ old.sink
    pub shown : new.shown ≡ old.shown
    pub since : new.since ≡ old.since

  -- the numbers of the whole journal are published, unless they can't be, and the rounds are counted anew
  pub record ShowsNow (old new : WorkerView J T C G S) : Type 0 where
    pub shows : Shows old.linked.recorded.journal.notes old.shown new.shown
    pub rest : new ≡ record old { shown = new.shown; since = 0 }

  -- the round before is counted, if something was done in it
  abbrev pub counted_round : WorkerView J T C G S → WorkerView J T C G S
  counted_round worker = record worker { since = if nat_lt 0 worker.idle then worker.since else worker.since + 1 }

  -- They are published where the worker came to its end, and wasn't there before. Otherwise nothing is done.
  abbrev pub ShowsEnd : Bool → WorkerView J T C G S → WorkerView J T C G S → Type 0
  ShowsEnd was old new = ((was ≡ false) × (old.ending ≡ true) × ShowsNow old new) ⊎ (((was ≡ false) × (old.ending ≡ true) → ⊥) × (new ≡ old))

  -- they are published where enough rounds were counted since the last time, and otherwise the round before is counted
  abbrev pub ShowsAgain : WorkerView J T C G S → WorkerView J T C G S → Type 0
  ShowsAgain old new = ((shown_each ≤ old.since) × ShowsNow old new) ⊎ ((old.since < shown_each) × (new ≡ counted_round old))

module _ {J C G S : Type 0} (meaning : Meaning J ℕ) (sleeps : J → Option ℕ) (reads : C → ℕ → C → Type 0) (asked : G → ℕ → JobId → G → Type 0) (takes : taking.Ghosts S) where
  -- notes are passed on where the journal is low, and then there is one round; and whether the next one is made at once
  pub record GoesOn (old : WorkerView J ℕ C G S) (again : Bool) (new : WorkerView J ℕ C G S) : Type 0 where
    pub ready : WorkerView J ℕ C G S
    pub hands : HandsOnWhere takes (IsDue (served_of old)) old ready
    pub some : Bool
    pub makes : MakesRound meaning sleeps reads asked (nat_lt 0 ready.idle) (round_of ready) some (round_of new)
    pub counts : CountsIdle ready.tries some ready.idle again new.idle
    pub keeps : KeepsTries ready new

  -- notes are passed on where one is kept, and then there is a look at everything, behind which it sleeps only if it found nothing; else it counts anew
  pub record Rests (old : WorkerView J ℕ C G S) (found : Bool) (new : WorkerView J ℕ C G S) : Type 0 where
    pub ready : WorkerView J ℕ C G S
    pub hands : HandsOnWhere takes (IsDueAtRest (served_of old)) old ready
    pub looks : LooksAtAll meaning sleeps reads asked (round_of ready) found (round_of new)
    pub counts : new.idle ≡ (if found then 0 else ready.idle)
    pub keeps : KeepsTries ready new

  -- one round; or one behind which the next one isn't made at once, and then the numbers are published, and there is a rest
  abbrev pub ServesOnce : WorkerView J ℕ C G S → WorkerView J ℕ C G S → Type 0
  ServesOnce old new =
      GoesOn old true new
      ⊎ ((tired : WorkerView J ℕ C G S) × GoesOn old false tired × ((told : WorkerView J ℕ C G S) × ShowsNow tired told × ((found : Bool) × Rests told found new)))

  -- The numbers are published if it is time, and then there is one round, and a rest where the next one isn't made at once. They are published once more where
  -- the worker came to its end by it.
  abbrev pub Serves : WorkerView J ℕ C G S → WorkerView J ℕ C G S → Type 0
  Serves old new = (shown : WorkerView J ℕ C G S) × ShowsAgain old shown × ((served : WorkerView J ℕ C G S) × ServesOnce shown served × ShowsEnd shown.ending served new)

  -- the worker served like this once and again, and these are its states between, the last one first
  abbrev pub ServesAlong : List (WorkerView J ℕ C G S) → WorkerView J ℕ C G S → WorkerView J ℕ C G S → Type 0
  ServesAlong [] old new = new ≡ old
  ServesAlong (last ∷ states) old new = ServesAlong states old last × Serves last new

  -- the same, through whatever states
  abbrev pub ServesOn : WorkerView J ℕ C G S → WorkerView J ℕ C G S → Type 0
  ServesOn old new = (states : List (WorkerView J ℕ C G S)) × ServesAlong states old new

  -- The worker served like this, then its numbers were published for the last time, and what was still kept was handed to its sink. What it gives back is its
  -- core, its sink and its board.
  pub record ServesToItsEnd (old : WorkerView J ℕ C G S) (new : EndedView J ℕ S) : Type 0 where
    pub last : WorkerView J ℕ C G S
    pub serves : ServesOn old last
    pub shows : Shows last.linked.recorded.journal.notes last.shown new.shown
    pub hands : HandsOn takes last.linked last.sink new.linked new.sink
