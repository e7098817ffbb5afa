-- Small cases of timers that each definition refuses.
use Rattle.std.specs.Prelude.{ℕ, Option, Some, None, [], ◌∷◌}
use Rattle.base_words.specs.declared.names.JobId.{JobId}
use Rattle.core_timers.specs.Timers.{Timer, LacksName, IsVacant, IsFull, IsFrom, IsAfter, IsNext, HasOneEach, Sets, HasNoKey, Forgets, IsDue}

-- two names
abbrev pub one : JobId
one = record { from = 0; to = 0; number = 1 }

abbrev pub other : JobId
other = record { from = 0; to = 0; number = 2 }

-- a timer of a name, due at a time
abbrev pub timer : JobId → ℕ → Option Timer
timer name time = Some (record { name = name; time = time })

-- what the words on timers refuse
pub record WordsRefuse : Type 0 where
  -- a name that has a timer lacks none
  pub lacks : LacksName (timer one 5 ∷ []) one → ⊥
  -- one timer is some
  pub vacant : IsVacant (timer one 5 ∷ []) → ⊥
  -- a free key is room
  pub full : IsFull (timer one 5 ∷ None ∷ []) → ⊥
  -- a timer is due before the others
  pub from : IsFrom 5 (timer one 5 ∷ timer other 3 ∷ []) → ⊥
  -- a timer is due now
  pub after : IsAfter 5 (timer one 5 ∷ []) → ⊥
  -- a later timer is told
  pub later : IsNext 5 (timer one 5 ∷ timer other 3 ∷ []) → ⊥
  -- a time is told at which no timer is due
  pub nobodys : IsNext 4 (timer one 5 ∷ []) → ⊥
  -- a name has two timers
  pub two : HasOneEach (timer one 5 ∷ timer one 7 ∷ []) → ⊥

-- what the word on `set` refuses
pub record SetsRefuses : Type 0 where
  -- the old time stays
  pub old_time : Sets (timer one 5 ∷ []) one 7 (timer one 5 ∷ []) → ⊥
  -- the timer of another name is replaced
  pub replaced : Sets (timer one 5 ∷ []) other 7 (timer other 7 ∷ []) → ⊥
  -- a name gets a second timer
  pub second : Sets (timer one 5 ∷ None ∷ []) one 7 (timer one 5 ∷ timer one 7 ∷ []) → ⊥
  -- another timer goes
  pub another_goes : Sets (timer one 5 ∷ timer other 6 ∷ []) one 7 (timer one 7 ∷ None ∷ []) → ⊥
  -- no key gets it
  pub nowhere : Sets [] one 7 [] → ⊥
  -- it isn't set, but a key is free
  pub free : HasNoKey (timer one 5 ∷ None ∷ []) other (timer one 5 ∷ None ∷ []) → ⊥
  -- it isn't set, but the name has a key
  pub its_own : HasNoKey (timer one 5 ∷ []) one (timer one 5 ∷ []) → ⊥
  -- it isn't set, and another timer goes
  pub emptied : HasNoKey (timer one 5 ∷ []) other (None ∷ []) → ⊥

-- what the words on `forget` and `due` refuse
pub record GoingRefuses : Type 0 where
  -- the timer stays
  pub stays : Forgets (timer one 5 ∷ []) one (timer one 5 ∷ []) → ⊥
  -- the timer of another name goes
  pub anothers : Forgets (timer one 5 ∷ []) other (None ∷ []) → ⊥
  -- the one that is taken isn't due
  pub not_due : IsDue (timer one 5 ∷ []) 4 one → ⊥
  -- another one is due before
  pub not_first : IsDue (timer one 5 ∷ timer other 3 ∷ []) 9 one → ⊥
  -- another name is told
  pub other_name : IsDue (timer one 5 ∷ []) 9 other → ⊥
