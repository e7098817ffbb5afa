-- What the steps of a round do, and what they tell of it.
use Rattle.std.specs.Prelude.{◌≡◌, ◌≢◌, ◌⊎◌, ℕ, ◌+◌, ◌<◌, ◌≤◌, Bool, true, false, length, IsSome}
use Rattle.base_words.specs.Journal.{Journal}
use Rattle.base_words.specs.Closing.{core_mode, final_count}
use Rattle.link_ring.specs.Ends.{in_at, out_at}
use Rattle.actor_seat.specs.Bells.{BellsView, HasRung}
use Rattle.actor_seat.specs.Linked.{LinkedView, StaysLinked}
use Rattle.run_worker.specs.Ended.{ServedView}
use Rattle.run_worker.specs.Few.{WritesFew}
use Rattle.run_worker.specs.Rooms.{IsShort}
use Rattle.actor_core.specs.declared.whole.Turned.{Turned}
use Rattle.actor_core.specs.declared.whole.Turned.TheVariants.{Polled, Returned, Idle, Spent}

-- a step that did something wrote notes, and one that did nothing wrote none
abbrev pub TellsNotes : {T : Type 0} → Bool → Journal T → Journal T → Type 0
TellsNotes true old new = length old < length new
TellsNotes false old new = new ≡ old

-- whether a turn took a job out of its queue
abbrev pub is_turn : Turned → Bool
is_turn Polled = true
is_turn Returned = true
is_turn Idle = false
is_turn Spent = false

-- the bells were rung for each note of the worker's journal, and for nothing else
abbrev pub AreRung : {J T : Type 0} → ServedView J T → BellsView → Type 0
AreRung served bells = HasRung served.linked.recorded.core.cores served.linked.recorded.journal.notes bells.rings

module _ {J T : Type 0} where
  -- every order of this sender that its end has seen was delivered
  abbrev pub IsAllTaken : ℕ → LinkedView J T → Type 0
  IsAllTaken sender view = (in_at sender view.ends).inward.taken ≡ length (in_at sender view.ends).inward.seen

  -- every outcome of this core that its end has seen was collected
  abbrev pub IsAllGot : ℕ → LinkedView J T → Type 0
  IsAllGot core view = (out_at core view.ends).out.got ≡ length (out_at core view.ends).out.seen

  -- every order of this sender that its end has seen was delivered, or as many more as a link holds
  abbrev pub IsHeard : ℕ → LinkedView J T → LinkedView J T → Type 0
  IsHeard sender old new =
      IsAllTaken sender new ⊎ ((in_at sender old.ends).inward.taken + old.recorded.cap ≤ (in_at sender new.ends).inward.taken)

  -- each open gate of a core that is closed was shut, except that of the sender that is spared
  abbrev pub HasShutGates : ℕ → LinkedView J T → Type 0
  HasShutGates spared view =
      IsSome (core_mode view.recorded.journal.notes) → (sender : ℕ) → sender ≤ view.recorded.core.cores → sender ≢ spared → IsSome (final_count sender view.recorded.journal.notes)

  -- each gate of a core that was closed before is shut, except that of the sender that is spared
  abbrev pub ShutsClosed : ℕ → LinkedView J T → LinkedView J T → Type 0
  ShutsClosed spared old new =
      IsSome (core_mode old.recorded.journal.notes) → (sender : ℕ) → sender ≤ old.recorded.core.cores → sender ≢ spared → IsSome (final_count sender new.recorded.journal.notes)

  -- A worker at its end stays there. One that isn't at its end did nothing before the step. It comes to its end only where the journal is short.
  pub record LooksAtRoom (old new : ServedView J T) : Type 0 where
    pub ended : old.ending ≡ true → new.ending ≡ true
    pub same : new.ending ≡ old.ending → new ≡ old
    pub short : old.ending ≡ false → new.ending ≡ true → IsShort old.linked.recorded

  -- What each step keeps, how many notes it writes at most, and that it tells whether it did anything, unless its worker came to its end meanwhile. A worker
  -- comes to its end only if its journal is short, and stays there.
  pub record StepsServed (most : ℕ) (old : ServedView J T) (some : Bool) (new : ServedView J T) : Type 0 where
    pub stays : StaysLinked old.linked new.linked
    pub ended : old.ending ≡ true → new.ending ≡ true
    pub short : old.ending ≡ false → new.ending ≡ true → IsShort new.linked.recorded
    pub tells : new.ending ≡ old.ending → TellsNotes some old.linked.recorded.journal.notes new.linked.recorded.journal.notes
    pub few : WritesFew most old new

  -- one more order of this sender was delivered, or all that its end has seen were; no other end was touched
  pub record HearsOne (sender : ℕ) (old : LinkedView J T) (found : Bool) (new : LinkedView J T) : Type 0 where
    pub one : found ≡ true → (in_at sender new.ends).inward.taken ≡ (in_at sender old.ends).inward.taken + 1
    pub all : found ≡ false → IsAllTaken sender new
    pub others : (other : ℕ) → other ≢ sender → in_at other new.ends ≡ in_at other old.ends

  -- a sender was heard, unless the worker came to its end meanwhile; no other end was touched
  pub record HearsSome (sender : ℕ) (old new : ServedView J T) : Type 0 where
    pub heard : new.ending ≡ old.ending → IsHeard sender old.linked new.linked
    pub others : new.ending ≡ old.ending → (other : ℕ) → other ≢ sender → in_at other new.linked.ends ≡ in_at other old.linked.ends

  -- each of the first senders was heard, unless the worker came to its end meanwhile; the ends of the others are as they were
  pub record HearsFirst (count : ℕ) (old new : ServedView J T) : Type 0 where
    pub each : new.ending ≡ old.ending → (sender : ℕ) → sender < count → IsHeard sender old.linked new.linked
    pub rest : new.ending ≡ old.ending → (sender : ℕ) → count ≤ sender → in_at sender new.linked.ends ≡ in_at sender old.linked.ends

  -- each of the first senders was heard, unless the worker came to its end meanwhile
  abbrev pub HearsAll : ℕ → ServedView J T → ServedView J T → Type 0
  HearsAll count old new = new.ending ≡ old.ending → (sender : ℕ) → sender < count → IsHeard sender old.linked new.linked

  -- of this core every outcome was collected, unless the worker is at its end; no other end was touched
  pub record CollectsNext (core : ℕ) (old new : ServedView J T) : Type 0 where
    pub all : new.ending ≡ false → IsAllGot core new.linked
    pub others : new.ending ≡ false → (other : ℕ) → other ≢ core → out_at other new.linked.ends ≡ out_at other old.linked.ends

  -- of each of the first cores every outcome was collected, unless the worker is at its end
  abbrev pub CollectsFirst : ℕ → ServedView J T → Type 0
  CollectsFirst count new = new.ending ≡ false → (core : ℕ) → core < count → IsAllGot core new.linked
