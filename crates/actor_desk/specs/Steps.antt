-- What each call does to a lane.
use Rattle.std.specs.Prelude.{◌≡◌, ◌≢◌, ◌⊎◌, ℕ, ◌+◌, List, ◌++◌, length, take, Option, Some, None, Result, Ok, Err, All}
use Rattle.base_words.specs.declared.order.Outcome.{Outcome}
use Rattle.base_words.specs.declared.order.SendError.{SendError}
use Rattle.base_words.specs.declared.names.JobId.{JobId}
use Rattle.base_words.specs.declared.names.TicketError.{TicketError}
use Rattle.base_words.specs.declared.names.TicketError.TheVariants as refusal
use Rattle.link_ends.specs.declared.ends.Outward.{Outward}
use Rattle.link_ends.specs.Calls.{Collects}
use Rattle.base_words.specs.Assembly.{IsPrefix}
use Rattle.actor_desk.specs.Held.{at, tally, Removes, Becomes}
use Rattle.actor_desk.specs.Lanes.{Lane, is_detached, IsGiven, IsGone}
use Rattle.actor_desk.specs.declared.entry.Standing.{Standing}
use Rattle.actor_desk.specs.declared.entry.Standing.TheVariants as standing
use Rattle.actor_desk.specs.declared.entry.Entry.{Entry}
use Rattle.actor_desk.specs.declared.entry.Entry.TheVariants.{Pending, Detached, Collected}

-- the number that a submission was given, or why it was refused
abbrev pub numbered : {J : Type 0} → Result JobId (SendError J) → Result ℕ (SendError J)
numbered (Ok name) = Ok name.number
numbered (Err error) = Err error

module _ {J T : Type 0} where
  -- The outcome of a submission that waits for it is kept; of one that is detached it is dropped, and the place of the link is free.
  abbrev pub Keeps : List (ℕ × Entry J T) → List (ℕ × Entry J T) → ℕ → Outcome J T → ℕ → ℕ → Type 0
  Keeps old new number outcome credited later =
      (Becomes old new number Pending (Collected outcome) × (later ≡ credited)) ⊎ (Removes old new number Detached × (later ≡ credited + 1))

  -- The next outcome that the link shows is collected: one that is waited for is kept, a detached one is dropped. Or the link shows none.
  abbrev pub CollectsNext : Lane J T → Lane J T → Outward J T → Outward J T → ℕ → ℕ → Option (ℕ × Outcome J T) → Type 0
  CollectsNext old new out later credited after None = Collects out later None × (new ≡ old) × (after ≡ credited)
  CollectsNext old new out later credited after (Some found) =
      Collects out later (Some found) × (new ≡ record old { entries = new.entries }) × Keeps old.entries new.entries found.0 found.1 credited after

  -- what becomes of an entry when its outcome is collected: a submission that waits has its outcome from then on, a detached one is gone
  abbrev pub Settles : Option (Entry J T) → Outcome J T → Option (Entry J T) → Type 0
  Settles (Some Pending) outcome after = after ≡ Some (Collected outcome)
  Settles (Some Detached) outcome after = after ≡ None
  Settles _ outcome after = ⊥

  -- These outcomes are collected, in this order, each under its number. No other entry changes. As many places of the link are free as detached ones are gone.
  pub record CollectsThese (old new : Lane J T) (out later : Outward J T) (credited after : ℕ) (outcomes : List (ℕ × Outcome J T)) : Type 0 where
    pub end : later ≡ record out { seen = later.seen; got = later.got }
    pub longer : IsPrefix out.seen later.seen
    pub in_order : take later.got later.seen ≡ take out.got out.seen ++ outcomes
    pub settled : All (λ found. Settles (at old.entries found.0) found.1 (at new.entries found.0)) outcomes
    pub others : (number : ℕ) → All (λ found. found.0 ≢ number) outcomes → at new.entries number ≡ at old.entries number
    pub freed : after + tally new.entries is_detached ≡ credited + tally old.entries is_detached
    pub rest : new ≡ record old { entries = new.entries }

  -- so many outcomes are collected
  abbrev pub CollectsMany : Lane J T → Lane J T → Outward J T → Outward J T → ℕ → ℕ → ℕ → Type 0
  CollectsMany old new out later credited after count =
      (outcomes : List (ℕ × Outcome J T)) × CollectsThese old new out later credited after outcomes × (length outcomes ≡ count)

  -- all outcomes that the link shows are collected, so many of them
  abbrev pub CollectsAll : Lane J T → Lane J T → Outward J T → Outward J T → ℕ → ℕ → ℕ → Type 0
  CollectsAll old new out later credited after count = CollectsMany old new out later credited after count × (later.got ≡ length later.seen)

  -- why a ticket is refused
  abbrev pub Refuses : Lane J T → ℕ → TicketError → Type 0
  Refuses lane number refusal.Unknown = ¬ IsGiven lane number
  Refuses lane number refusal.Gone = IsGiven lane number × IsGone lane number
  Refuses lane number refusal.Pending = IsGiven lane number × (at lane.entries number ≡ Some Pending)

  -- a redemption gives the outcome and frees a place of the link, or is refused
  abbrev pub Redeems : Lane J T → Lane J T → ℕ → ℕ → ℕ → Result (Outcome J T) TicketError → Type 0
  Redeems old new number credited later (Ok outcome) =
      Removes old.entries new.entries number (Collected outcome) × (new ≡ record old { entries = new.entries }) × (later ≡ credited + 1)
  Redeems old new number credited later (Err error) = Refuses old number error × (new ≡ old) × (later ≡ credited)

  -- nobody will redeem the number: what is collected is dropped and frees a place of the link, what isn't collected will be dropped; or it is refused
  abbrev pub Detaches : Lane J T → Lane J T → ℕ → ℕ → ℕ → Result (Unit {0}) TicketError → Type 0
  Detaches old new number credited later (Ok done) =
      (new ≡ record old { entries = new.entries })
      × ((Becomes old.entries new.entries number Pending Detached × (later ≡ credited))
      ⊎ ((outcome : Outcome J T) × Removes old.entries new.entries number (Collected outcome) × (later ≡ credited + 1)))
  Detaches old new number credited later (Err refusal.Pending) = ⊥
  Detaches old new number credited later (Err refusal.Unknown) = Refuses old number refusal.Unknown × (new ≡ old) × (later ≡ credited)
  Detaches old new number credited later (Err refusal.Gone) = Refuses old number refusal.Gone × (new ≡ old) × (later ≡ credited)

-- what is told of an entry is what stands there
abbrev pub StandsAs : {J T : Type 0} → Standing → Option (Entry J T) → Type 0
StandsAs standing.Nothing entry = entry ≡ None
StandsAs standing.Pending entry = entry ≡ Some Pending
StandsAs standing.Detached entry = entry ≡ Some Detached
StandsAs {J} {T} standing.Collected entry = (outcome : Outcome J T) × (entry ≡ Some (Collected outcome))
