-- What the readings of a clock tell of a poll, and what a worker's watch is behind the poll.
use Rattle.std.specs.Prelude.{◌≡◌, ◌⊎◌, ℕ, ◌+◌, ◌-◌, ◌^◌, min, Bool, true, false, Option, Some, None, IsSome, unwrap_or}

-- A worker's clock, the reading behind its last poll if the next poll begins with it, and how long polls took together since the last look at the links.
pub record WatchView (C : Type 0) : Type 0 where
  pub clock : C
  pub last : Option ℕ
  pub taken : ℕ

-- the same, put together
abbrev pub watch_view : {C : Type 0} → C → Option ℕ → ℕ → WatchView C
watch_view clock last taken = record { clock = clock; last = last; taken = taken }

-- how long polls took with one more that took so long
abbrev pub taken_with : ℕ → ℕ → ℕ
taken_with taken spent = min (taken + spent) (2 ^ 64 - 1)

-- the reading behind the last poll is kept where a turn was made, and the worker goes straight on
abbrev pub kept_behind : Bool → Option ℕ → Option ℕ
kept_behind true last = last
kept_behind false last = None

module _ {C : Type 0} (reads : C → ℕ → C → Type 0) where
  -- A poll begins with the reading that was kept, and the clock isn't read. If none was kept, the clock is read.
  abbrev pub BeginsNext : WatchView C → WatchView C → Type 0
  BeginsNext watch begun =
      (IsSome watch.last × (begun ≡ watch)) ⊎ ((watch.last ≡ None) × ((told : ℕ) × reads watch.clock told begun.clock × (begun ≡ watch_view begun.clock (Some told) watch.taken)))

  -- The clock is read once more. The poll took what lies between, nothing if the clock fell, and it is counted. The next one may begin with this reading.
  pub record EndsNext (begun : WatchView C) (spent : ℕ) (after : WatchView C) : Type 0 where
    pub told : ℕ
    pub is_read : reads begun.clock told after.clock
    pub took : spent ≡ told - unwrap_or begun.last told
    pub keeps : after.last ≡ Some told
    pub counts : after.taken ≡ taken_with begun.taken spent

  -- the clock is read behind a poll, and before it only where no reading was kept: so a poll took what lies between two readings in a row
  abbrev pub TimesNext : WatchView C → ℕ → WatchView C → Type 0
  TimesNext watch spent after = (begun : WatchView C) × BeginsNext watch begun × EndsNext begun spent after

  -- the clock is read for something else than a poll
  abbrev pub ReadsNow : WatchView C → ℕ → WatchView C → Type 0
  ReadsNow watch now after = reads watch.clock now after.clock × (after ≡ record watch { clock = after.clock })
