-- What became of reads, writes and flushes that are made again where a signal interrupts them.
use Rattle.std.specs.Prelude.{◌≡◌, ◌⊎◌, ℕ, zero, suc, ◌+◌, ◌<◌, ◌≤◌, Option, None, Some}
use Rattle.text_bytes.specs.declared.once.Once.{Once}
use Rattle.text_bytes.specs.declared.once.Once.TheVariants.{Made, Interrupted, Failed}

-- a fact of what a read, write or flush gave
abbrev pub IfMade : {A : Type 0} → Once A → (A → Type 0) → Type 0
IfMade (Made what) fact = fact what
IfMade Interrupted fact = Unit {0}
IfMade Failed fact = Unit {0}

-- a fact of one that gave nothing
abbrev pub IfNotMade : {A : Type 0} → Once A → Type 0 → Type 0
IfNotMade (Made what) fact = Unit {0}
IfNotMade Interrupted fact = fact
IfNotMade Failed fact = fact

-- a fact of one that a signal interrupted
abbrev pub IfInterrupted : {A : Type 0} → Once A → Type 0 → Type 0
IfInterrupted (Made what) fact = Unit {0}
IfInterrupted Interrupted fact = fact
IfInterrupted Failed fact = Unit {0}

-- a fact of one that failed
abbrev pub IfFailed : {A : Type 0} → Once A → Type 0 → Type 0
IfFailed (Made what) fact = Unit {0}
IfFailed Interrupted fact = Unit {0}
IfFailed Failed fact = fact

-- one try more is counted, if the device counts its tries
abbrev pub IsOneMore : Option ℕ → Option ℕ → Type 0
IsOneMore None new = Unit {0}
IsOneMore (Some old) None = ⊥
IsOneMore (Some old) (Some new) = new ≡ old + 1

-- so many tries in a row were interrupted, and lead from one state to the other; each is counted
abbrev pub AreInterrupted : {S : Type 0} → (S → Option ℕ) → (S → S → Type 0) → ℕ → S → S → Type 0
AreInterrupted tries interrupts zero old new = new ≡ old
AreInterrupted {S} tries interrupts (suc more) old new =
    (between : S) × AreInterrupted tries interrupts more old between × interrupts between new × IsOneMore (tries between) (tries new)

-- fewer than 1000 tries in a row were interrupted, and the one after them failed
pub record FailsAfter {S : Type 0} (tries : S → Option ℕ) (interrupts fails : S → S → Type 0) (old new : S) : Type 0 where
  pub count : ℕ
  pub few : count < 1000
  pub between : S
  pub interrupted : AreInterrupted tries interrupts count old between
  pub failed : fails between new
  pub counted : IsOneMore (tries between) (tries new)

-- a try failed, or 1000 in a row were interrupted
abbrev pub HasFailed : {S : Type 0} → (S → Option ℕ) → (S → S → Type 0) → (S → S → Type 0) → S → S → Type 0
HasFailed tries interrupts fails old new = FailsAfter tries interrupts fails old new ⊎ AreInterrupted tries interrupts 1000 old new

-- one more than how many tries are counted; 0 if the device counts none
abbrev pub counted : Option ℕ → ℕ
counted None = 0
counted (Some count) = count + 1

-- no fewer tries are counted than before
abbrev pub IsNoFewer : Option ℕ → Option ℕ → Type 0
IsNoFewer old new = counted old ≤ counted new

-- the device has failed behind the tries that `old` has counted, and nothing was tried behind that
abbrev pub HasFailedSince : {S : Type 0} → (S → Option ℕ) → (S → S → Type 0) → (S → S → Type 0) → S → S → Type 0
HasFailedSince {S} tries interrupts fails old new = (from : S) × IsNoFewer (tries old) (tries from) × HasFailed tries interrupts fails from new
