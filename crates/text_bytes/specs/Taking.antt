-- A text so far, as long as nothing in it is faulty.
use Rattle.std.specs.Prelude.{◌≡◌, ◌≢◌, ◌⊎◌, ℕ, ◌+◌, ◌<◌, ◌≤◌, ◌++◌, List, [], ◌∷◌, length, Option, Ok, Err}
use Rattle.std.specs.Io.KnownBytes.{Consumes}
use Rattle.text_words.specs.declared.fault.Fault.{Fault}
use Rattle.text_words.specs.declared.fault.Fault.TheVariants.{Text, Read, Write, Memory}
use Rattle.text_bytes.specs.Texts.{Judge, Reading}
use Rattle.text_bytes.specs.Readings.{at}
use Rattle.text_bytes.specs.Sources.{ReadsSome}

-- the line that is begun was taken, and the next one begins
pub record IsTaken {D C : Type 0} (judge : Judge D C) (old new : Reading D) : Type 0 where
  pub draft : judge.judged old.draft old.number old.line ≡ Ok new.draft
  pub number : new.number ≡ old.number + 1
  pub line : new.line ≡ []

-- the line that is begun is faulty
abbrev pub IsRefused : {D C : Type 0} → Judge D C → Reading D → ℕ × C → Type 0
IsRefused judge old fault = (fault.0 ≡ old.number) × (judge.judged old.draft old.number old.line ≡ Err fault.1)

-- a byte goes on with a line that has room for it
pub record IsLonger {D : Type 0} (longest byte : ℕ) (old new : Reading D) : Type 0 where
  pub room : length old.line < longest
  pub draft : new.draft ≡ old.draft
  pub number : new.number ≡ old.number
  pub line : new.line ≡ old.line ++ byte ∷ []

-- a line feed ends a line that is taken; any other byte goes on with its line
abbrev pub TakesByte : {D C : Type 0} → Judge D C → ℕ → Reading D → Reading D → Type 0
TakesByte judge byte old new = ((byte ≡ 10) × IsTaken judge old new) ⊎ ((byte ≢ 10) × IsLonger judge.longest byte old new)

-- these bytes are taken, one after another: no line that ends in them is faulty, and none is too long
abbrev pub TakesAll : {D C : Type 0} → Judge D C → List ℕ → Reading D → Reading D → Type 0
TakesAll judge [] old new = new ≡ old
TakesAll {D} judge (byte ∷ bytes) old new = (between : Reading D) × TakesByte judge byte old between × TakesAll judge bytes between new

-- a text that begins so may still be faultless, as far as its lines ended
pub record IsFaultless {D C : Type 0} (judge : Judge D C) (draft : D) (text : List ℕ) : Type 0 where
  pub reading : Reading D
  pub takes : TakesAll judge text (at draft 1 []) reading

-- what was read is faultless, except perhaps the last bytes, at most a page of 8192
pub record IsToldAtOnce {D C : Type 0} (judge : Judge D C) (draft : D) (old new : Option (List ℕ)) : Type 0 where
  pub before : List ℕ
  pub last : List ℕ
  pub consumed : Consumes old new (before ++ last)
  pub short : length last ≤ 8192
  pub faultless : IsFaultless judge draft before

-- what was read before the last read is faultless: nothing was read on
pub record IsToldByRead {D C S : Type 0} (judge : Judge D C) (draft : D) (remaining : S → Option (List ℕ)) (tries : S → Option ℕ) (reads : S → List ℕ → S → Type 0) (interrupts : S → S → Type 0) (old new : S) : Type 0 where
  pub between : S
  pub before : List ℕ
  pub last : List ℕ
  pub consumed : Consumes (remaining old) (remaining between) before
  pub reads_last : ReadsSome tries reads interrupts between last new
  pub faultless : IsFaultless judge draft before

-- all that was read is faultless
pub record IsReadSoFar {D C : Type 0} (judge : Judge D C) (draft : D) (old new : Option (List ℕ)) : Type 0 where
  pub before : List ℕ
  pub consumed : Consumes old new before
  pub faultless : IsFaultless judge draft before

-- a faulty line is told before more is read than the page that it ends in; a failed read is told only behind faultless text
abbrev pub IsPrompt : {D C : Type 0} → Judge D C → D → Option (List ℕ) → Option (List ℕ) → Fault C → Type 0
IsPrompt judge draft old new (Text line cause) = IsToldAtOnce judge draft old new
IsPrompt judge draft old new Read = IsReadSoFar judge draft old new
IsPrompt judge draft old new Write = Unit {0}
IsPrompt judge draft old new Memory = Unit {0}
