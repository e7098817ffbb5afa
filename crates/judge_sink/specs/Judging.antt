-- What judges a core's notes, and what is known of those that it found right.
use Rattle.std.specs.Prelude.{◌≡◌, ℕ, ◌<◌, Bool, true, false, Option, None, Some, [], ◌∷◌, Result, Ok, Err}
use Rattle.base_words.specs.Commands.{has_effect}
use Rattle.base_words.specs.Journal.{Journal, EachNote}
use Rattle.base_words.specs.Lawful.{MayStand}
use Rattle.base_words.specs.Spelled.{IsWithinLimits}
use Rattle.base_words.specs.Terms.{Terms}
use Rattle.base_words.specs.declared.note.Note.{Note}
use Rattle.base_words.specs.declared.note.Note.TheVariants.{Answered}
use Rattle.host_house.specs.declared.house.OpenError.{OpenError}
use Rattle.host_house.specs.declared.house.OpenError.TheVariants.{BadConfig, Memory}
use Rattle.judge_sink.specs.declared.links.Links.{Links}
use Rattle.judge_sink.specs.declared.table.Table.{Table}
use Rattle.judge_sink.specs.Links.{KnowsLinks}
use Rattle.judge_sink.specs.Replayed.{IsReplayed, is_half_done, is_replayed, replayed}
use Rattle.judge_sink.specs.Tables.{KnowsTable}
use Rattle.judge_sink.specs.Twins.{TwinView}

-- whose notes they are, those that were told and found right, the newest first, and whether none was found wrong
pub record JudgeView : Type 0 where
  pub terms : Terms
  pub has : Journal ℕ
  pub goes_on : Bool

-- the next note, if there is one, comes behind the others
abbrev pub with_next : Option (Note ℕ) → Journal ℕ → Journal ℕ
with_next None read = read
with_next (Some note) read = note ∷ read

-- what waits is an answer whose effect is still to be told
abbrev pub MayWait : Option (Note ℕ) → Type 0
MayWait None = Unit {0}
MayWait (Some (Answered name answer)) = has_effect answer ≡ true
MayWait (Some _) = ⊥

-- what a house wrote again, and an answer that may wait
pub record IsRead (twin : TwinView) (waits : Option (Note ℕ)) : Type 0 where
  pub lawful : EachNote (MayStand twin.terms) twin.read
  pub may_wait : MayWait waits

-- what is replayed of these notes was read, or waits; and whether any was left out
pub record IsAlong (twin : TwinView) (waits : Option (Note ℕ)) (links : Links) (table : Table) (left half : Bool) (has : Journal ℕ) : Type 0 where
  pub again : replayed twin.terms.actor has ≡ with_next waits twin.read
  pub is_read : IsRead twin waits
  pub known : KnowsLinks links has
  pub sent : KnowsTable twin.terms table has
  pub whole : left ≡ false → replayed twin.terms.actor has ≡ has
  pub step : half ≡ is_half_done has

-- a judge is along with its notes as long as it found none wrong, and those that it found right are lawful
pub record IsJudge (twin : TwinView) (waits : Option (Note ℕ)) (links : Links) (table : Table) (left half : Bool) (has : Journal ℕ) (goes_on : Bool) : Type 0 where
  pub core_is : twin.terms.actor ≡ links.core
  pub cores_are : twin.terms.cores ≡ links.cores
  pub along : goes_on ≡ true → IsAlong twin waits links table left half has
  pub right : IsReplayed twin.terms has

-- one more note was read, or waits
pub record ReadsOn (note : Note ℕ) (old : TwinView) (waited : Option (Note ℕ)) (new : TwinView) (waits : Option (Note ℕ)) : Type 0 where
  pub terms : new.terms ≡ old.terms
  pub one_more : with_next waits new.read ≡ note ∷ with_next waited old.read
  pub is_read : IsRead new waits

-- a note that is replayed was read on, and any other stands between two steps and changes nothing
pub record Steps (core : ℕ) (half : Bool) (note : Note ℕ) (old : TwinView) (waited : Option (Note ℕ)) (new : TwinView) (waits : Option (Note ℕ)) : Type 0 where
  pub again : is_replayed core note ≡ true → ReadsOn note old waited new waits
  pub left : is_replayed core note ≡ false → (half ≡ false) × (new ≡ old) × (waits ≡ waited)

-- the numbers are within the limits of a house that has this core
pub record AreGood (core cores cap burst : ℕ) : Type 0 where
  pub core_in : core < cores
  pub limits : IsWithinLimits cores cap burst

-- the terms of this core
abbrev pub terms_in : ℕ → ℕ → ℕ → ℕ → Terms
terms_in core cores cap burst = record { actor = core; cores = cores; cap = cap; burst = burst }

-- a house is opened, of whose core nothing was read; or the numbers aren't good, or there is no memory
abbrev pub OpensTwin : ℕ → ℕ → ℕ → ℕ → Result TwinView OpenError → Type 0
OpensTwin core cores cap burst (Ok twin) = AreGood core cores cap burst × (twin ≡ record { terms = terms_in core cores cap burst; read = [] })
OpensTwin core cores cap burst (Err BadConfig) = AreGood core cores cap burst → ⊥
OpensTwin core cores cap burst (Err Memory) = AreGood core cores cap burst

-- the same of a judge that was told no note
abbrev pub OpensJudge : ℕ → ℕ → ℕ → ℕ → Result JudgeView OpenError → Type 0
OpensJudge core cores cap burst (Ok judge) =
    AreGood core cores cap burst × (judge ≡ record { terms = terms_in core cores cap burst; has = []; goes_on = true })
OpensJudge core cores cap burst (Err BadConfig) = AreGood core cores cap burst → ⊥
OpensJudge core cores cap burst (Err Memory) = AreGood core cores cap burst
