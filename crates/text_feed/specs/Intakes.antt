-- The bytes that were read from a source, and that are not yet taken as parts.
use Rattle.std.specs.Prelude.{◌≡◌, ℕ, ◌-◌, ◌≤◌, List, [], ◌++◌, take, drop, Option, None, Some, Result, Ok, Err}
use Rattle.std.specs.Io.KnownBytes.{Consumes}
use Rattle.base_words.specs.declared.note.Note.{Note}
use Rattle.text_feed.specs.declared.fault.FeedError.{FeedError}
use Rattle.text_parts.specs.HouseLaws.{parts_bytes, TellNotes}
use Rattle.text_parts.specs.Parts.{PartView}

-- a source, all bytes that were read from it, and those of them that are not yet taken
pub record IntakeView (S : Type 0) : Type 0 where
  pub source : S
  pub got : List ℕ
  pub rest : List ℕ

-- two places in so many bytes, one not before the other
pub record IsWithin (from to count : ℕ) : Type 0 where
  pub order : from ≤ to
  pub within : to ≤ count

-- the bytes from one place to another
abbrev pub between : ℕ → ℕ → List ℕ → List ℕ
between from to bytes = take (to - from) (drop from bytes)

-- bytes of the source come behind those that are there
pub record Reads {S : Type 0} (remaining : S → Option (List ℕ)) (old new : IntakeView S) : Type 0 where
  pub taken : List ℕ
  pub consumed : Consumes (remaining old.source) (remaining new.source) taken
  pub got : new.got ≡ old.got ++ taken
  pub rest : new.rest ≡ old.rest ++ taken

-- bytes of the source come behind those that are there, and parts are taken that stand in front of them. The parts tell these notes of an
-- actor, of whom so many notes came before
pub record Takes {S : Type 0} (remaining : S → Option (List ℕ)) (actor before : ℕ) (old : IntakeView S) (notes : List (Note ℕ)) (new : IntakeView S) : Type 0 where
  pub taken : List ℕ
  pub consumed : Consumes (remaining old.source) (remaining new.source) taken
  pub got : new.got ≡ old.got ++ taken
  pub parts : List PartView
  pub cut : old.rest ++ taken ≡ parts_bytes parts ++ new.rest
  pub told : TellNotes actor before notes parts

-- the notes that were found, if any were
abbrev pub notes_in : {X : Type 0} → (X → List (Note ℕ)) → Result (Option X) FeedError → List (Note ℕ)
notes_in items (Ok (Some found)) = items found
notes_in items (Ok None) = []
notes_in items (Err error) = []
