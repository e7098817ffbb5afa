-- What a caller sees of the lines that a sink writes.
use Rattle.std.specs.Prelude.{◌≡◌, ◌⊎◌, ℕ, ◌+◌, ◌-◌, ◌^◌, List, [], ◌++◌, Option, None, Some, min}
use Rattle.std.specs.Io.KnownBytes.{Appends}
use Rattle.base_words.specs.Journal.{Journal}
use Rattle.text_journal.specs.Texts.{actor_lines, text_of}
use Rattle.text_bytes.specs.Tries.{HasFailedSince}

-- whose notes they are, the writer, what is still to be written to it, the notes that were taken, the newest first, how often notes were refused, how
-- often that was for want of memory, and how many were taken before each refusal, the first one first
pub record LinesView (W : Type 0) : Type 0 where
  pub actor : ℕ
  pub writer : W
  pub pending : List ℕ
  pub has : Journal ℕ
  pub refusals : ℕ
  pub shortages : ℕ
  pub refused : List ℕ

-- nothing was written yet, if it is known what was
abbrev pub IsBlank : Option (List ℕ) → Type 0
IsBlank None = Unit {0}
IsBlank (Some bytes) = bytes ≡ []

module _ {W : Type 0} (contents : W → Option (List ℕ)) where
  -- this was written, and nothing else, to a writer that began with nothing
  pub record HasWritten (writer : W) (text : List ℕ) : Type 0 where
    pub first : W
    pub blank : IsBlank (contents first)
    pub appends : Appends (contents first) (contents writer) text

  -- what was written and what is pending are together the lines of all notes
  pub record HoldsText (lines : LinesView W) : Type 0 where
    pub written : List ℕ
    pub has_written : HasWritten lines.writer written
    pub whole : text_of (actor_lines lines.actor lines.has) ≡ written ++ lines.pending

-- why notes were refused: memory lacked, and this is counted; or a write failed
abbrev pub IsRefused : {W : Type 0} → (W → Option ℕ) → (W → W → Type 0) → (W → W → Type 0) → LinesView W → LinesView W → Type 0
IsRefused tries interrupts fails old new =
    (new.shortages ≡ min (old.shortages + 1) (2 ^ 64 - 1)) ⊎ ((new.shortages ≡ old.shortages) × HasFailedSince tries interrupts fails old.writer new.writer)
