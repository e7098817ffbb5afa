-- The journal of one actor, told note by note from the bytes of its parts.
use Rattle.std.specs.Prelude.{◌≡◌, ℕ, ◌≤◌, List, ◌∷◌, ◌++◌, length, drop, reverse, Option, None, Some}
use Rattle.std.specs.Io.KnownBytes.{IsAtEnd}
use Rattle.base_words.specs.Journal.{Journal}
use Rattle.base_words.specs.declared.note.Note.{Note}
use Rattle.text_feed.specs.declared.fault.FeedCause.{FeedCause}
use Rattle.text_feed.specs.Fronts.{IsWrong}
use Rattle.text_parts.specs.HouseLaws.{parts_bytes, TellNotes}
use Rattle.text_parts.specs.Parts.{PartView}

-- some bytes are those of parts, one behind the other, that tell the whole journal of an actor
abbrev pub TellJournal : ℕ → List ℕ → Journal ℕ → Type 0
TellJournal actor bytes journal = (parts : List PartView) × (bytes ≡ parts_bytes parts) × TellNotes actor 0 (reverse journal) parts

-- some bytes are those of parts that tell these notes of an actor, the oldest first, and the rest behind them
pub record TellFront (actor : ℕ) (bytes : List ℕ) (notes : List (Note ℕ)) (rest : List ℕ) : Type 0 where
  pub parts : List PartView
  pub cut : bytes ≡ parts_bytes parts ++ rest
  pub told : TellNotes actor 0 notes parts

-- a source, the actor, all bytes that were read from the source, and the notes told so far, the newest first
pub record FeedView (S : Type 0) : Type 0 where
  pub source : S
  pub actor : ℕ
  pub got : List ℕ
  pub told : Journal ℕ

-- the parts that were read tell the notes told so far and those of the part at hand from this place on; the rest is not yet taken
pub record IsFeed (actor : ℕ) (got rest : List ℕ) (told part : List (Note ℕ)) (at before : ℕ) : Type 0 where
  pub within : at ≤ length part
  pub count : before ≡ length (told ++ drop at part)
  pub front : TellFront actor got (told ++ drop at part) rest

-- the bytes that were read begin with those of parts that tell the notes told so far, and maybe some that come next
pub record IsTold {S : Type 0} (feed : FeedView S) : Type 0 where
  pub next : List (Note ℕ)
  pub rest : List ℕ
  pub front : TellFront feed.actor feed.got (reverse feed.told ++ next) rest

-- one note more, if there is one
abbrev pub with_next : Option (Note ℕ) → Journal ℕ → Journal ℕ
with_next None journal = journal
with_next (Some note) journal = note ∷ journal

-- the bytes that were read are those of parts that tell the notes told so far, and the rest; and this is wrong with the rest
abbrev pub IsFaulty : {S : Type 0} → (S → Option (List ℕ)) → FeedCause → FeedView S → Type 0
IsFaulty remaining cause feed =
    (rest : List ℕ) × TellFront feed.actor feed.got (reverse feed.told) rest × IsWrong cause feed.actor (length feed.told) rest (IsAtEnd (remaining feed.source))
