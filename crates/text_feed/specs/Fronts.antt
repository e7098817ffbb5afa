-- The part in front of some bytes, and why none stands there that may come next.
use Rattle.std.specs.Prelude.{◌≡◌, ◌≢◌, ℕ, ◌+◌, ◌<◌, ◌≤◌, ◌^◌, List, ◌++◌, length, drop, Ok, Err}
use Rattle.text_feed.specs.declared.fault.FeedCause.{FeedCause}
use Rattle.text_feed.specs.declared.fault.FeedCause.TheVariants as cause
use Rattle.text_parts.specs.declared.part.PartCause.TheVariants as why
use Rattle.text_parts.specs.Parts.{PartView, part_at, part_bytes}

-- a part stands in front of some bytes, and has so many of them
pub record StandsInFront (part : PartView) (size : ℕ) (bytes : List ℕ) : Type 0 where
  pub within : size ≤ length bytes
  pub read : part_at bytes ≡ Ok (part, drop size bytes)
  pub cut : bytes ≡ part_bytes part ++ drop size bytes

-- bytes are no part. Where they are cut, no byte comes behind them: that is `ended`
abbrev pub IsNoPart : FeedCause → List ℕ → Type 0 → Type 0
IsNoPart (cause.Part told) bytes ended = (0 < length bytes) × (part_at bytes ≡ Err told) × (told ≡ why.Cut → ended)
IsNoPart cause.Actor bytes ended = ⊥
IsNoPart cause.Before bytes ended = ⊥

-- a part may come behind so many notes of an actor
pub record Fits (actor before : ℕ) (part : PartView) : Type 0 where
  pub actor_is : part.actor ≡ actor
  pub before_is : part.before ≡ before
  pub few : before + length part.notes < 2 ^ 64

-- why it may not
abbrev pub IsUnfit : FeedCause → ℕ → ℕ → PartView → Type 0
IsUnfit (cause.Part told) actor before part = ⊥
IsUnfit cause.Actor actor before part = part.actor ≢ actor
IsUnfit cause.Before actor before part = (part.actor ≡ actor) × (part.before ≢ before)

-- what is wrong with the bytes behind so many notes of an actor: they are no part, or one that may not come next
abbrev pub IsWrong : FeedCause → ℕ → ℕ → List ℕ → Type 0 → Type 0
IsWrong (cause.Part told) actor before bytes ended = IsNoPart (cause.Part told) bytes ended
IsWrong cause.Actor actor before bytes ended = (part : PartView) × (rest : List ℕ) × (part_at bytes ≡ Ok (part, rest)) × IsUnfit cause.Actor actor before part
IsWrong cause.Before actor before bytes ended = (part : PartView) × (rest : List ℕ) × (part_at bytes ≡ Ok (part, rest)) × IsUnfit cause.Before actor before part
