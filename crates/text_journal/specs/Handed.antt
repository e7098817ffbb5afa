-- What a taker was handed: the journals of a text so far.
use Rattle.std.specs.Prelude.{◌≡◌, ℕ, ◌∷◌, ◌++◌, [], List, length, Option, Some, None}
use Rattle.base_words.specs.declared.note.Note.{Note}
use Rattle.base_words.specs.Assembly.{Assembly}
use Rattle.base_words.specs.Journal.{Journal}
use Rattle.text_journal.specs.declared.draft.Part.{Part}
use Rattle.text_journal.specs.declared.draft.Part.TheVariants as part
use Rattle.text_journal.specs.Raised.{Drafted}

-- the numbers of the second line; the journals of the actors before; the notes so far, the newest first, of the actor whose notes come now
pub record Handed : Type 0 where
  pub cores : ℕ
  pub cap : ℕ
  pub burst : ℕ
  pub earlier : List (Journal ℕ)
  pub notes : Journal ℕ

-- before the second line
abbrev pub nothing_handed : Handed
nothing_handed = record { cores = 1; cap = 1; burst = 1; earlier = []; notes = [] }

-- right behind it
abbrev pub begun : ℕ → ℕ → ℕ → Handed
begun cores cap burst = record { cores = cores; cap = cap; burst = burst; earlier = []; notes = [] }

-- one note more of the actor
abbrev pub more_handed : Note ℕ → Handed → Handed
more_handed note handed = record { cores = handed.cores; cap = handed.cap; burst = handed.burst; earlier = handed.earlier; notes = note ∷ handed.notes }

-- the journal of the actor is whole, and the next actor's begins
abbrev pub next_handed : Handed → Handed
next_handed handed = record { cores = handed.cores; cap = handed.cap; burst = handed.burst; earlier = handed.earlier ++ handed.notes ∷ []; notes = [] }

-- the outside actor's notes come now: it is the last one
abbrev pub IsLast : Handed → Type 0
IsLast handed = length handed.earlier ≡ handed.cores

-- the journals of all actors, where the text ends here
abbrev pub assembly_handed : Handed → Assembly ℕ
assembly_handed handed = record { cores = handed.cores; cap = handed.cap; burst = handed.burst; journals = handed.earlier ++ handed.notes ∷ [] }

-- what a draft has handed on
abbrev pub handed_on : Drafted → Handed
handed_on draft = record { cores = draft.cores; cap = draft.cap; burst = draft.burst; earlier = draft.earlier; notes = draft.notes }

-- nothing is handed on before the second line
abbrev pub handed_in : Part → Drafted → Handed
handed_in part.Form draft = nothing_handed
handed_in part.Size draft = nothing_handed
handed_in part.Notes draft = handed_on draft
handed_in part.After draft = handed_on draft

-- the second line was read
abbrev pub IsBegun : Part → Type 0
IsBegun part.Form = ⊥
IsBegun part.Size = ⊥
IsBegun part.Notes = Unit {0}
IsBegun part.After = Unit {0}

-- no note was read before it
abbrev pub IsEmptyBefore : Part → Drafted → Type 0
IsEmptyBefore part.Form draft = (draft.earlier ≡ []) × (draft.notes ≡ [])
IsEmptyBefore part.Size draft = (draft.earlier ≡ []) × (draft.notes ≡ [])
IsEmptyBefore part.Notes draft = Unit {0}
IsEmptyBefore part.After draft = Unit {0}

-- the taker has what the draft has handed on, if there is a taker still
abbrev pub HasHanded : {T : Type 0} → (T → Handed → Type 0) → Option T → Handed → Type 0
HasHanded has None handed = Unit {0}
HasHanded has (Some taker) handed = has taker handed
