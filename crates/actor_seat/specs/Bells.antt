-- Who has something from a note, and how often the bell of each actor was rung.
use Rattle.std.specs.Prelude.{◌≡◌, ◌==◌, ◌||◌, Bool, false, is_some, ℕ, ◌+◌, ◌*◌, ◌-◌, ◌^◌, ◌<◌, Option, Some, None, List, [], ◌∷◌, length, map, min, replicate, reverse, slice_index_or, slice_set}
use Rattle.base_words.specs.declared.note.Note.{Note}
use Rattle.base_words.specs.declared.note.Note.TheVariants.{Sent, Answered, Back, Returned, Done}
use Rattle.base_words.specs.Filters.{order_sent, outcome_given}
use Rattle.base_words.specs.Journal.{Journal}

-- The bell of an actor in the hands of one who rings it, and how often that one rang it. All handles on one bell have the same name, and bells of two
-- actors have two names.
pub record BellView : Type 0 where
  pub actor : ℕ
  pub name : ℕ
  pub rings : ℕ

-- the bells of all actors in the hands of one who rings them: the name of each, and how often that one rang it
pub record BellsView : Type 0 where
  pub names : List ℕ
  pub rings : List ℕ

-- no bell
abbrev pub no_bell : BellView
no_bell = record { actor = 0; name = 0; rings = 0 }

-- The name of a bell, by the number of its word and the number of the actor that stands in its word. So one word never has two actors.
abbrev pub bell_name : ℕ → ℕ → ℕ
bell_name word actor = 256 * word + actor

-- it is the bell of this actor, and has the name of a word with that actor's number
abbrev pub IsNamedFor : ℕ → BellView → Type 0
IsNamedFor actor bell = (bell.actor ≡ actor) × ((word : ℕ) × (bell.name ≡ bell_name word actor))

-- each bell is that of the actor whose number is its place
abbrev pub AreInPlace : List BellView → Type 0
AreInPlace bells = (actor : ℕ) → actor < length bells → IsNamedFor actor (slice_index_or bells actor no_bell)

-- no two of these names are one
abbrev pub AreApart : List ℕ → Type 0
AreApart names = (one other : ℕ) → one < length names → other < length names → slice_index_or names one 0 ≡ slice_index_or names other 0 → one ≡ other

-- what is seen of these bells
abbrev pub bells_view : List BellView → BellsView
bells_view bells = record { names = map (λ bell. bell.name) bells; rings = map (λ bell. bell.rings) bells }

-- the bell of an actor among these, in hands that haven't rung it
abbrev pub bell_at : ℕ → BellsView → BellView
bell_at actor bells = record { actor = actor; name = slice_index_or bells.names actor 0; rings = 0 }

-- once more
abbrev pub once_more : ℕ → ℕ
once_more rings = min (rings + 1) (2 ^ 64 - 1)

-- the bell of this actor is rung, if the actor has one
abbrev pub rung_at : ℕ → List ℕ → List ℕ
rung_at actor rung = slice_set rung actor (once_more (slice_index_or rung actor 0))

-- the same, of an actor that there may be
abbrev pub rung_at_some : Option ℕ → List ℕ → List ℕ
rung_at_some None rung = rung
rung_at_some (Some actor) rung = rung_at actor rung

-- whether something is for this actor, and not for another or for nobody
abbrev pub is_for : ℕ → Option ℕ → Bool
is_for actor None = false
is_for actor (Some one) = one == actor

module _ {T : Type 0} where
  -- who has something from a note: the receiver of an order that was sent, or the sender of a job or command that has its outcome
  abbrev pub told_by : Note T → Option ℕ
  told_by (Sent name order) = Some name.to
  told_by (Answered name answer) = Some name.from
  told_by (Back name reason) = Some name.from
  told_by (Returned name reason) = Some name.from
  told_by (Done name time value) = Some name.from
  told_by _ = None

  -- the bells were rung for each of these notes, the first one first
  abbrev pub rung_for : List (Note T) → List ℕ → List ℕ
  rung_for [] rung = rung
  rung_for (note ∷ later) rung = rung_for later (rung_at_some (told_by note) rung)

  -- in a house of so many cores the bells of these and of the outside actor were rung for each note of this journal, and for nothing else
  abbrev pub HasRung : ℕ → Journal T → List ℕ → Type 0
  HasRung cores notes rung = rung ≡ rung_for (reverse notes) (replicate (cores + 1) 0)

-- A note is for an actor just if the lists of its links grow by it: it says that an order was sent to the actor, or that an outcome was given to it.
abbrev pub NotesAreForLinks : Type 0 → Type 0
NotesAreForLinks T = (note : Note T) (actor : ℕ) → is_for actor (told_by note) ≡ (is_some (order_sent actor note) || is_some (outcome_given actor note))
