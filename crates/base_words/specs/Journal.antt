-- A journal is the list of an actor's notes, the newest first: behind a note stand the notes before it.
use Rattle.std.specs.Prelude.{ℕ, ◌-◌, List, [], ◌∷◌, ◌++◌, length, drop, Option, Some, None, Bool, false, ◌||◌}
use Rattle.base_words.specs.declared.names.JobId.{JobId}
use Rattle.base_words.specs.declared.note.Note.{Note}
use Rattle.base_words.specs.Names.{is_name}

-- the notes of one actor, the newest first
abbrev pub Journal : Type 0 → Type 0
Journal T = List (Note T)

-- each note has this property, with the notes before it
abbrev pub EachNote : {T : Type 0} → (Note T → Journal T → Type 0) → Journal T → Type 0
EachNote P [] = Unit {0}
EachNote P (note ∷ before) = P note before × EachNote P before

-- the first notes, as many as the place says
abbrev pub at_place : {T : Type 0} → ℕ → Journal T → Journal T
at_place place journal = drop (length journal - place) journal

-- the first of two, if it is there, else the other
abbrev pub or_else : {A : Type 0} → Option A → Option A → Option A
or_else None other = other
or_else (Some item) other = Some item

-- one more at the end, if there is one
abbrev pub with_last : {A : Type 0} → List A → Option A → List A
with_last items None = items
with_last items (Some item) = items ++ item ∷ []

-- several more at the end, if there are any
abbrev pub with_all : {A : Type 0} → List A → List A → List A
with_all items [] = items
with_all items (first ∷ rest) = items ++ first ∷ rest

-- what the notes tell, the oldest first
abbrev pub list_told : {T A : Type 0} → (Note T → Option A) → Journal T → List A
list_told says [] = []
list_told says (note ∷ before) = with_last (list_told says before) (says note)

-- whether a note tells this name
abbrev pub is_told : {T : Type 0} → (Note T → Option JobId) → JobId → Journal T → Bool
is_told says name [] = false
is_told says name (note ∷ before) = is_name name (says note) || is_told says name before

-- what the newest note that tells anything tells
abbrev pub latest_told : {T A : Type 0} → (Note T → Option A) → Journal T → Option A
latest_told says [] = None
latest_told says (note ∷ before) = or_else (says note) (latest_told says before)
