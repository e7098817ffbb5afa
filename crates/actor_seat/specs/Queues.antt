-- The creations at the opening of a journal.
use Rattle.std.specs.Prelude.{Bool, true, false, if◌then◌else◌, [], ◌∷◌}
use Rattle.base_words.specs.declared.note.Note.TheVariants.{Created}
use Rattle.base_words.specs.Journal.{Journal}

module _ {T : Type 0} where
  -- whether nothing but creations was noted
  abbrev pub is_opening : Journal T → Bool
  is_opening [] = true
  is_opening (Created queue weight ∷ before) = is_opening before
  is_opening (_ ∷ before) = false

  -- the creations at the opening: the notes before the first that is none
  abbrev pub opening_of : Journal T → Journal T
  opening_of [] = []
  opening_of (note ∷ before) = if is_opening (note ∷ before) then note ∷ before else opening_of before
