-- When notes tell that their core closed by itself.
use Rattle.std.specs.Prelude.{ℕ, Bool, true, false, not, ◌||◌, nat_le, Option, Some, None, is_some, [], ◌∷◌}
use Rattle.base_words.specs.declared.note.Note.{Note}
use Rattle.base_words.specs.declared.note.Note.TheVariants.{CoreClosed}
use Rattle.base_words.specs.Commands.{effect_awaited}
use Rattle.base_words.specs.Journal.{Journal, or_else}

-- a note of a closing that isn't the effect of a command: no answer right before it awaits an effect
abbrev pub is_own_closing : {T : Type 0} → Note T → Journal T → Bool
is_own_closing (CoreClosed mode) before = not (is_some (effect_awaited before))
is_own_closing _ before = false

-- The core closed by itself at least once, whether or not commands closed it too, before or later. Notes that tell it tell it also when more notes stand before them.
abbrev pub closed_by_itself : {T : Type 0} → Journal T → Bool
closed_by_itself [] = false
closed_by_itself (note ∷ before) = is_own_closing note before || closed_by_itself before

-- whether the publication of this number told so, if the first one that did has that number
abbrev pub told_by : Option ℕ → ℕ → Bool
told_by None number = false
told_by (Some first) number = nat_le first number

-- the number of the first publication that told so, behind one of this number that did
abbrev pub first_told : Option ℕ → ℕ → Option ℕ
first_told first number = or_else first (Some number)

-- the same behind a publication that told so or not
abbrev pub told_after : Option ℕ → ℕ → Bool → Option ℕ
told_after first number true = first_told first number
told_after first number false = first
