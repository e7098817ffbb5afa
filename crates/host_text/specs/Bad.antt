-- Answers that no call may give, each refused by the definition that judges it.
use Rattle.std.proofs.Common.{ap, arith}
use Rattle.std.specs.Prelude.{ℕ, List, [], ◌∷◌, Ok, Err}
use Rattle.note_journal.specs.Journals.{JournalView}
use Rattle.host_text.specs.declared.part.PassError.TheVariants.{Short}
use Rattle.host_text.specs.Parts.{CopiesAll, PassesPart}

-- a text is told as too long for bytes that have room for it
pub room_is_short : (after : List ℕ) → CopiesAll (1 ∷ 2 ∷ []) (0 ∷ 0 ∷ []) (Err (Short 2)) after → ⊥
room_is_short after copied = omega (arith, copied.1)

-- fewer bytes are told as wanted than the text has
pub half_is_wanted : (after : List ℕ) → CopiesAll (1 ∷ 2 ∷ []) [] (Err (Short 1)) after → ⊥
half_is_wanted after copied = cc copied.0

-- the bytes behind the text are lost
pub rest_is_lost : CopiesAll (1 ∷ []) (0 ∷ 7 ∷ []) (Ok 1) (1 ∷ []) → ⊥
rest_is_lost copied = cc copied.2

-- a text that is too long loses the notes
pub short_loses_notes : (before after : List ℕ) → PassesPart 0 (record { notes = []; passed = []; room = 4 }) before (Err (Short 9)) after (record { notes = []; passed = []; room = 3 }) → ⊥
short_loses_notes before after passes = omega (arith, ap (λ (journal : JournalView ℕ). journal.room) passes.1)

-- the places of what was handed on stay used
pub places_stay_used : (before after : List ℕ) → PassesPart 0 (record { notes = []; passed = []; room = 4 }) before (Ok 0) after (record { notes = []; passed = []; room = 3 }) → ⊥
places_stay_used before after passes = omega (arith, ap (λ (journal : JournalView ℕ). journal.room) passes.1)
