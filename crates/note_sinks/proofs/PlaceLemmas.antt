-- Places stay where they are.
use Rattle.std.proofs.Common.{ℕ, ◌+◌, ◌<◌, List, length, get_or, take}
use Rattle.std.specs.Prelude.{All}
use Rattle.std.proofs.lemmas.List.Elements.{All-more}
use Rattle.base_words.specs.declared.note.Note.{Note}
use Rattle.base_words.specs.declared.note.Note.TheVariants.{Park}
use Rattle.note_facts.specs.declared.parks.Nap.{Nap}
use Rattle.note_facts.specs.Names.{Entries}
use Rattle.note_sinks.specs.Naps.{HasPlace, KeepsPlaces}

-- a job that had a place has it
pub place_kept : (old new : Entries Nap) (note : Note ℕ) → KeepsPlaces old new → HasPlace old note → HasPlace new note
place_kept old new (Park name time) keeps place = keeps name place
place_kept old new _ keeps place = tt

-- and so has each of several
pub places_kept : (old new : Entries Nap) (notes : List (Note ℕ)) → KeepsPlaces old new → All (HasPlace old) notes → All (HasPlace new) notes
places_kept old new notes keeps places = λ k d within. place_kept old new _ keeps (places k d within)

-- one note more has its place
pub places_more : (old new : Entries Nap) (notes : List (Note ℕ)) (count : ℕ) (note : Note ℕ) → KeepsPlaces old new → count < length notes → All (HasPlace old) (take count notes) →
    HasPlace new (get_or notes count note) → All (HasPlace new) (take (count + 1) notes)
places_more old new notes count note keeps within places place = All-more (HasPlace new) notes count note within (places_kept old new (take count notes) keeps places) place
