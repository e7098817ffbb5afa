-- The journals of a world, gathered from its actors.
use Rattle.model_world.proofs.Words.{◌≡◌, ◌+◌, List, [], ◌∷◌, ◌++◌, length, refl, sym, ◌∙◌, ap, length-map, length_push, map-append, map, RecordedView, desk_of}
use Rattle.model_world.proofs.Words.{Parts, world_of}
use Rattle.note_journal.specs.Journals.{JournalView}

module _ {J T : Type 0} where
  -- the journals of the cores
  abbrev pub journals_of : List (RecordedView J T) → List (JournalView T)
  journals_of cores = map (λ core. core.journal) cores

  notes-journals : (cores : List (RecordedView J T)) → map (λ journal. journal.notes) (journals_of cores) ≡ map (λ desk. desk.journal.notes) (map desk_of cores)
  notes-journals [] = refl
  notes-journals (core ∷ cores) = ap (λ rest. core.journal.notes ∷ rest) (notes-journals cores)

  module _ (parts : Parts J T) where
    pub gathered_count : length (journals_of parts.inside ++ parts.outside.journal ∷ []) ≡ length parts.inside + 1
    gathered_count = length_push (journals_of parts.inside) parts.outside.journal ∙ ap (λ count. count + 1) (length-map parts.inside (λ core. core.journal))

    -- together they are those of the world
    pub gathered_are : map (λ journal. journal.notes) (journals_of parts.inside ++ parts.outside.journal ∷ []) ≡ (world_of parts).journals
    gathered_are =
        map-append (λ journal. journal.notes) (journals_of parts.inside) (parts.outside.journal ∷ [])
        ∙ (ap (λ front. front ++ parts.outside.journal.notes ∷ []) (notes-journals parts.inside)
        ∙ sym (map-append (λ desk. desk.journal.notes) (map desk_of parts.inside) (parts.outside ∷ [])))
