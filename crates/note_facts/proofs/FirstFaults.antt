-- Not each note has the property, if one is at fault.
use Rattle.std.proofs.Common.{ℕ, zero, suc, ◌-◌, [], ◌∷◌, length, drop, subst}
use Rattle.base_words.specs.declared.note.Note.{Note}
use Rattle.base_words.specs.Journal.{Journal, EachNote, at_place}
use Rattle.note_facts.specs.Faults.{IsFirstFault}

module _ {T : Type 0} (P : Note T → Journal T → Type 0) where
  each_dropped : (count : ℕ) (journal : Journal T) → EachNote P journal → EachNote P (drop count journal)
  each_dropped zero journal each = each
  each_dropped (suc count) [] each = each
  each_dropped (suc count) (note ∷ before) each = each_dropped count before each.1

  -- what holds of each note holds of each note before a place
  pub each_before : (place : ℕ) (journal : Journal T) → EachNote P journal → EachNote P (at_place place journal)
  each_before place journal each = each_dropped (length journal - place) journal each

  -- not each note has the property, if there is a fault
  pub fault_breaks : (journal : Journal T) (line : ℕ) → IsFirstFault P journal line → EachNote P journal → ⊥
  fault_breaks journal line fault each =
      let here = subst (λ (at : Journal T). EachNote P at) fault.there (each_before line journal each) in
      fault.broken here.0
