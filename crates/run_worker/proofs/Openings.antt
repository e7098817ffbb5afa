-- A journal that was just opened is its opening.
use Rattle.run_worker.proofs.Names.{behind_entries, behind_entry, created_count, creations, Entry, if◌then◌else◌, is_opening, Journal, List, opening_all, opening_of, refl, ℕ, [], ◌+◌, ◌∷◌, ◌≡◌}
use Rattle.std.proofs.Common.{◌==◌, Bool, true, false}
use Rattle.base_words.specs.declared.note.Note.TheVariants as writes

module _ {T : Type 0} where
  creation_behind : (core : ℕ) (entry : Entry) (before : Journal T) → is_opening before ≡ true → is_opening (behind_entry core entry before) ≡ true
  creation_behind core entry before is = by_test (entry.0 == core)
    where
      by_test : (test : Bool) → is_opening (if test then writes.Created (created_count before + 1) entry.1 ∷ before else before) ≡ true
      by_test true = is
      by_test false = is

  pub creations_behind : (core : ℕ) (entries : List Entry) (before : Journal T) → is_opening before ≡ true → is_opening (behind_entries core entries before) ≡ true
  creations_behind core [] before is = is
  creations_behind core (entry ∷ entries) before is = creations_behind core entries (behind_entry core entry before) (creation_behind core entry before is)

  -- the journal of a core that was just opened is its opening
  pub opening_creations : (core : ℕ) (entries : List Entry) → opening_of {T = T} (creations core entries) ≡ creations core entries
  opening_creations core entries = opening_all (creations core entries) (creations_behind core entries [] refl)
