-- The queues of a configuration in the journal of their core.
use Rattle.std.specs.Prelude.{◌==◌, ℕ, ◌+◌, if◌then◌else◌, List, [], ◌∷◌}
use Rattle.base_words.specs.declared.note.Note.TheVariants.{Created}
use Rattle.base_words.specs.Journal.{Journal}
use Rattle.base_words.specs.Commands.{created_count}
use Rattle.run_config.specs.Configs.{Entry}

module _ {T : Type 0} where
  -- the notes behind the creation of this queue, if it is one of this core
  abbrev pub behind_entry : ℕ → Entry → Journal T → Journal T
  behind_entry core entry before = if entry.0 == core then Created (created_count before + 1) entry.1 ∷ before else before

  -- the notes behind the creations of these queues, in their order
  abbrev pub behind_entries : ℕ → List Entry → Journal T → Journal T
  behind_entries core [] before = before
  behind_entries core (entry ∷ entries) before = behind_entries core entries (behind_entry core entry before)

  -- the journal of a core that was opened with its queues among these
  abbrev pub creations : ℕ → List Entry → Journal T
  creations core entries = behind_entries core entries []
