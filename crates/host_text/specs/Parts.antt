-- What an actor hands on: the text of the notes that its journal keeps.
use Rattle.std.specs.Prelude.{◌≡◌, ℕ, ◌<◌, ◌≤◌, ◌++◌, List, Result, Ok, Err, drop, length}
use Rattle.base_words.specs.Journal.{Journal}
use Rattle.note_journal.specs.Journals.{JournalView, passed_all}
use Rattle.text_journal.specs.Texts.{actor_lines, text_of}
use Rattle.host_text.specs.declared.part.PassError.{PassError}
use Rattle.host_text.specs.declared.part.PassError.TheVariants.{Short, Memory}

-- the lines of the notes that the journal of an actor keeps, which are all notes but those that it passed on before
pub record IsPart (actor : ℕ) (journal : JournalView ℕ) (text : List ℕ) : Type 0 where
  pub kept : Journal ℕ
  pub whole : kept ++ journal.passed ≡ journal.notes
  pub lines : text ≡ text_of (actor_lines actor kept)

-- a text is copied to the first bytes, and those behind it stay; or there is room for fewer bytes than it has, and all stay
abbrev pub CopiesAll : List ℕ → List ℕ → Result ℕ PassError → List ℕ → Type 0
CopiesAll text before (Ok count) after = (count ≡ length text) × (count ≤ length before) × (after ≡ text ++ drop count before)
CopiesAll text before (Err (Short count)) after = (count ≡ length text) × (length before < count) × (after ≡ before)
CopiesAll text before (Err Memory) after = ⊥

-- the same of the text of the notes that a journal keeps, unless there is no memory for it
abbrev pub CopiesPart : ℕ → JournalView ℕ → List ℕ → Result ℕ PassError → List ℕ → Type 0
CopiesPart actor journal before (Ok count) after = (text : List ℕ) × IsPart actor journal text × CopiesAll text before (Ok count) after
CopiesPart actor journal before (Err (Short count)) after = (text : List ℕ) × IsPart actor journal text × CopiesAll text before (Err (Short count)) after
CopiesPart actor journal before (Err Memory) after = after ≡ before

-- a journal hands on the text of the notes that it keeps, and then keeps none of them and has as many places free as it may keep; or nothing changes
abbrev pub PassesPart : ℕ → JournalView ℕ → List ℕ → Result ℕ PassError → List ℕ → JournalView ℕ → Type 0
PassesPart actor old before (Ok count) after new = CopiesPart actor old before (Ok count) after × (new ≡ passed_all old)
PassesPart actor old before (Err error) after new = CopiesPart actor old before (Err error) after × (new ≡ old)
