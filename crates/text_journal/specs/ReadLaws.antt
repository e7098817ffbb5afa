-- What is read is a text of journals, and what is written of journals is read as the same.
use Rattle.std.specs.Prelude.{◌≡◌, ℕ, ◌≤◌, List, Ok, length}
use Rattle.base_words.specs.Assembly.{Assembly, journal_of}
use Rattle.base_words.specs.Journal.{EachNote}
use Rattle.base_words.specs.Limits.{most_notes}
use Rattle.base_words.specs.Spelled.{IsSpelled}
use Rattle.text_journal.specs.Laws.{HoldsTimes}
use Rattle.text_journal.specs.Texts.{head_text, journal_text}
use Rattle.text_journal.specs.Drafts.{Drafted, assembly_of}
use Rattle.text_journal.specs.JournalTexts.{journals_of}

-- a text that tells journals is the text of these journals, and they are spelled; so two texts never tell the same
abbrev pub OnlyTextsAreRead : Type 0
OnlyTextsAreRead = (text : List ℕ) (draft : Drafted) → journals_of text ≡ Ok draft → IsSpelled (assembly_of draft) × (text ≡ journal_text (assembly_of draft))

-- the first two lines tell how many cores there are, how much each link may hold and how many polls a turn may have; so journals that differ in one of these, and be it the last alone, differ in these lines
abbrev pub FirstLinesTell : Type 0
FirstLinesTell = (one other : Assembly ℕ) → IsSpelled one → IsSpelled other → head_text one ≡ head_text other → (one.cores ≡ other.cores) × (one.cap ≡ other.cap) × (one.burst ≡ other.burst)

-- no actor has more notes than a text may tell of it, and times and answers are what their types hold
pub record IsTellable (assembly : Assembly ℕ) : Type 0 where
  pub few : (actor : ℕ) → actor ≤ assembly.cores → length (journal_of actor assembly) ≤ most_notes
  pub times : (actor : ℕ) → actor ≤ assembly.cores → EachNote (λ note before. HoldsTimes note) (journal_of actor assembly)

-- the text of journals tells these journals
abbrev pub TextIsReadBack : Type 0
TextIsReadBack = (assembly : Assembly ℕ) → IsSpelled assembly → IsTellable assembly → (draft : Drafted) × (journals_of (journal_text assembly) ≡ Ok draft) × (assembly_of draft ≡ assembly)
