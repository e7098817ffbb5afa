-- The rule of the table, which holds between any two steps of its seats.
use Rattle.std.specs.Prelude.{◌≡◌, ℕ, ◌<◌, ◌≤◌, true, Some, is_some, List, ◌∷◌, length, take}
use mathlib.Core.Option.{some}
use lib.ListN.{get_elem?}
use Rattle.atomic_table.specs.Table.{State}
use Rattle.note_journal.specs.Journals.{JournalView}
use Rattle.run_watch.specs.Closed.{told_by}
use Rattle.run_watch.specs.Growth.{Grows}
use Rattle.run_watch.specs.Tells.{Tells}
use Rattle.run_watch.specs.Words.{closed_in, place_of}
use Rattle.run_watch.specs.declared.board.Known.{Known}
use Rattle.run_watch.specs.declared.board.Published.{Published}
use Rattle.run_watch.specs.declared.board.Terms.{Terms}

-- What a seat knows is true. The publisher knows all. As long as no publication is begun behind those that a look found done, the words
-- that it read are the first of the row. The notes that a seat has seen stay. It was told that the core closed by itself exactly if the publication that
-- it saw is the first one that told so or a later one.
pub record IsTold (terms : Terms) (whole : Published) (publisher seat : ℕ) (view : Known) : Type 0 where
  pub terms_are : view.knows ≡ true → view.terms ≡ terms
  pub publishes : view.publishes ≡ true → (seat ≡ publisher) × (view.published ≡ whole)
  pub at_done : view.looked.at ≤ whole.done
  pub reads : view.looked.at ≡ whole.begun → view.looked.read ≡ take (length view.looked.read) whole.row
  pub saw : Grows view.looked.seen whole.notes
  pub counted : view.looked.count ≤ whole.done
  pub closed : view.looked.closed ≡ told_by whole.closed view.looked.count

abbrev pub AreTold : Terms → Published → ℕ → List Known → Type 0
AreTold terms whole publisher views = (seat : ℕ) (view : Known) → get_elem? views seat ≡ some view → IsTold terms whole publisher seat view

-- The words are the two counts and the row. If all that were begun are done, the row tells the numbers of the notes that were published last.
-- It tells that the core closed by itself exactly if a publication has told so. One seat is the publisher's, and each seat knows what is true.
pub record IsBoard (terms : Terms) (state : State (JournalView ℕ) Known) : Type 0 where
  pub whole : Published
  pub publisher : ℕ
  pub words : state.words ≡ whole.begun ∷ whole.done ∷ whole.row
  pub wide : length whole.row ≡ place_of terms.places
  pub behind : whole.done ≤ whole.begun
  pub tells : whole.begun ≡ whole.done → Tells terms whole.notes whole.row
  pub closed : whole.begun ≡ whole.done → closed_in whole.row ≡ is_some whole.closed
  pub closed_at : (first : ℕ) → whole.closed ≡ Some first → (0 < first) × (first ≤ whole.done)
  pub views : AreTold terms whole publisher state.views
