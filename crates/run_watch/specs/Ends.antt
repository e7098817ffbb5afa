-- What is true of a publisher and of a watcher at any time.
use Rattle.std.specs.Prelude.{◌≡◌, ℕ, ◌+◌, ◌<◌, true, is_some, List, ◌∷◌, length}
use Rattle.atomic_table.specs.Seated.{TableId}
use Rattle.run_watch.specs.Closed.{closed_by_itself}
use Rattle.run_watch.specs.Tells.{Tells}
use Rattle.run_watch.specs.Views.{Place}
use Rattle.run_watch.specs.Words.{closed_in, place_of}
use Rattle.run_watch.specs.declared.board.Terms.{Terms}

-- a table by numbers; no two tables have the same
abbrev pub name_of : TableId → List ℕ
name_of table = table.words ∷ table.slots ∷ table.views_name ∷ table.atom ∷ table.block ∷ table.offset ∷ table.slot_names

-- A publisher has the publisher's seat at its table, its row is the one of the table, and as many publications are done as it counts. If one of them told that
-- the core closed by itself, the notes tell so.
pub record IsPublisher (seat_table table : TableId) (me : Place) (terms : Terms) (row : List ℕ) (count : ℕ) : Type 0 where
  pub at_table : seat_table ≡ table
  pub words : table.words ≡ 2 + place_of terms.places
  pub publishes : me.0.publishes ≡ true
  pub knows : me.0.knows ≡ true
  pub terms_are : me.0.terms ≡ terms
  pub row_is : me.0.published.row ≡ row
  pub wide : length row ≡ place_of terms.places
  pub begun : me.0.published.begun ≡ count
  pub done : me.0.published.done ≡ count
  pub tells : is_some me.0.published.closed ≡ true → closed_by_itself me.0.published.notes ≡ true

-- a watcher has a seat at its table, and its row tells the numbers of the notes that it has seen, and what the publication that it saw told of the closing
pub record IsWatcher (seat_table table : TableId) (me : Place) (terms : Terms) (row next : List ℕ) (count : ℕ) : Type 0 where
  pub at_table : seat_table ≡ table
  pub words : table.words ≡ 2 + place_of terms.places
  pub knows : me.0.knows ≡ true
  pub terms_are : me.0.terms ≡ terms
  pub wide : length row ≡ place_of terms.places
  pub next_wide : length next ≡ place_of terms.places
  pub tells : Tells terms me.0.looked.seen row
  pub count_is : me.0.looked.count ≡ count
  pub closed_is : me.0.looked.closed ≡ closed_in row

-- a publication is on the way: the publisher's row is the one of the table
pub record IsWriting (seat_table table : TableId) (me : Place) (row : List ℕ) : Type 0 where
  pub at_table : seat_table ≡ table
  pub words : table.words ≡ 2 + length row
  pub publishes : me.0.publishes ≡ true
  pub row_is : me.0.published.row ≡ row
  pub begun : me.0.published.done < me.0.published.begun
