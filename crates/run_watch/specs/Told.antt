-- What each step tells the seat that makes it: of the seat before, the word found, and the seat after.
use Rattle.std.specs.Prelude.{◌≡◌, ◌≢◌, ℕ, ◌≤◌, true, List, [], ◌∷◌, ◌++◌, length, slice_set, take}
use mathlib.Core.Option.{Option, some}
use Rattle.base_words.specs.Journal.{Journal}
use Rattle.note_journal.specs.Journals.{JournalView}
use Rattle.run_watch.specs.Closed.{told_by}
use Rattle.run_watch.specs.Growth.{Grows}
use Rattle.run_watch.specs.Tells.{Tells}
use Rattle.run_watch.specs.Views.{Place, with_begun, with_row, with_done, with_look, with_reads, with_seen}
use Rattle.run_watch.specs.Words.{closed_in, place_of}
use Rattle.run_watch.specs.declared.board.Known.{Known}

-- begin: so many publications are begun
abbrev pub Begins : ℕ → Place → ℕ → Place → Type 0
Begins count old found new = new ≡ (with_begun old.0 count, old.1)

-- put: the word of the row at this place is this one
abbrev pub Puts : ℕ → ℕ → Place → ℕ → Place → Type 0
Puts place word old found new = new ≡ (with_row old.0 (slice_set old.0.published.row place word), old.1)

-- end: so many publications are done, the last of which was of the notes of this journal
abbrev pub Ends : ℕ → Option (JournalView ℕ) → Place → ℕ → Place → Type 0
Ends count said old found new = (journal : JournalView ℕ) → said ≡ some journal → new ≡ (with_done old.0 count journal.notes, old.1)

-- look: so many publications are done, and no word of the row was read yet
abbrev pub Looks : Place → ℕ → Place → Type 0
Looks old found new = new ≡ (with_look old.0 found, old.1)

-- read: one more word was read
abbrev pub Reads : Place → ℕ → Place → Type 0
Reads old found new = new ≡ (with_reads old.0 (old.0.looked.read ++ found ∷ []), old.1)

-- The words that were read are the first of a row that tells the numbers of some notes, which begin with those that were seen. The publication is the one seen
-- before or a later one, and what was told of the closing stays told.
pub record Finds (old new : Place) : Type 0 where
  pub notes : Journal ℕ
  pub row : List ℕ
  pub seen : new ≡ (with_seen old.0 notes, old.1)
  pub grows : Grows old.0.looked.seen notes
  pub reads : old.0.looked.read ≡ take (length old.0.looked.read) row
  pub wide : length row ≡ place_of old.0.terms.places
  pub tells : Tells old.0.terms notes row
  pub later : old.0.looked.count ≤ old.0.looked.at
  pub told : old.0.looked.closed ≡ true → new.0.looked.closed ≡ true

-- check: if no more publications were begun than were done when the look began, then the look found one publication
pub record Checks (old : Place) (found : ℕ) (new : Place) : Type 0 where
  pub same : found ≡ old.0.looked.at → Finds old new
  pub other : found ≢ old.0.looked.at → new ≡ old

-- what the seat knew of the publication that it saw, behind a look that found this row: the publication of this number
pub record Found (row : List ℕ) (count : ℕ) (old new : Known) : Type 0 where
  pub grows : Grows old.looked.seen new.looked.seen
  pub tells : Tells old.terms new.looked.seen row
  pub count_is : new.looked.count ≡ count
  pub later : old.looked.count ≤ count
  pub closed_is : new.looked.closed ≡ closed_in row
  pub told : old.looked.closed ≡ true → new.looked.closed ≡ true

-- the same behind a look that found nothing
pub record FoundNone (old new : Known) : Type 0 where
  pub seen : new.looked.seen ≡ old.looked.seen
  pub count : new.looked.count ≡ old.looked.count
  pub closed : new.looked.closed ≡ old.looked.closed

-- compare: the notes that were published last begin with those that were seen, and what was told of the closing is what the publication seen told
pub record Compares (old : Place) (found : ℕ) (new : Place) : Type 0 where
  pub same : new ≡ old
  pub grows : Grows old.0.looked.seen old.0.published.notes
  pub counted : old.0.looked.count ≤ old.0.published.done
  pub closed : old.0.looked.closed ≡ told_by old.0.published.closed old.0.looked.count
