-- What of a core its worker publishes, so that others may watch it while it runs.
use Rattle.std.specs.Prelude.{◌≡◌, ◌⊎◌, ℕ, ◌+◌, ◌-◌, ◌^◌, ◌≤◌, Bool, true, List, length}
use Rattle.base_words.specs.Journal.{Journal}
use Rattle.actor_core.specs.Recorded.{RecordedView}
use Rattle.actor_seat.specs.Linked.{Grows}
use Rattle.run_watch.specs.Closed.{closed_by_itself}
use Rattle.run_watch.specs.declared.board.Terms.{Terms}
use Rattle.run_watch.specs.declared.publisher.Publishing.{Publishing}

-- A board in its worker's hands: which board it is and of what, the notes whose numbers were published last, and how many publications were made.
pub record ShownView (T : Type 0) : Type 0 where
  pub board : List ℕ
  pub terms : Terms
  pub notes : Journal T
  pub count : ℕ

-- the same of a publisher
abbrev pub shown_of : Publishing → ShownView ℕ
shown_of publisher = record { board = publisher.board; terms = publisher.terms; notes = publisher.notes; count = publisher.count }

-- a board has a place for each queue that a core may have
abbrev pub most_places : ℕ
most_places = 256

-- the numbers are published behind so many rounds in which something was done
abbrev pub shown_each : ℕ
shown_each = 1024

-- who says so tells that the core of this journal closed by itself
abbrev pub TellsAlone : Bool → Journal ℕ → Type 0
TellsAlone alone notes = alone ≡ true → closed_by_itself notes ≡ true

-- what the board of a core is of
abbrev pub board_terms : {J T : Type 0} → RecordedView J T → Terms
board_terms view = record { cores = view.core.cores; burst = view.core.bursts.burst; places = most_places }

module _ {T : Type 0} where
  -- as many publications were made as may be, or there are so many notes that a core may have counted no further
  abbrev pub CantShow : Journal T → ShownView T → Type 0
  CantShow notes shown = (2 ^ 64 - 1 ≤ shown.count) ⊎ (2 ^ 64 - 1 ≤ length notes)

  -- the numbers of all these notes are published, unless they can't be
  abbrev pub Shows : Journal T → ShownView T → ShownView T → Type 0
  Shows notes old new = (new ≡ record old { notes = notes; count = old.count + 1 }) ⊎ (CantShow notes old × (new ≡ old))

module _ {J T : Type 0} where
  -- the board is one of this core, and what was published last are the numbers of a beginning of its journal
  pub record IsShown (view : RecordedView J T) (shown : ShownView T) : Type 0 where
    pub terms_are : shown.terms ≡ board_terms view
    pub grows : Grows shown.notes view.journal.notes

  -- the same, and it is the whole journal, unless that can't be published
  pub record IsShownWhole (view : RecordedView J T) (shown : ShownView T) : Type 0 where
    pub is_shown : IsShown view shown
    pub whole : (shown.notes ≡ view.journal.notes) ⊎ CantShow view.journal.notes shown
