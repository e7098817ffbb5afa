-- What the seats know, and what they know after a step.
use Rattle.std.specs.Prelude.{ℕ, true, false, None, List, []}
use Rattle.atomic_table.specs.Table.{Me}
use Rattle.base_words.specs.Journal.{Journal}
use Rattle.note_journal.specs.Journals.{JournalView}
use Rattle.run_watch.specs.Closed.{told_after}
use Rattle.run_watch.specs.Words.{closed_in, first_row}
use Rattle.run_watch.specs.declared.board.Known.{Known}
use Rattle.run_watch.specs.declared.board.Terms.{Terms}

-- a seat: what it knows, and the slots that it holds, of which there are none
abbrev pub Place : Type 0
Place = Me (JournalView ℕ) Known

-- the view of the first seat: no note was published
abbrev pub first_view : Terms → Known
first_view terms = record {
  publishes = true;
  knows = true;
  terms = terms;
  published = record { begun = 0; done = 0; row = first_row terms.places; notes = []; closed = None };
  looked = record { at = 0; read = []; seen = []; count = 0; closed = false };
}

-- the view of a further seat, which doesn't publish
abbrev pub watching : Known → Known
watching view = record view { publishes = false }

-- the publisher's view with what a watcher's knows
abbrev pub beside : Known → Known → Known
beside view other = record view { looked = other.looked }

-- the view of a seat that is no longer used
abbrev pub spent_view : Known
spent_view = record (first_view (record { cores = 0; burst = 0; places = 0 })) { publishes = false; knows = false }

-- with so many publications begun
abbrev pub with_begun : Known → ℕ → Known
with_begun view begun = record view { published = record view.published { begun = begun } }

-- with another row
abbrev pub with_row : Known → List ℕ → Known
with_row view row = record view { published = record view.published { row = row } }

-- with so many publications done, the last of which was of these notes and of the row as it stands
abbrev pub with_done : Known → ℕ → Journal ℕ → Known
with_done view done notes =
    record view { published = record view.published { done = done; notes = notes; closed = told_after view.published.closed done (closed_in view.published.row) } }

-- with a look that begins at so many publications done
abbrev pub with_look : Known → ℕ → Known
with_look view at = record view { looked = record view.looked { at = at; read = [] } }

-- with these words read
abbrev pub with_reads : Known → List ℕ → Known
with_reads view words = record view { looked = record view.looked { read = words } }

-- with these notes seen, in the words that were read
abbrev pub with_seen : Known → Journal ℕ → Known
with_seen view notes = record view { looked = record view.looked { seen = notes; count = view.looked.at; closed = closed_in view.looked.read } }
