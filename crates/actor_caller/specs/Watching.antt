-- What a caller sees of the cores while they run.
use Rattle.std.specs.Prelude.{◌≡◌, ◌==◌, ℕ, ◌<◌, ◌≤◌, if◌then◌else◌, Bool, true, false, Option, Some, None, List, [], length, map, slice_index_or, slice_set}
use Rattle.base_words.specs.Assembly.{Assembly, journal_of}
use Rattle.run_watch.specs.Closed.{closed_by_itself}
use Rattle.run_watch.specs.Growth.{Grows}
use Rattle.run_watch.specs.declared.watcher.Watching.{Watching}
use Rattle.actor_caller.specs.State.{RuntimeView}
use Rattle.actor_caller.specs.Teams.{TeamView}

-- what is seen of a core that isn't there
abbrev pub no_watch : Watching
no_watch = record { board = []; terms = record { cores = 0; burst = 0; places = 0 }; notes = []; count = 0; closed = false }

-- what was seen of each core stands at its place
abbrev pub watch_at : ℕ → List Watching → Watching
watch_at core watched = slice_index_or watched core no_watch

-- Each watcher is of the board on which the worker of its place publishes. Each worker has a board, and a mark of its sink.
pub record AreWatched {J T : Type 0} (team : TeamView J T) (watchers : List Watching) : Type 0 where
  pub boards_are : map (λ watcher. watcher.board) watchers ≡ team.boards
  pub boards : length team.boards ≡ length team.workers
  pub marks : length team.marks ≡ length team.workers

-- nothing was seen yet: no publication, and the numbers of no note
pub record IsUnseen (watcher : Watching) : Type 0 where
  pub none : watcher.notes ≡ []
  pub count : watcher.count ≡ 0
  pub closed : watcher.closed ≡ false

-- The caller looked at a core, and at nothing else. It sees the numbers of as many notes as before, or of more: the publication that it saw before, or a later
-- one. That the core closed by itself stays told. If the caller found nothing it sees what it saw.
pub record Watches {J T : Type 0} (core : ℕ) (old : RuntimeView J T) (found : Bool) (new : RuntimeView J T) : Type 0 where
  pub board : (watch_at core new.watched).board ≡ (watch_at core old.watched).board
  pub terms_are : (watch_at core new.watched).terms ≡ (watch_at core old.watched).terms
  pub grows : Grows (watch_at core old.watched).notes (watch_at core new.watched).notes
  pub counted : (watch_at core old.watched).count ≤ (watch_at core new.watched).count
  pub told : (watch_at core old.watched).closed ≡ true → (watch_at core new.watched).closed ≡ true
  pub none : found ≡ false → (watch_at core new.watched).notes ≡ (watch_at core old.watched).notes
  pub kept : found ≡ false → ((watch_at core new.watched).count ≡ (watch_at core old.watched).count) × ((watch_at core new.watched).closed ≡ (watch_at core old.watched).closed)
  pub rest : new ≡ record old { watched = slice_set old.watched core (watch_at core new.watched) }

-- the journal of each core begins with the notes whose numbers the caller saw last
abbrev pub SawBeginnings : {J : Type 0} → RuntimeView J ℕ → Assembly ℕ → Type 0
SawBeginnings view assembly = (core : ℕ) → core < view.desk.cores → Grows (watch_at core view.watched).notes (journal_of core assembly)

-- whether the core closed by itself, as the publication tells that was seen last; nothing if none was seen
abbrev pub closing_told : Watching → Option Bool
closing_told watch = if watch.count == 0 then None else Some watch.closed

-- if it is told that the core closed by itself, the notes whose numbers were seen tell so
abbrev pub IsToldRightly : Watching → Option Bool → Type 0
IsToldRightly watch told = told ≡ Some true → closed_by_itself watch.notes ≡ true
