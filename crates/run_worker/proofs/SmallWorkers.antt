-- Small workers of one core, for the cases that are refused.
use Rattle.run_worker.proofs.Names.{Journal, LinkedView, no_ends, None, opened_beside, ShownView, WorkerView, ℕ, [], ◌∷◌}
use Rattle.std.proofs.Common.{false}
use Rattle.base_words.specs.declared.note.Note.TheVariants.{Created}

-- its jobs, answers, clock and gate are numbers, and its sink is the journal that it has
abbrev pub SmallWorker : Type 0
SmallWorker = WorkerView ℕ ℕ ℕ ℕ (Journal ℕ)

-- a journal with one note
abbrev pub one_note : Journal ℕ
one_note = Created 1 900 ∷ []

-- the only core of a house, with this journal, in whose links there is a place for one order
abbrev pub linked_of : Journal ℕ → Journal ℕ → ℕ → LinkedView ℕ ℕ
linked_of notes passed room = record {
  recorded = record (opened_beside 0 1 1 room 1) { journal = record { notes = notes; passed = passed; room = room } };
  ends = no_ends;
}

-- a board on which the numbers of these notes were published last, behind so many publications
abbrev pub board_of : Journal ℕ → ℕ → ShownView ℕ
board_of notes count = record { board = 7 ∷ []; terms = record { cores = 1; burst = 1; places = 256 }; notes = notes; count = count }

-- a worker that isn't at its end, and tries so many rounds
abbrev pub small_worker : LinkedView ℕ ℕ → Journal ℕ → ℕ → SmallWorker
small_worker linked sink tries = record {
  linked = linked;
  ending = false;
  timers = [];
  clock = 0;
  gate = 0;
  last = None;
  taken = 0;
  turns = 0;
  tries = tries;
  idle = 0;
  bells = [];
  sink = sink;
  shown = board_of [] 0;
  since = 0;
}
