-- What the outside actor passes on.
use Rattle.std.specs.Prelude.{◌≡◌, true, false, Result, Ok, Err}
use Rattle.note_journal.specs.Journals.{passed_all}
use Rattle.note_journal.specs.Passing.{IsAsked}
use Rattle.note_journal.specs.declared.sink.Refused.{Refused}
use Rattle.actor_caller.specs.State.{RuntimeView}

module _ {J T : Type 0} where
  -- all notes of the outside actor were passed on
  abbrev pub passed_on : RuntimeView J T → RuntimeView J T
  passed_on view = record view { desk = record view.desk { journal = passed_all view.desk.journal }; refused = false }

  -- its sink refused, and nothing else changed
  abbrev pub refused_of : RuntimeView J T → RuntimeView J T
  refused_of view = record view { refused = true }

  -- its sink was asked once, and otherwise the runtime is like this one
  abbrev pub AsksOnce : RuntimeView J T → RuntimeView J T → RuntimeView J T → Type 0
  AsksOnce old like new = IsAsked old.asks new.asks × (new ≡ record like { asks = new.asks })

  -- the sink is asked once: it takes all notes that are kept, or refuses
  abbrev pub PassesHere : RuntimeView J T → Result (Unit {0}) Refused → RuntimeView J T → Type 0
  PassesHere old (Ok done) new = AsksOnce old (passed_on old) new
  PassesHere old (Err why) new = AsksOnce old (refused_of old) new
