-- What a seat knows after a step.
use Rattle.std.specs.Prelude.{ℕ, Bool, true, List, [], ◌∷◌, ◌++◌, Option}
use Rattle.base_words.specs.declared.order.Order.{Order}
use Rattle.base_words.specs.declared.order.Outcome.{Outcome}
use Rattle.link_board.specs.declared.board.Known.{Known}

module _ {J T : Type 0} where
  -- the view with one more order sent
  abbrev pub with_sent : Known J T → Order J → Known J T
  with_sent view order = record view { out = record view.out { sent = view.out.sent ++ order ∷ [] } }

  -- the view with the gate found shut
  abbrev pub with_closed : Known J T → Known J T
  with_closed view = record view { out = record view.out { closed = true } }

  -- the view with so many outcomes seen and got
  abbrev pub with_got : Known J T → List (ℕ × Outcome J T) → ℕ → Known J T
  with_got view seen got = record view { out = record view.out { seen = seen; got = got } }

  -- the view with so many orders seen and taken
  abbrev pub with_taken : Known J T → List (Order J) → ℕ → Known J T
  with_taken view seen taken = record view { inward = record view.inward { seen = seen; taken = taken } }

  -- the view with these orders seen, and the gate shut
  abbrev pub with_shut : Known J T → List (Order J) → Known J T
  with_shut view seen = record view { inward = record view.inward { seen = seen; shut = true } }

  -- the view with one more outcome given
  abbrev pub with_given : Known J T → ℕ → Outcome J T → Known J T
  with_given view number outcome = record view { inward = record view.inward { given = view.inward.given ++ (number, outcome) ∷ [] } }

  -- the view with this cell out, or none
  abbrev pub with_away : Known J T → Option ℕ → Known J T
  with_away view place = record view { away = place }

  -- the view with these orders seen, and the gate as it is found
  abbrev pub with_watched : Known J T → List (Order J) → Bool → Known J T
  with_watched view seen shut = record view { inward = record view.inward { seen = seen; shut = shut } }
