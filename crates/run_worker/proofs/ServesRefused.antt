-- Rounds and rests of a small worker that are refused: notes that are kept or handed on too early, and a sink that isn't asked again.
use Rattle.run_worker.proofs.Names.{ap, AreApart, arith, CountsIdle, Err, false, GoesOn, HandsOnWhere, inl, inr, IsAsked, IsDue, JobId, Journal, JournalView, Meaning, Ok, PassesOn, refl, Refused, Rests, Result, served_of, sym, true, unwrap_or, ℕ, [], ◌∙◌, ◌∷◌, ◌≡◌}
use Rattle.std.proofs.Common.{Bool, Option, Some, None}
use Rattle.note_journal.specs.declared.sink.Sink as taking
use Rattle.run_worker.proofs.SmallWorkers.{SmallWorker, linked_of, one_note, small_worker}

-- the sink has what it was handed, and never refuses
abbrev pub has : Journal ℕ → Journal ℕ
has sink = sink

abbrev pub never : Journal ℕ → ℕ → Type 0
never sink count = ⊥

-- it doesn't count how often it is asked
abbrev pub silent : Journal ℕ → Option ℕ
silent sink = None

-- a sink that refuses everything
abbrev pub always : Journal ℕ → ℕ → Type 0
always sink count = Unit {0}

-- it was asked twice, and not since
abbrev pub twice : Journal ℕ → Option ℕ
twice sink = Some 2

-- what a sink refuses, and how often it says that it was asked
abbrev pub taker : (Journal ℕ → ℕ → Type 0) → (Journal ℕ → Option ℕ) → taking.Ghosts (Journal ℕ)
taker refused asks = record { has = has; refused = refused; asks = asks; mark = λ sink. 0 }

pub unasked : (before after : Journal ℕ) → IsAsked (twice before) (twice after) → ⊥
unasked before after asked = let more : 2 ≡ 3 = ap (λ (count : Option ℕ). unwrap_or count 0) asked in omega (arith, more)

-- a worker with one note that isn't passed on, in a journal of so much room
abbrev keeping : ℕ → SmallWorker
keeping room = small_worker (linked_of one_note [] room) [] 4

-- the same, whose note was passed on
abbrev handed : ℕ → SmallWorker
handed room = small_worker (linked_of one_note one_note room) one_note 4

-- a sink that has no note took none
takes_none : (old new : JournalView ℕ) (answer : Result (Unit {0}) Refused) → old.notes ≡ one_note → PassesOn has never old [] answer new [] → ⊥
takes_none old new (Ok done) kept passes = let none : [] ≡ one_note = passes.1 ∙ (ap (λ (journal : JournalView ℕ). journal.notes) passes.0 ∙ kept) in cc
takes_none old new (Err why) kept passes = passes.2

-- where it is due, what is kept isn't left
is_handed : {due : Type 0} (room : ℕ) (ready : SmallWorker) → due → ready.sink ≡ [] → HandsOnWhere (taker never silent) due (keeping room) ready → ⊥
is_handed room ready due none (inl (_, did, _)) = takes_none (keeping room).linked.recorded.journal ready.linked.recorded.journal did.answer refl (rw none at did.passes)
is_handed room ready due none (inr (idle, _)) = idle due

-- where it is due, a sink that refused before is asked again
is_asked : {due : Type 0} (old ready : SmallWorker) → due → HandsOnWhere (taker always twice) due old ready → ⊥
is_asked old ready due (inl (_, did, _)) = unasked old.sink ready.sink did.asked
is_asked old ready due (inr (idle, _)) = idle due

module _ (meaning : Meaning ℕ ℕ) (sleeps : ℕ → Option ℕ) (reads : ℕ → ℕ → ℕ → Type 0) (asked : ℕ → ℕ → JobId → ℕ → Type 0) where
  abbrev Goes : SmallWorker → Bool → SmallWorker → Type 0
  Goes = GoesOn meaning sleeps reads asked (taker never silent)

  abbrev Sleeps : SmallWorker → Bool → SmallWorker → Type 0
  Sleeps = Rests meaning sleeps reads asked (taker never silent)

  -- 63 notes are free where two rounds may write 64, and the note is kept before the round
  keeps_before_a_round : (again : Bool) → Goes (keeping 64) again (keeping 64) → ⊥
  keeps_before_a_round again did = is_handed 64 did.ready (refl, inl (omega arith)) (sym did.keeps.sink) did.hands

  -- 999 notes are free, and the note is handed on
  hands_on_too_early : (again : Bool) → Goes (keeping 1000) again (handed 1001) → ⊥
  hands_on_too_early again did = is_early did.ready did.keeps.sink did.hands
    where
      is_early : (ready : SmallWorker) → one_note ≡ ready.sink → HandsOnWhere (taker never silent) (IsDue (served_of (keeping 1000))) (keeping 1000) ready → ⊥
      is_early ready same (inl ((_, inl few), _, _)) = omega (arith, few)
      is_early ready same (inl ((_, inr half), _, _)) = omega (arith, half)
      is_early ready same (inr (_, still)) = let none : one_note ≡ [] = same ∙ ap (λ (worker : SmallWorker). worker.sink) still in cc

  -- it rests, and the note is kept
  keeps_before_a_rest : (found : Bool) → Sleeps (keeping 1000) found (keeping 1000) → ⊥
  keeps_before_a_rest found did = is_handed 1000 did.ready (refl, omega arith) (sym did.keeps.sink) did.hands

  -- its sink refused the note, and isn't asked again before the round
  asks_no_more_before_a_round : (again : Bool) → GoesOn meaning sleeps reads asked (taker always twice) (keeping 64) again (keeping 64) → ⊥
  asks_no_more_before_a_round again did = is_asked (keeping 64) did.ready (refl, inl (omega arith)) did.hands

  -- nor before the rest
  asks_no_more_before_a_rest : (found : Bool) → Rests meaning sleeps reads asked (taker always twice) (keeping 1000) found (keeping 1000) → ⊥
  asks_no_more_before_a_rest found did = is_asked (keeping 1000) did.ready (refl, omega arith) did.hands

-- a worker that tries two rounds more goes on behind the first idle round
goes_on : CountsIdle 2 false 0 true 1
goes_on = (omega arith, refl)

-- it parks behind the first
parks_too_early : CountsIdle 2 false 0 false 0 → ⊥
parks_too_early counts = omega (arith, counts.0)

-- it goes on behind as many as it tries
goes_on_too_long : CountsIdle 2 false 2 true 3 → ⊥
goes_on_too_long counts = omega (arith, counts.0)

-- it doesn't count an idle round
is_not_counted : CountsIdle 2 false 0 true 0 → ⊥
is_not_counted counts = omega (arith, counts.1)

-- it counts on behind a round in which something was done
counts_on : CountsIdle 2 true 1 true 2 → ⊥
counts_on counts = omega (arith, counts.1)

-- two actors have one bell
one_bell_for_two : AreApart (7 ∷ 7 ∷ []) → ⊥
one_bell_for_two apart = let same = apart 0 1 (omega arith) (omega arith) refl in omega (arith, same)
