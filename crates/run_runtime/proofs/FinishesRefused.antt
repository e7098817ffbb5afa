-- Finishes that are refused: of a core that isn't closed, without a note of the caller, without an outcome, with orders that nobody
-- sent or that are forgotten, with a note that is kept and was never refused, with sinks in another order, and with a caller's sink that wasn't asked.
use Rattle.std.proofs.Common.{◌≡◌, ℕ, ◌<◌, ◌≤◌, [], ◌∷◌, ap, sym, ◌∙◌, inl, inr, subst, arith}
use Rattle.std.specs.Prelude.{true, false, Option, Some, None, Ok, Err, IfSome, length, map, slice_get, slice_index_or, unwrap_or}
use Rattle.std.specs.Option.{IsSome}
use Rattle.base_words.specs.declared.names.JobId.{JobId}
use Rattle.base_words.specs.declared.note.Note.{Note}
use Rattle.base_words.specs.declared.order.Order.{Order}
use Rattle.base_words.specs.Assembly.{Assembly, journal_of, order_of, outcome_of}
use Rattle.base_words.specs.Journal.{Journal}
use Rattle.base_jobs.specs.Meanings.{Meaning}
use Rattle.note_journal.specs.Passing.{IsAsked}
use Rattle.run_runtime.specs.declared.error.FinishError.TheVariants.{NotClosed}
use Rattle.run_runtime.specs.declared.passed.ActorNotes.{ActorNotes}
use Rattle.run_runtime.specs.declared.passed.Passed.{Passed}
use Rattle.run_runtime.specs.Calls.{Finishes, HasFinishedBy}
use Rattle.run_runtime.specs.Outcomes.{AllHaveOutcomes, AreItsOrders, Orders}
use Rattle.actor_caller.specs.State.{RuntimeView, closing_at, submitted_under}
use Rattle.run_runtime.specs.WithSinks.{HasPassed, KeepsRefused}

module _ {J : Type 0} (meaning : Meaning J ℕ) (view : RuntimeView J ℕ) where
  -- a core that was closed is told as open
  closed_refused : (core : ℕ) (same : RuntimeView J ℕ) → closing_at core view ≡ true → Finishes meaning view (Err (NotClosed core same)) → ⊥
  closed_refused core same closed finishes = let not_closed = finishes.0.not_closed in absurd cc

  -- the second core is told as open, and the first one is open, too
  second_refused : (same : RuntimeView J ℕ) → closing_at 0 view ≡ false → Finishes meaning view (Err (NotClosed 1 same)) → ⊥
  second_refused same not_closed finishes = let closed = finishes.0.before 0 (omega arith) in absurd cc

  -- a core is open, and the journals are answered
  open_refused : (core : ℕ) (assembly : Assembly ℕ) → core < view.desk.cores → closing_at core view ≡ false → Finishes meaning view (Ok assembly) → ⊥
  open_refused core assembly there not_closed finishes = let closed = finishes.closed core there in absurd cc

  -- a note of the caller is lost
  lost_note_refused : (may : ℕ → Journal ℕ → Type 0) (assembly : Assembly ℕ) (note : Note ℕ) → view.desk.journal.notes ≡ note ∷ [] → journal_of view.desk.cores assembly ≡ [] →
      HasFinishedBy meaning may view assembly → ⊥
  lost_note_refused may assembly note noted lost finished = let outside = finished.outside in absurd cc

  -- an order was sent, and no outcome of it is told
  no_outcome_refused : (assembly : Assembly ℕ) (orders : Orders J) (name : JobId) (order : Order J) → name.from ≤ view.desk.cores → name.to < view.desk.cores → orders name ≡ Some order →
      outcome_of name assembly ≡ None → AllHaveOutcomes view assembly orders → ⊥
  no_outcome_refused assembly orders name order known there sent none outcomes =
      let told = subst (λ found. IfSome found (λ order. IsSome (outcome_of name assembly))) sent (outcomes name known there) in
      absurd cc

  -- an order of which no journal tells is said to have been sent
  unsent_refused : (assembly : Assembly ℕ) (orders : Orders J) (name : JobId) (order : Order J) → name.from ≤ view.desk.cores → name.to < view.desk.cores → orders name ≡ Some order →
      order_of name assembly ≡ None → AreItsOrders view assembly orders → ⊥
  unsent_refused assembly orders name order known there is none are = let told = are.sent name known there in absurd cc

  -- an order that the caller submitted isn't among those that were sent
  forgotten_refused : (assembly : Assembly ℕ) (orders : Orders J) (name : JobId) (order : Order J) → name.from ≡ view.desk.cores → name.to < view.desk.cores → 0 < name.number →
      submitted_under name view ≡ Some order → orders name ≡ None → AreItsOrders view assembly orders → ⊥
  forgotten_refused assembly orders name order caller there some is none are = let told = are.all_of_caller name caller there some in absurd cc

-- a note is kept, and its sink never refused
kept_refused : {S : Type 0} (has : S → Journal ℕ) (refused : S → ℕ → Type 0) (actor : ActorNotes S) (note : Note ℕ) → actor.kept.notes ≡ note ∷ [] → (refused actor.sink (length (has actor.sink)) → ⊥) →
    KeepsRefused has refused actor → ⊥
kept_refused has refused actor note kept never (inl nothing) = absurd cc
kept_refused has refused actor note kept never (inr did) = never did

module _ {J S : Type 0} (meaning : Meaning J ℕ) (has : S → Journal ℕ) (refused : S → ℕ → Type 0) (asks : S → Option ℕ) (mark : S → ℕ) (view : RuntimeView J ℕ) (passed : Passed S) where
  -- the sinks of the core and of the caller are exchanged
  exchanged_refused : view.marks ≡ 0 ∷ 1 ∷ [] → map (λ actor. mark actor.sink) passed.actors.items ≡ 1 ∷ 0 ∷ [] → HasPassed meaning has refused asks mark view passed → ⊥
  exchanged_refused given back over = omega (arith, ap (λ marks. slice_index_or marks 0 7) (sym back ∙ (over.marks ∙ given)))

  -- the caller's sink wasn't asked at the end
  unasked_refused : (actor : ActorNotes S) → slice_get passed.actors.items view.desk.cores ≡ Some actor → view.asks ≡ Some 3 → asks actor.sink ≡ Some 3 → HasPassed meaning has refused asks mark view passed → ⊥
  unasked_refused actor here was is over =
      let same : actor ≡ over.outside = ap (λ found. unwrap_or found actor) (sym here ∙ over.outside_is) in
      let asked : IsAsked view.asks (asks actor.sink) = subst (λ (actor : ActorNotes S). IsAsked view.asks (asks actor.sink)) (sym same) over.asked in
      let more : IsAsked (Some 3) (Some 3) = subst (λ before. IsAsked before (Some 3)) was (subst (IsAsked view.asks) is asked) in
      omega (arith, ap (λ count. unwrap_or count 0) more)
