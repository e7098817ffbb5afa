-- If no sink refused, then no core closed by itself, and the sinks have all notes.
use Rattle.std.proofs.Common.{◌≡◌, ℕ, List, [], subst, get_or, ⊎_elim}
use Rattle.std.specs.Prelude.{All, Option, Some, slice_get}
use Rattle.std.proofs.lemmas.Option.{get_or_from_slice_get, slice_get_within}
use Rattle.base_words.specs.Assembly.{journal_of}
use Rattle.base_words.specs.Journal.{Journal}
use Rattle.base_jobs.specs.Meanings.{Meaning}
use Rattle.run_worker.specs.Rooms.{ActsByCommand}
use Rattle.run_runtime.specs.declared.passed.ActorNotes.{ActorNotes}
use Rattle.run_runtime.specs.SinkLaws.{NeverRefused, NeverRefusedNeverShort}
use Rattle.actor_caller.specs.State.{RuntimeView}
use Rattle.run_runtime.specs.WithSinks.{MayActBeside, assembly_of}

-- what holds of all holds of what stands at a place
pub at_found : {A : Type 0} (P : A → Type 0) (xs : List A) (place : ℕ) (x : A) → All P xs → slice_get xs place ≡ Some x → P x
at_found P xs place x each at = subst P (get_or_from_slice_get xs place x x at) (each place x (slice_get_within xs place x at))

module _ {J S : Type 0} (refused : S → ℕ → Type 0) (view : RuntimeView J ℕ) (actor : ActorNotes S) (never : NeverRefused refused actor) where
  never_short : (notes : Journal ℕ) → MayActBeside refused view actor.sink notes → ActsByCommand notes
  never_short notes may = ⊎_elim (λ (acts : ActsByCommand notes). acts) (λ short. absurd (never short.0 short.1)) may

pub never_refused : {J S : Type 0} (meaning : Meaning J ℕ) (has : S → Journal ℕ) (refused : S → ℕ → Type 0) (asks : S → Option ℕ) (mark : S → ℕ) → NeverRefusedNeverShort meaning has refused asks mark
never_refused meaning has refused asks mark view passed finishes never = (
  λ core low.
      let acts = finishes.finished.acts core low in
      never_short refused view acts.0 (at_found (NeverRefused refused) passed.actors.items core acts.0 never acts.1) (journal_of core (assembly_of has passed)) acts.2,
  λ place d low. ⊎_elim
      (λ (none : (get_or passed.actors.items place d).kept.notes ≡ []). none)
      (λ told. absurd (never place d low _ told))
      (finishes.rest place d low),
)
