-- The journals of a runtime that passed nothing on are whole.
use Rattle.std.proofs.Common.{◌≡◌, ℕ, ◌+◌, List, [], ◌∷◌, ◌++◌, map, sym, ◌∙◌, ap, subst, arith, ⊎_elim, inl}
use Rattle.std.proofs.lemmas.List.{append-nil}
use Rattle.std.specs.Prelude.{IsSome, Option}
use Rattle.base_words.specs.declared.note.Note.{Note}
use Rattle.base_words.specs.declared.note.Note.TheVariants.{CoreClosed, Sent, Redeemed, Detached}
use Rattle.base_words.specs.Assembly.{Assembly}
use Rattle.base_words.specs.Commands.{effect_awaited}
use Rattle.base_words.specs.Journal.{EachNote, Journal}
use Rattle.base_jobs.specs.Meanings.{Meaning}
use Rattle.note_journal.specs.Journals.{JournalView}
use Rattle.run_team.specs.Works.{Together}
use Rattle.run_worker.specs.Rooms.{ActsByCommand, MayAct, least_free}
use Rattle.run_runtime.specs.declared.passed.ActorNotes.{ActorNotes}
use Rattle.run_runtime.specs.declared.passed.Passed.{Passed}
use Rattle.run_runtime.specs.Calls.{HasFinished, HasFinishedBy, MayActWhole}
use Rattle.actor_caller.specs.State.{RuntimeView}
use Rattle.run_runtime.specs.WithSinks.{HasPassed, MayActAmong, assembly_of, notes_of}
use Rattle.run_runtime.proofs.Dealt.{same_maps}

-- nothing is below 0, so a core that closed only by command closed as it may
may_more : {T : Type 0} (least room : ℕ) (note : Note T) (before : Journal T) → MayAct 0 0 note before → MayAct least room note before
may_more least room (CoreClosed mode) before may = ⊎_elim (λ (told : IsSome (effect_awaited before)). let is : MayAct least room (CoreClosed mode) before = inl told in is) (λ short. absurd (omega (arith, short.1))) may
may_more least room (Sent name order) before may = may
may_more least room (Redeemed name outcome) before may = may
may_more least room (Detached name) before may = may
may_more least room _ before may = tt

acts_more : {T : Type 0} (least room : ℕ) (notes : Journal T) → ActsByCommand notes → EachNote (MayAct least room) notes
acts_more least room [] acts = tt
acts_more least room (note ∷ before) acts = (may_more least room note before acts.0, acts_more least room before acts.1)

-- the same finish, of which more may have been done
finished_more : {J : Type 0} (meaning : Meaning J ℕ) (may more : ℕ → Journal ℕ → Type 0) (view : RuntimeView J ℕ) (assembly : Assembly ℕ) → ((core : ℕ) (notes : Journal ℕ) → may core notes → more core notes) →
    HasFinishedBy meaning may view assembly → HasFinishedBy meaning more view assembly
finished_more meaning may more view assembly follows was = record {
  closed = was.closed;
  cores = was.cores;
  cap = was.cap;
  burst = was.burst;
  joined = was.joined;
  sound = was.sound;
  spelled = was.spelled;
  outside = was.outside;
  drained = was.drained;
  acts = λ core low. follows core _ (was.acts core low);
  openings = was.openings;
  orders = was.orders;
  orders_are = was.orders_are;
  outcomes = was.outcomes;
  fitting = was.fitting;
  polls = was.polls;
  watched = was.watched;
}

module _ {S : Type 0} (has : S → Journal ℕ) (none : (sink : S) → has sink ≡ []) where
  -- a sink that has nothing leaves the journal whole
  pub whole_notes : (actor : ActorNotes S) → notes_of has actor ≡ actor.kept.notes
  whole_notes actor = ap (λ had. actor.kept.notes ++ had) (none actor.sink) ∙ append-nil actor.kept.notes

  -- so the journals are those of all notes
  pub whole_journals : (actors : List (ActorNotes S)) (journals : List (JournalView ℕ)) → Together (λ actor journal. journal.notes ≡ actor.kept.notes) actors journals → map (λ journal. journal.notes) journals ≡ map (notes_of has) actors
  whole_journals actors journals both =
      same_maps (notes_of has) (λ (journal : JournalView ℕ). journal.notes) (λ actor journal. journal.notes ≡ actor.kept.notes) (λ actor journal same. same ∙ sym (whole_notes actor)) actors journals both

module _ {J S : Type 0} (meaning : Meaning J ℕ) (has : S → Journal ℕ) (refused : S → ℕ → Type 0) (only : (sink : S) (count : ℕ) → refused sink count → count ≡ 0) (view : RuntimeView J ℕ) (passed : Passed S) where
  may_whole : (core : ℕ) (notes : Journal ℕ) → MayActAmong refused view passed.actors.items core notes → MayActWhole view core notes
  may_whole core notes may =
      ⊎_elim
      (λ (never : ActsByCommand notes). acts_more (least_free view.desk.cores view.desk.cap view.desk.burst) view.room notes never)
      (λ short.
      let none : short.0 + view.room ≡ view.room = omega (arith, only may.0.sink short.0 short.1) in
      subst (λ room. EachNote (MayAct (least_free view.desk.cores view.desk.cap view.desk.burst) room) notes) none short.2)
      may.2

  -- where a sink refuses only at its beginning, a finish is one of whole journals
  pub finished_whole : {asks : S → Option ℕ} {mark : S → ℕ} (assembly : Assembly ℕ) → assembly ≡ assembly_of has passed → HasPassed meaning has refused asks mark view passed → HasFinished meaning view assembly
  finished_whole assembly is has_passed =
      subst (HasFinished meaning view) (sym is) (finished_more meaning (MayActAmong refused view passed.actors.items) (MayActWhole view) view (assembly_of has passed) may_whole has_passed.finished)
