-- What the actors of a runtime leave: what their sinks have, and what is kept behind it.
use Rattle.std.proofs.Common.{◌≡◌, ℕ, zero, suc, ◌+◌, ◌<◌, List, [], ◌∷◌, ◌++◌, length, map, get_or, refl, sym, ◌∙◌, ap, subst, arith, ⊎_elim, inl, inr, length-append, Result, Ok, Err}
use Rattle.std.specs.Prelude.{All, Option, Some, slice_get, true}
use Rattle.std.proofs.lemmas.List.{length-map, map-append, map-id}
use Rattle.std.proofs.lemmas.List.Elements.{All-append, All-cons, All-nil}
use Rattle.base_words.specs.Journal.{EachNote, Journal}
use Rattle.base_words.specs.Joining.{JoinedAreSpelled, JoiningIsSound}
use Rattle.base_jobs.specs.Meanings.{Meaning}
use Rattle.link_ends.specs.Fits.{Fits}
use Rattle.note_journal.specs.Journals.{JournalView, places_of}
use Rattle.note_journal.specs.Passing.{IsAsked, PassesOn}
use Rattle.note_journal.specs.declared.sink.Refused.{Refused}
use Rattle.link_ring.proofs.Windows.{slice_get-last}
use Rattle.link_ring.specs.Ends.{EndsView}
use Rattle.link_ring.specs.Grid.{AreReunited}
use Rattle.run_team.specs.Works.{Together}
use Rattle.run_team.proofs.Lists.{together_length}
use Rattle.run_worker.specs.Ended.{EndedView, HasDrained, HasEnded}
use Rattle.actor_seat.specs.Linked.{LinkedView, RunsOn}
use Rattle.run_worker.specs.Rooms.{ActsByCommand, MayAct, least_free}
use Rattle.run_worker.specs.Together.{EndedAreJoined, all_ends}
use Rattle.actor_seat.specs.Together.{no_linked, worker_at}
use Rattle.run_worker.specs.Workers.{KeepsOn, WorkerView}
use Rattle.run_runtime.specs.declared.passed.ActorNotes.{ActorNotes}
use Rattle.run_runtime.specs.declared.passed.Passed.{Passed}
use Rattle.run_runtime.specs.Calls.{HasFinishedBy}
use Rattle.run_runtime.specs.Finishing.{IsPart, Parts}
use Rattle.actor_caller.specs.Watching.{watch_at}
use Rattle.run_watch.specs.Growth.{Grows}
use Rattle.actor_caller.specs.State.{RuntimeView, closing_at, outside_of}
use Rattle.actor_caller.specs.Stored.{IsRuntime}
use Rattle.run_runtime.specs.WithSinks.{HasPassed, KeepsRefused, MayActAmong, MayActBeside, assembly_of, notes_of}
use Rattle.run_runtime.proofs.Dealt.{map_twice, same_maps, together_maps}
use Rattle.run_runtime.proofs.Finished.{count, finished_as, least_now, places_now, told}

-- nothing stands before a list that is as long with it
none_before : {A : Type 0} (kept had : List A) → kept ++ had ≡ had → kept ≡ []
none_before [] had is = refl
none_before (x ∷ kept) had is = absurd (omega (arith, ap length is, length-append kept had))

-- what stands at a place in the second list, and beside it in the first
record IsBeside {A B C : Type 0} (related : A → B → Type 0) (f : A → C) (xs : List A) (ys : List B) (d : C) (place : ℕ) : Type 0 where
  one : A
  other : B
  at : slice_get ys place ≡ Some other
  related_are : related one other
  made : f one ≡ get_or (map f xs) place d

together_found : {A B C : Type 0} (related : A → B → Type 0) (f : A → C) (xs : List A) (ys tail : List B) (d : C) (place : ℕ) → Together related xs ys → place < length xs → IsBeside related f xs (ys ++ tail) d place
together_found related f [] ys tail d place both low = absurd (omega (arith, low))
together_found related f (x ∷ xs) [] tail d place both low = absurd both
together_found related f (x ∷ xs) (y ∷ ys) tail d zero both low = record { one = x; other = y; at = refl; related_are = both.0; made = refl }
together_found related f (x ∷ xs) (y ∷ ys) tail d (suc place) both low =
    let rest = together_found related f xs ys tail d place both.1 (omega (arith, low)) in
    record { one = rest.one; other = rest.other; at = rest.at; related_are = rest.related_are; made = rest.made }

-- what follows of each pair holds of the second list
pub together_all : {A B : Type 0} (related : A → B → Type 0) (P : B → Type 0) → ((x : A) (y : B) → related x y → P y) → (xs : List A) (ys : List B) → Together related xs ys → All P ys
together_all related P follows [] [] both = All-nil P
together_all related P follows [] (y ∷ ys) both = absurd both
together_all related P follows (x ∷ xs) [] both = absurd both
together_all related P follows (x ∷ xs) (y ∷ ys) both = All-cons P y ys (follows x y both.0) (together_all related P follows xs ys both.1)

-- and of the first
together_each : {A B C : Type 0} (related : A → B → Type 0) (f : A → C) (P : C → Type 0) → ((x : A) (y : B) → related x y → P (f x)) → (xs : List A) (ys : List B) → Together related xs ys → All P (map f xs)
together_each related f P follows [] [] both = All-nil P
together_each related f P follows [] (y ∷ ys) both = absurd both
together_each related f P follows (x ∷ xs) [] both = absurd both
together_each related f P follows (x ∷ xs) (y ∷ ys) both = All-cons P (f x) (map f xs) (follows x y both.0) (together_each related f P follows xs ys both.1)

-- the ends of these workers
pub ends_of_each : {J S : Type 0} (all : List (EndedView J ℕ S)) (ends : List (EndsView J ℕ)) → Together (λ worker ends. ends ≡ worker.linked.ends) all ends → ends ≡ map (λ worker. worker.linked.ends) all
ends_of_each {J} {S} all ends both =
    sym (map-id ends) ∙ same_maps (λ (worker : EndedView J ℕ S). worker.linked.ends) (λ (ends : EndsView J ℕ). ends) (λ worker ends. ends ≡ worker.linked.ends) (λ worker ends is. is) all ends both

-- each worker runs on to what it gives back
pub all_run_on : {J C G S : Type 0} (mark : S → ℕ) (workers : List (WorkerView J ℕ C G S)) (all : List (EndedView J ℕ S)) → Together (KeepsOn mark) workers all →
    Together RunsOn (map (λ worker. worker.linked) workers) (map (λ ended. ended.linked) all)
all_run_on {J} {C} {G} {S} mark workers all both =
    together_maps (λ (worker : WorkerView J ℕ C G S). worker.linked) (λ (ended : EndedView J ℕ S). ended.linked) (KeepsOn mark) RunsOn (λ worker ended keeps. keeps.runs) workers all both

-- and keeps its board
pub all_boards : {J C G S : Type 0} (mark : S → ℕ) (workers : List (WorkerView J ℕ C G S)) (all : List (EndedView J ℕ S)) → Together (KeepsOn mark) workers all →
    map (λ (ended : EndedView J ℕ S). ended.shown.board) all ≡ map (λ (worker : WorkerView J ℕ C G S). worker.shown.board) workers
all_boards {J} {C} {G} {S} mark workers all both =
    same_maps (λ (worker : WorkerView J ℕ C G S). worker.shown.board) (λ (ended : EndedView J ℕ S). ended.shown.board) (KeepsOn mark) (λ worker ended keeps. keeps.board) workers all both

-- and its sink bears its mark; so does that of the outside actor
pub all_marks : {J C G S : Type 0} (mark : S → ℕ) (workers : List (WorkerView J ℕ C G S)) (all : List (EndedView J ℕ S)) (before after : S) → Together (KeepsOn mark) workers all → mark after ≡ mark before →
    map (λ (ended : EndedView J ℕ S). mark ended.sink) all ++ mark after ∷ [] ≡ map (λ (worker : WorkerView J ℕ C G S). mark worker.sink) workers ++ mark before ∷ []
all_marks {J} {C} {G} {S} mark workers all before after both same =
    ap (λ marks. marks ++ mark after ∷ []) (same_maps (λ (worker : WorkerView J ℕ C G S). mark worker.sink) (λ (ended : EndedView J ℕ S). mark ended.sink) (KeepsOn mark) (λ worker ended keeps. keeps.marked) workers all both)
    ∙ ap (λ last. map (λ (worker : WorkerView J ℕ C G S). mark worker.sink) workers ++ last ∷ []) same

-- with those of the outside actor they are the ends of all actors
pub ends_together : {J S : Type 0} (all : List (EndedView J ℕ S)) (outside : EndsView J ℕ) →
    map (λ worker. worker.linked.ends) all ++ outside ∷ [] ≡ map (λ (worker : LinkedView J ℕ). worker.ends) (map (λ (worker : EndedView J ℕ S). worker.linked) all) ++ outside ∷ []
ends_together {J} {S} all outside = ap (λ front. front ++ outside ∷ []) (sym (map_twice (λ (worker : LinkedView J ℕ). worker.ends) (λ (worker : EndedView J ℕ S). worker.linked) all))

-- how many ends there are, and how many actors
pub part_counts : {J S : Type 0} (meaning : Meaning J ℕ) (has : S → Journal ℕ) (refused : S → ℕ → Type 0) (all : List (EndedView J ℕ S)) (ends : List (EndsView J ℕ)) (actors : List (ActorNotes S)) →
    Parts meaning has refused all ends actors → (length ends ≡ length all) × (length actors ≡ length all)
part_counts {J} {S} meaning has refused all ends actors parts = (
  ap length parts.ends_are ∙ length-map all (λ (worker : EndedView J ℕ S). worker.linked.ends),
  sym (together_length (IsPart meaning has refused) all actors parts.each),
)

-- as many workers have ended as there are cores
pub all_ended : {J S : Type 0} (meaning : Meaning J ℕ) (view : RuntimeView J ℕ) (is : IsRuntime (Fits meaning) view) (all : List (EndedView J ℕ S)) → Together RunsOn view.workers (map (λ worker. worker.linked) all) → length all ≡ view.desk.cores
all_ended {J} {S} meaning view is all kept = sym (length-map all (λ (worker : EndedView J ℕ S). worker.linked)) ∙ count meaning view is (map (λ worker. worker.linked) all) kept

-- nothing is kept of the notes of the outside actor behind its last pass, unless its sink refused it
pub rest_handed : {S : Type 0} (has : S → Journal ℕ) (refused : S → ℕ → Type 0) (old new : JournalView ℕ) (before after : S) (answer : Result (Unit {0}) Refused) (kept : JournalView ℕ) → has before ≡ old.passed →
    PassesOn has refused old before answer new after → kept.notes ++ new.passed ≡ new.notes → KeepsRefused has refused (record { sink = after; kept = kept })
rest_handed has refused old new before after (Ok done) kept had passes notes =
    let all = ap (λ journal. journal.notes) passes.0 ∙ sym (ap (λ journal. journal.passed) passes.0) in
    inl (none_before kept.notes new.passed (notes ∙ all))
rest_handed has refused old new before after (Err why) kept had passes notes = inr (subst (λ notes. refused after (length notes)) (sym (passes.1 ∙ had)) passes.2)

module _ {J S : Type 0} (meaning : Meaning J ℕ) (has : S → Journal ℕ) (refused : S → ℕ → Type 0) where
  -- nothing is kept of the notes of a worker that has ended, unless its sink refused it
  pub rest_kept : (worker : EndedView J ℕ S) (actor : ActorNotes S) → HasEnded meaning has refused worker → actor.sink ≡ worker.sink → notes_of has actor ≡ worker.linked.recorded.journal.notes → KeepsRefused has refused actor
  rest_kept worker actor ended sink notes =
      let had : has actor.sink ≡ worker.linked.recorded.journal.passed = ap has sink ∙ ended.passed in
      ⊎_elim
      (λ (all : worker.linked.recorded.journal.passed ≡ worker.linked.recorded.journal.notes).
      let none : KeepsRefused has refused actor = inl (none_before actor.kept.notes (has actor.sink) (notes ∙ (sym all ∙ sym had))) in none)
      (λ (told : refused worker.sink (length worker.linked.recorded.journal.passed)).
      inr (subst (λ sink. refused sink (length (has actor.sink))) (sym sink) (subst (λ passed. refused worker.sink (length passed)) (sym had) told)))
      ended.rest

  module _ (view : RuntimeView J ℕ) (is : IsRuntime (Fits meaning) view) (all : List (EndedView J ℕ S)) (kept : Together RunsOn view.workers (map (λ worker. worker.linked) all)) (actors : List (ActorNotes S))
      (each : Together (IsPart meaning has refused) all actors) (last : ActorNotes S) (outside : notes_of has last ≡ view.desk.journal.notes) (rest : KeepsRefused has refused last)
      (seen : (core : ℕ) → core < view.desk.cores → Grows (watch_at core view.watched).notes (worker_at core (map (λ (worker : EndedView J ℕ S). worker.linked) all)).recorded.journal.notes) where
    abbrev ended : List (LinkedView J ℕ)
    ended = map (λ (worker : EndedView J ℕ S). worker.linked) all

    pub all_drained : All (HasDrained meaning) ended
    all_drained = together_each (IsPart meaning has refused) (λ (worker : EndedView J ℕ S). worker.linked) (HasDrained meaning) (λ worker actor part. part.ended.drained) all actors each

    pub notes_together : map (notes_of has) (actors ++ last ∷ []) ≡ told view.desk.journal.notes ended
    notes_together =
        map-append (notes_of has) actors (last ∷ [])
        ∙ (ap (λ front. front ++ notes_of has last ∷ [])
        (same_maps (λ (worker : EndedView J ℕ S). worker.linked.recorded.journal.notes)
        (notes_of has) (IsPart meaning has refused) (λ worker actor part. part.notes_are) all actors each
        ∙ sym (map_twice (λ (worker : LinkedView J ℕ). worker.recorded.journal.notes) (λ (worker : EndedView J ℕ S). worker.linked) all))
        ∙ ap (λ notes. map (λ (worker : LinkedView J ℕ). worker.recorded.journal.notes) ended ++ notes ∷ []) outside)

    pub all_rest : All (KeepsRefused has refused) (actors ++ last ∷ [])
    all_rest = All-append (KeepsRefused has refused) actors (last ∷ []) (together_all (IsPart meaning has refused) (KeepsRefused has refused) (λ worker actor part. part.rest) all actors each) (All-cons (KeepsRefused has refused) last [] rest (All-nil (KeepsRefused has refused)))

    -- what a worker may have done, beside its sink
    acts_beside : (core : ℕ) → core < view.desk.cores → (worker : EndedView J ℕ S) (actor : ActorNotes S) → worker.linked ≡ worker_at core ended → IsPart meaning has refused worker actor →
        MayActBeside refused view actor.sink (worker_at core ended).recorded.journal.notes
    acts_beside core low worker actor here part =
        let least = ap (λ (view : LinkedView J ℕ). least_free view.recorded.core.cores view.recorded.cap view.recorded.core.bursts.burst) here ∙ least_now meaning view is ended kept core low in
        let places : places_of worker.linked.recorded.journal ≡ view.room = ap (λ (view : LinkedView J ℕ). places_of view.recorded.journal) here ∙ places_now meaning view is ended kept core low in
        let notes = ap (λ (view : LinkedView J ℕ). view.recorded.journal.notes) here in
        subst (MayActBeside refused view actor.sink) notes
        (⊎_elim
        (λ (never : ActsByCommand worker.linked.recorded.journal.notes). let acts : MayActBeside refused view actor.sink worker.linked.recorded.journal.notes = inl never in acts)
        (λ short. inr (
          short.0,
          subst (λ sink. refused sink short.0) (sym part.sink_is) short.1,
          subst (λ least. EachNote (MayAct least (short.0 + view.room)) worker.linked.recorded.journal.notes) least
              (subst (λ places. EachNote (MayAct (least_free worker.linked.recorded.core.cores worker.linked.recorded.cap worker.linked.recorded.core.bursts.burst) (short.0 + places)) worker.linked.recorded.journal.notes) places short.2),
        ))
        part.ended.acts)

    pub all_act : (core : ℕ) → core < view.desk.cores → MayActAmong refused view (actors ++ last ∷ []) core (worker_at core ended).recorded.journal.notes
    all_act core low =
        let found = together_found (IsPart meaning has refused) (λ (worker : EndedView J ℕ S). worker.linked) all actors (last ∷ []) no_linked core each (omega (arith, low, count meaning view is ended kept, length-map all (λ (worker : EndedView J ℕ S). worker.linked))) in
        (found.other, found.at, acts_beside core low found.one found.other found.made found.related_are)

    -- the outside actor's stand behind those of the workers
    outside_there : slice_get (actors ++ last ∷ []) view.desk.cores ≡ Some last
    outside_there =
        let many = sym (together_length (IsPart meaning has refused) all actors each) ∙ all_ended meaning view is all kept in
        subst (λ place. slice_get (actors ++ last ∷ []) place ≡ Some last) many (slice_get-last actors last)

    marks_stay : (mark : S → ℕ) (marks : List ℕ) → map (λ (worker : EndedView J ℕ S). mark worker.sink) all ++ mark last.sink ∷ [] ≡ marks → map (λ (actor : ActorNotes S). mark actor.sink) (actors ++ last ∷ []) ≡ marks
    marks_stay mark marks same =
        map-append (λ (actor : ActorNotes S). mark actor.sink) actors (last ∷ [])
        ∙ (ap (λ front. front ++ mark last.sink ∷ [])
        (same_maps (λ (worker : EndedView J ℕ S). mark worker.sink) (λ (actor : ActorNotes S). mark actor.sink) (IsPart meaning has refused) (λ worker actor part. ap mark part.sink_is) all actors each)
        ∙ same)

    -- the notes of all actors together are those of a runtime that has finished
    pub has_passed : (asks : S → Option ℕ) (mark : S → ℕ) → IsAsked view.asks (asks last.sink) → map (λ (worker : EndedView J ℕ S). mark worker.sink) all ++ mark last.sink ∷ [] ≡ view.marks →
        (passed : Passed S) (ends : List (EndsView J ℕ)) → passed.cores ≡ view.desk.cores → passed.cap ≡ view.desk.cap → passed.burst ≡ view.desk.burst → passed.actors.items ≡ actors ++ last ∷ [] →
        ends ≡ all_ends ended (outside_of view) → AreReunited (Fits meaning) passed.cores ends → EndedAreJoined meaning → JoiningIsSound → JoinedAreSpelled →
        ((core : ℕ) → core < length view.closing → closing_at core view ≡ true) → HasPassed meaning has refused asks mark view passed
    has_passed asks mark asked marked passed ends cores_are cap_is burst_is actors_are ends_are reunited joined_law sound_law spelled_law closed = record {
      finished = subst (λ actors. HasFinishedBy meaning (MayActAmong refused view actors) view (assembly_of has passed)) (sym actors_are)
          (finished_as meaning view is ended kept all_drained (MayActAmong refused view (actors ++ last ∷ [])) all_act seen passed.cores passed.cap passed.burst ends (map (notes_of has) passed.actors.items) cores_are cap_is burst_is ends_are
          (ap (map (notes_of has)) actors_are ∙ notes_together) reunited joined_law sound_law spelled_law closed);
      rest = subst (All (KeepsRefused has refused)) (sym actors_are) all_rest;
      marks = ap (map (λ (actor : ActorNotes S). mark actor.sink)) actors_are ∙ marks_stay mark view.marks marked;
      outside = last;
      outside_is = ap (λ actors. slice_get actors view.desk.cores) actors_are ∙ outside_there;
      asked = asked;
    }
