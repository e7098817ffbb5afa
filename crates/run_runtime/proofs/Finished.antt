-- Workers that have ended, and the outside actor, are a house whose links are reunited.
use Rattle.std.proofs.Common.{◌≡◌, ◌≢◌, ℕ, zero, suc, ◌+◌, ◌<◌, List, [], ◌∷◌, ◌++◌, length, map, get_or, refl, sym, ◌∙◌, ap, subst, arith, ⊎_elim, length-append}
use Rattle.std.specs.Prelude.{All, Some, unwrap_or, slice_get, true}
use Rattle.std.proofs.lemmas.Bool.{cases_eq}
use Rattle.std.proofs.lemmas.List.{length-map}
use Rattle.base_words.specs.declared.order.Order.{Order}
use Rattle.base_words.specs.declared.order.Outcome.{Outcome}
use Rattle.base_words.specs.Assembly.{Assembly, journal_of}
use Rattle.base_words.specs.Journal.{Journal}
use Rattle.base_words.specs.Joining.{JoiningIsSound, JoinedAreSpelled}
use Rattle.base_jobs.specs.Meanings.{Meaning}
use Rattle.base_words.specs.Terms.{Terms}
use Rattle.note_journal.specs.Journals.{places_of}
use Rattle.actor_core.specs.Recorded.{terms_at, desk_of}
use Rattle.actor_core.specs.Together.{IsAssemblyOf}
use Rattle.link_ring.specs.Ends.{EndsView}
use Rattle.link_ring.specs.Grid.{IsGrid, AreSameEnds, AreReunited, ends_at, no_ends}
use Rattle.link_ring.specs.Laws.{GridIsKept}
use Rattle.link_ring.proofs.Using.{ends_same}
use Rattle.run_team.specs.Works.{Together}
use Rattle.run_team.proofs.Lists.{together_length}
use Rattle.actor_seat.specs.Linked.{LinkedView, RunsOn}
use Rattle.run_worker.specs.Ended.{HasDrained}
use Rattle.actor_seat.specs.Queues.{opening_of}
use Rattle.run_worker.specs.Rooms.{least_free}
use Rattle.run_worker.specs.Together.{HaveEnded, EndedAreJoined, desk_among, all_ends}
use Rattle.actor_seat.specs.Together.{no_linked, worker_at}
use Rattle.run_worker.proofs.Ending.{before_last, at_last}
use Rattle.actor_caller.specs.State.{RuntimeView, outside_of, closing_at}
use Rattle.actor_caller.specs.Stored.{IsRuntime}
use Rattle.run_runtime.specs.Calls.{HasFinishedBy}
use Rattle.actor_caller.specs.Watching.{watch_at}
use Rattle.run_watch.specs.Growth.{Grows}
use Rattle.run_runtime.proofs.Fitting.{all_fit}
use Rattle.run_runtime.proofs.Orders.{are_its_orders, its_orders}
use Rattle.run_runtime.proofs.Outcomes.{all_have_outcomes}
use Rattle.run_runtime.proofs.Polled.{all_owed}
use Rattle.link_ends.specs.Fits.{Fits}

-- two lists that belong together, at each place
pub together_at : {A B : Type 0} (related : A → B → Type 0) (xs : List A) (ys : List B) (x : A) (y : B) (i : ℕ) → Together related xs ys → i < length xs → related (get_or xs i x) (get_or ys i y)
together_at related [] ys x y i both low = absurd (omega (arith, low))
together_at related (a ∷ xs) [] x y i both low = absurd both
together_at related (a ∷ xs) (b ∷ ys) x y zero both low = both.0
together_at related (a ∷ xs) (b ∷ ys) x y (suc i) both low = together_at related xs ys x y i both.1 (omega (arith, low))

module _ {J T : Type 0} (outside : Journal T) where
  -- the journals of the workers, and that of the outside actor
  abbrev pub told : List (LinkedView J T) → List (Journal T)
  told ended = map (λ (worker : LinkedView J T). worker.recorded.journal.notes) ended ++ outside ∷ []

  read_before : (ended : List (LinkedView J T)) (i : ℕ) → i < length ended → unwrap_or (slice_get (told ended) i) [] ≡ (get_or ended i no_linked).recorded.journal.notes
  read_before [] i low = absurd (omega (arith, low))
  read_before (worker ∷ ended) zero low = refl
  read_before (worker ∷ ended) (suc i) low = read_before ended i (omega (arith, low))

  read_last : (ended : List (LinkedView J T)) → unwrap_or (slice_get (told ended) (length ended)) [] ≡ outside
  read_last [] = refl
  read_last (worker ∷ ended) = read_last ended

module _ {J : Type 0} (meaning : Meaning J ℕ) (view : RuntimeView J ℕ) (is : IsRuntime (Fits meaning) view) (ended : List (LinkedView J ℕ))
    (kept : Together RunsOn view.workers ended) where
  pub count : length ended ≡ view.desk.cores
  count = sym (together_length RunsOn view.workers ended kept) ∙ is.count

  stays : (core : ℕ) → core < view.desk.cores → RunsOn (worker_at core view.workers) (worker_at core ended)
  stays core low = together_at RunsOn view.workers ended no_linked no_linked core kept (omega (arith, low, is.count))

  ends_here : (workers : List (LinkedView J ℕ)) → length workers ≡ view.desk.cores → (core : ℕ) → core < view.desk.cores → ends_at core (all_ends workers (outside_of view)) ≡ (worker_at core workers).ends
  ends_here workers many core low = before_last (λ (worker : LinkedView J ℕ). worker.ends) workers view.ends no_ends no_linked core (omega (arith, low, many))

  ends_outside : (workers : List (LinkedView J ℕ)) → length workers ≡ view.desk.cores → ends_at view.desk.cores (all_ends workers (outside_of view)) ≡ view.ends
  ends_outside workers many = at_last (λ (worker : LinkedView J ℕ). worker.ends) workers view.ends no_ends no_linked view.desk.cores many

  length_all : (workers : List (LinkedView J ℕ)) → length workers ≡ view.desk.cores → length (all_ends workers (outside_of view)) ≡ view.desk.cores + 1
  length_all workers many =
      omega (arith, length-append (map (λ (worker : LinkedView J ℕ). worker.ends) workers) (view.ends ∷ []), length-map workers (λ (worker : LinkedView J ℕ). worker.ends), many)

  -- each actor kept its ends
  pub same_ends : AreSameEnds (all_ends view.workers (outside_of view)) (all_ends ended (outside_of view))
  same_ends = record {
    count = length_all ended count ∙ sym (length_all view.workers is.count);
    each = λ actor known. ⊎_elim
        (λ (last : actor ≡ view.desk.cores).
        rw last (rw (ends_outside view.workers is.count) (rw (ends_outside ended count) (ends_same view.ends))))
        (λ (away : actor ≢ view.desk.cores).
        let low : actor < view.desk.cores = omega (arith, known, length_all view.workers is.count, away) in
        rw (ends_here view.workers is.count actor low) (rw (ends_here ended count actor low) (stays actor low).ends))
        (cases_eq actor view.desk.cores);
  }

  terms_now : (core : ℕ) → core < view.desk.cores → terms_at (worker_at core ended).recorded ≡ record { actor = core; cores = view.desk.cores; cap = view.desk.cap; burst = view.desk.burst }
  terms_now core low = (stays core low).seat ∙ (is.each core low).terms

  abbrev assembly : Assembly ℕ
  assembly = record { cores = view.desk.cores; cap = view.desk.cap; burst = view.desk.burst; journals = told view.desk.journal.notes ended }

  here : (core : ℕ) → core < view.desk.cores → journal_of core assembly ≡ (worker_at core ended).recorded.journal.notes
  here core low = read_before view.desk.journal.notes ended core (omega (arith, low, count))

  outside_here : journal_of view.desk.cores assembly ≡ view.desk.journal.notes
  outside_here = ap (λ core. unwrap_or (slice_get (told view.desk.journal.notes ended) core) []) (sym count) ∙ read_last view.desk.journal.notes ended

  is_assembly : IsAssemblyOf view.desk.cores view.desk.cap view.desk.burst (desk_among ended (outside_of view)) assembly
  is_assembly = record {
    cores_are = refl;
    cap_is = refl;
    burst_is = refl;
    count =
        omega (arith, length-append (map (λ (worker : LinkedView J ℕ). worker.recorded.journal.notes) ended) (view.desk.journal.notes ∷ []), length-map ended (λ (worker : LinkedView J ℕ). worker.recorded.journal.notes), count);
    each = λ actor known. ⊎_elim
        (λ (last : actor ≡ view.desk.cores).
        rw last (outside_here ∙ ap (λ desk. desk.journal.notes) (sym (at_last (λ (worker : LinkedView J ℕ). desk_of worker.recorded) ended view.desk view.desk no_linked view.desk.cores count))))
        (λ (away : actor ≢ view.desk.cores).
        let low : actor < view.desk.cores = omega (arith, known, away) in
        here actor low ∙ ap (λ desk. desk.journal.notes) (sym (before_last (λ (worker : LinkedView J ℕ). desk_of worker.recorded) ended view.desk view.desk no_linked actor (omega (arith, low, count)))))
        (cases_eq actor view.desk.cores);
  }

  pub finished_grid : GridIsKept J ℕ → IsGrid view.desk.cores (all_ends ended (outside_of view))
  finished_grid law = law view.desk.cores (all_ends view.workers (outside_of view)) (all_ends ended (outside_of view)) same_ends is.grid

  -- how much room a core has in all, if none of its notes were passed on
  pub places_now : (core : ℕ) → core < view.desk.cores → places_of (worker_at core ended).recorded.journal ≡ view.room
  places_now core low =
      let was = is.each core low in
      (stays core low).places ∙ (ap places_of (λ i. record (worker_at core view.workers).recorded.journal { passed = was.none_passed i; room = was.room_is i }) ∙ omega arith)

  pub least_now : (core : ℕ) → core < view.desk.cores →
      least_free (worker_at core ended).recorded.core.cores (worker_at core ended).recorded.cap (worker_at core ended).recorded.core.bursts.burst ≡ least_free view.desk.cores view.desk.cap view.desk.burst
  least_now core low = ap (λ (terms : Terms). least_free terms.cores terms.cap terms.burst) (terms_now core low)

  module _ (each : All (HasDrained meaning) ended) (may : ℕ → Journal ℕ → Type 0) (acts : (core : ℕ) → core < view.desk.cores → may core (worker_at core ended).recorded.journal.notes)
      (seen : (core : ℕ) → core < view.desk.cores → Grows (watch_at core view.watched).notes (worker_at core ended).recorded.journal.notes) where
    have_ended : AreReunited (Fits meaning) view.desk.cores (all_ends ended (outside_of view)) → HaveEnded meaning view.desk.cores view.desk.cap view.desk.burst ended (outside_of view)
    have_ended reunited = record {
      count = count;
      seats = terms_now;
      ended = λ core low. each core no_linked (omega (arith, low, count));
      outside_terms = ap (λ actor. record { actor = actor; cores = view.desk.cores; cap = view.desk.cap; burst = view.desk.burst }) is.actor;
      outside_is = is.outside;
      reunited = reunited;
    }

    pub finished : AreReunited (Fits meaning) view.desk.cores (all_ends ended (outside_of view)) → EndedAreJoined meaning → JoiningIsSound → JoinedAreSpelled → ((core : ℕ) → core < length view.closing → closing_at core view ≡ true) → HasFinishedBy meaning may view assembly
    finished reunited joined_law sound_law spelled_law closed =
        let have = have_ended reunited in
        let law = joined_law view.desk.cores view.desk.cap view.desk.burst ended (outside_of view) assembly have is_assembly in
        record {
          closed = λ core low. closed core (omega (arith, low, is.closings));
          cores = refl;
          cap = refl;
          burst = refl;
          joined = law.0;
          sound = sound_law assembly law.0;
          spelled = spelled_law assembly law.0 is.limits;
          outside = outside_here;
          drained = law.1;
          acts = λ core low. subst (may core) (sym (here core low)) (acts core low);
          openings = λ core low. ap opening_of (here core low) ∙ (stays core low).opening;
          orders = its_orders view ended have assembly is_assembly;
          orders_are = are_its_orders view ended have assembly is_assembly;
          outcomes = all_have_outcomes view assembly (its_orders view ended have assembly is_assembly) refl (sound_law assembly law.0) (are_its_orders view ended have assembly is_assembly) law.1;
          fitting = all_fit view ended have assembly is_assembly;
          polls = all_owed view ended have assembly is_assembly;
          watched = λ core low. subst (Grows (watch_at core view.watched).notes) (sym (here core low)) (seen core low);
        }

    -- the same of the assembly as the code has it
    pub finished_as : (cores cap burst : ℕ) (ends : List (EndsView J ℕ)) (journals : List (Journal ℕ)) → cores ≡ view.desk.cores → cap ≡ view.desk.cap → burst ≡ view.desk.burst →
        ends ≡ all_ends ended (outside_of view) → journals ≡ told view.desk.journal.notes ended → AreReunited (Fits meaning) cores ends → EndedAreJoined meaning →
        JoiningIsSound → JoinedAreSpelled → ((core : ℕ) → core < length view.closing → closing_at core view ≡ true) →
        HasFinishedBy meaning may view (record { cores = cores; cap = cap; burst = burst; journals = journals })
    finished_as cores cap burst ends journals same_cores same_cap same_burst ends_are journals_are reunited joined_law sound_law spelled_law closed =
        subst (HasFinishedBy meaning may view)
        (λ i. record { cores = (sym same_cores) i; cap = (sym same_cap) i; burst = (sym same_burst) i; journals = (sym journals_are) i })
        (finished (subst (λ cores. AreReunited (Fits meaning) cores (all_ends ended (outside_of view))) same_cores (subst (AreReunited (Fits meaning) cores) ends_are reunited)) joined_law sound_law spelled_law closed)
