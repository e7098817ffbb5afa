-- Workers that have ended and the outside actor are recorded actors together.
use Rattle.run_worker.proofs.Names.{all_ends, ap, AreTogether, arith, Assembly, cases_eq, desk_among, desk_of, ends_at, get_or, get_or-append_seam, get_or-map, get_or_append_left, HaveEnded, in_at, IsAssemblyOf, IsDrained, IsOutOf}
use Rattle.run_worker.proofs.Names.{IsWritten, journal_of, length, length-map, LinkedView, List, map, Meaning, no_ends, no_linked, no_out, None, out_at, OutsideView, queue_in_turn, slice_get-get_or, subst, sym, terms_of_desk, worker_at, ℕ}
use Rattle.run_worker.proofs.Names.{[], ⊎_elim, ◌++◌, ◌<◌, ◌∙◌, ◌∷◌, ◌≡◌, ◌≢◌, ◌≤◌}

module _ {A B : Type 0} (f : A → B) (xs : List A) (x none : B) (d : A) where
  -- an element before the last of a list that is made of others
  pub before_last : (i : ℕ) → i < length xs → get_or (map f xs ++ x ∷ []) i none ≡ f (get_or xs i d)
  before_last i low = get_or_append_left (map f xs) (x ∷ []) none i (omega (arith, low, length-map xs f)) ∙ get_or-map f xs i d none low

  pub at_last : (n : ℕ) → length xs ≡ n → get_or (map f xs ++ x ∷ []) n none ≡ x
  at_last n is = rw (← is) (rw (← length-map xs f) (get_or-append_seam (map f xs) x [] none))

module _ {J T : Type 0} {meaning : Meaning J T}
    {cores cap burst : ℕ} {workers : List (LinkedView J T)} {outside : OutsideView J T} (have : HaveEnded meaning cores cap burst workers outside) where
  desk_here : (core : ℕ) → core < cores → desk_among workers outside core ≡ desk_of (worker_at core workers).recorded
  desk_here core low = before_last (λ (worker : LinkedView J T). desk_of worker.recorded) workers outside.desk outside.desk no_linked core (omega (arith, low, have.count))

  desk_outside : desk_among workers outside cores ≡ outside.desk
  desk_outside = at_last (λ (worker : LinkedView J T). desk_of worker.recorded) workers outside.desk outside.desk no_linked cores have.count

  ends_here : (core : ℕ) → core < cores → ends_at core (all_ends workers outside) ≡ (worker_at core workers).ends
  ends_here core low = before_last (λ (worker : LinkedView J T). worker.ends) workers outside.ends no_ends no_linked core (omega (arith, low, have.count))

  ends_outside : ends_at cores (all_ends workers outside) ≡ outside.ends
  ends_outside = at_last (λ (worker : LinkedView J T). worker.ends) workers outside.ends no_ends no_linked cores have.count

  cores_here : (core : ℕ) → core < cores → (worker_at core workers).recorded.core.cores ≡ cores
  cores_here core low = ap (λ terms. terms.cores) (have.seats core low)

  burst_here : (core : ℕ) → core < cores → (worker_at core workers).recorded.core.bursts.burst ≡ burst
  burst_here core low = ap (λ terms. terms.burst) (have.seats core low)

  -- the end on which a worker sends
  ended_out : (sender number : ℕ) → sender < cores → number < cores →
      IsOutOf number (desk_of (worker_at sender workers).recorded) (out_at number (worker_at sender workers).ends).out (out_at number (worker_at sender workers).ends).credited
  ended_out sender number here low =
      let outs = (have.ended sender here).linked.beside.outs in
      outs.beside number (out_at number (worker_at sender workers).ends)
      (slice_get-get_or (worker_at sender workers).ends.outs number no_out (omega (arith, low, outs.count, cores_here sender here)))

  -- the end on which an actor sends
  sends : (sender number : ℕ) → sender ≤ cores → number < cores →
      IsOutOf number (desk_among workers outside sender) (out_at number (ends_at sender (all_ends workers outside))).out (out_at number (ends_at sender (all_ends workers outside))).credited
  sends sender number known low =
      ⊎_elim
      (λ (is : sender ≡ cores).
      rw is (rw desk_outside (rw ends_outside (have.outside_is.outs number (omega (arith, low, ap (λ terms. terms.cores) have.outside_terms))))))
      (λ (away : sender ≢ cores).
      let here : sender < cores = omega (arith, known, away) in
      rw (desk_here sender here) (rw (ends_here sender here) (ended_out sender number here low)))
      (cases_eq sender cores)

  terms_are : (actor : ℕ) → actor ≤ cores → terms_of_desk (desk_among workers outside actor) ≡ record { actor = actor; cores = cores; cap = cap; burst = burst }
  terms_are actor known =
      ⊎_elim
      (λ (is : actor ≡ cores). rw is (rw desk_outside have.outside_terms))
      (λ (away : actor ≢ cores). let here : actor < cores = omega (arith, known, away) in rw (desk_here actor here) (have.seats actor here))
      (cases_eq actor cores)

  pub ended_together :
      AreTogether meaning cores cap burst (desk_among workers outside) (λ core. (worker_at core workers).recorded)
      (λ sender core. (out_at core (ends_at sender (all_ends workers outside))).out)
      (λ sender core. (out_at core (ends_at sender (all_ends workers outside))).credited)
      (λ sender core. (in_at sender (ends_at core (all_ends workers outside))).inward)
  ended_together = record {
    actors = terms_are;
    desks = desk_here;
    recorded = λ core low. (have.ended core low).linked.recorded;
    at_rest = λ core low. (have.ended core low).linked.at_rest;
    no_turn = λ core low. subst (λ burst. queue_in_turn burst (worker_at core workers).recorded.journal.notes ≡ None) (burst_here core low) (have.ended core low).between;
    outside = subst (λ desk. IsWritten (terms_of_desk desk) desk.journal.notes) (sym desk_outside) have.outside_is.written;
    outs = sends;
    ins = λ sender core known low.
        rw (ends_here core low) ((have.ended core low).linked.beside.ins sender (omega (arith, known, cores_here core low)));
    joined = λ sender core known low. (have.reunited sender core known low).joined;
  }

  pub ended_drained : (assembly : Assembly T) → IsAssemblyOf cores cap burst (desk_among workers outside) assembly → (core : ℕ) → core < cores → IsDrained cores (journal_of core assembly)
  ended_drained assembly is core low =
      rw (is.each core (omega (arith, low)))
      (rw (desk_here core low)
      (subst (λ count. IsDrained count (worker_at core workers).recorded.journal.notes) (cores_here core low) (have.ended core low).drained))
