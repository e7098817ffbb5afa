-- A house that was just opened.
use Rattle.std.proofs.Common.{◌≡◌, ℕ, zero, suc, ◌+◌, ◌<◌, List, [], ◌∷◌, ◌++◌, length, map, get_or, refl, sym, ◌∙◌, ap, subst, arith, length-append}
use Rattle.std.specs.Prelude.{All}
use Rattle.std.proofs.lemmas.List.{get_or_append_left, get_or_default}
use Rattle.std.proofs.Math.Seq.{get_or-append_seam}
use Rattle.actor_desk.specs.Submissions.{opened_desk}
use Rattle.link_ring.specs.Ends.{EndsView, AreFresh}
use Rattle.link_ring.specs.Grid.{IsGrid, AreAllFresh, ends_at, no_ends}
use Rattle.link_ring.proofs.Parts.{at_end}
use Rattle.run_team.specs.Works.{Together}
use Rattle.run_team.proofs.Lists.{together_length}
use Rattle.actor_seat.specs.Opening.{AreEndsOf, IsOpenedOver, IsWorkerOf}
use Rattle.actor_seat.specs.Together.{no_linked, worker_at}
use Rattle.host_core.specs.declared.job.HostJob.{HostJob}
use Rattle.host_core.specs.Hosted.{HostedView}
use Rattle.host_house.specs.Houses.{IsOpened}
use Rattle.host_house.specs.Outside.{CallerView}

abbrev Ends : Type 0
Ends = EndsView HostJob ℕ

all_from : {A : Type 0} (P : A → Type 0) (xs : List A) (d : A) → ((i : ℕ) → i < length xs → P (get_or xs i d)) → All P xs
all_from P xs d each place other low = subst P (sym (get_or_default xs place other d low)) (each place low)

-- what holds of all holds of the next one
pub holds_next : {A : Type 0} (P : A → Type 0) (all done rest rest' : List A) (x : A) → All P all → all ≡ done ++ rest → rest ≡ x ∷ rest' → P x
holds_next P all done rest rest' x each split is =
    let here : all ≡ done ++ x ∷ rest' = split ∙ ap (λ rest. done ++ rest) is in
    let at : get_or all (length done) x ≡ x = ap (λ all. get_or all (length done) x) here ∙ get_or-append_seam done x rest' x in
    let low : length done < length all = omega (arith, ap length here, length-append done (x ∷ rest')) in
    subst P at (each (length done) x low)

-- two lists that belong together do at each place
together_at : {A B : Type 0} (related : A → B → Type 0) (xs : List A) (ys : List B) (d : A) (e : B) (place : ℕ) → Together related xs ys → place < length xs → related (get_or xs place d) (get_or ys place e)
together_at related [] [] d e place both low = absurd (none place low)
  where
    none : (place : ℕ) → place < 0 → ⊥
    none place low = omega (arith, low)
together_at related [] (y ∷ ys) d e place both low = absurd both
together_at related (x ∷ xs) [] d e place both low = absurd both
together_at related (x ∷ xs) (y ∷ ys) d e zero both low = both.0
together_at related (x ∷ xs) (y ∷ ys) d e (suc place) both low = together_at related xs ys d e place both.1 (omega (arith, low))

module _ (cores cap burst room : ℕ) where
  -- the cores have the ends over which they were opened
  over_same : (front : List Ends) (opened : List HostedView) → Together (IsOpenedOver cores cap burst room) front opened → map (λ core. core.ends) opened ≡ front
  over_same [] [] both = refl
  over_same [] (core ∷ opened) both = absurd both
  over_same (ends ∷ front) [] both = absurd both
  over_same (ends ∷ front) (core ∷ opened) both = ap (λ ends. ends ∷ map (λ (core : HostedView). core.ends) opened) both.0.ends_are ∙ ap (λ front. ends ∷ front) (over_same front opened both.1)

  module _ (all front : List Ends) (last : Ends) (is : all ≡ front ++ last ∷ []) (grid : IsGrid cores all) (are_fresh : AreAllFresh cores cap all) where
    front_count : length front ≡ cores
    front_count = let longer : length all ≡ length front + 1 = ap length is ∙ length-append front (last ∷ []) in omega (arith, longer, grid.count)

    at_front : (core : ℕ) → core < length front → ends_at core all ≡ get_or front core no_ends
    at_front core low = ap (λ all. ends_at core all) is ∙ get_or_append_left front (last ∷ []) no_ends core low

    at_last : ends_at cores all ≡ last
    at_last = ap (λ all. ends_at cores all) is ∙ at_end front last no_ends cores front_count

    fresh_front : (core : ℕ) → core < length front → AreFresh cap core (get_or front core no_ends)
    fresh_front core low = subst (AreFresh cap core) (at_front core low) (are_fresh core (omega (arith, low, front_count)))

    -- each of the first ends may be opened
    pub may_open : All (AreEndsOf cores cap) front
    may_open = all_from (AreEndsOf cores cap) front no_ends (λ core low.
        let there : core < cores = omega (arith, low, front_count) in
        let fresh = fresh_front core low in
        record {
          core = omega (arith, fresh.number_is, there);
          outs = subst (λ ends. length ends.outs ≡ cores) (at_front core low) (grid.outs core (omega (arith, there)));
          ins = subst (λ ends. length ends.ins ≡ cores + 1) (at_front core low) (grid.ins core there);
          fresh = subst (λ number. AreFresh cap number (get_or front core no_ends)) (sym fresh.number_is) fresh;
        })

    -- so may those of the outside actor
    pub last_outs : length last.outs ≡ cores
    last_outs = subst (λ ends. length ends.outs ≡ cores) at_last (grid.outs cores (omega arith))

    pub last_fresh : AreFresh cap cores last
    last_fresh = subst (AreFresh cap cores) at_last (are_fresh cores (omega arith))

    pub opened_house : (opened : List HostedView) (outside : CallerView) → Together (IsOpenedOver cores cap burst room) front opened → outside.desk ≡ opened_desk cores cores cap room burst → outside.ends ≡ last →
        IsOpened cores cap burst room (record { cores = opened; outside = outside })
    opened_house opened outside both desk ends = record {
      count = sym (together_length (IsOpenedOver cores cap burst room) front opened both) ∙ front_count;
      each = λ core low.
          let there : core < length front = omega (arith, low, front_count) in
          let one = together_at (IsOpenedOver cores cap burst room) front opened no_ends no_linked core both there in
          subst (λ number. IsWorkerOf number cores cap burst room (worker_at core opened)) (fresh_front core there).number_is one.of;
      outside_is = desk;
      grid =
          subst (IsGrid cores) (is ∙ (ap (λ front. front ++ last ∷ []) (sym (over_same front opened both)) ∙ ap (λ last. map (λ (core : HostedView). core.ends) opened ++ last ∷ []) (sym ends))) grid;
    }
