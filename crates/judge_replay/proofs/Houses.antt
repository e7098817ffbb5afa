-- What a house has read, once the next note of one of its actors was tried.
use Rattle.std.proofs.Common.{◌≡◌, ◌≢◌, ℕ, ◌+◌, ◌<◌, ◌≤◌, List, [], ◌∷◌, ◌++◌, length, map, get_or, set, refl, sym, ap, ◌∙◌, subst, ⊎_elim, arith, length-append}
use Rattle.std.specs.Prelude.{All}
use Rattle.std.proofs.lemmas.Bool.{cases_eq, cases_lt}
use Rattle.std.proofs.lemmas.List.{get_or-map, get_or-set_other, get_or-set_same, get_or_append_left, get_or_past, length-map, length-set}
use Rattle.std.proofs.Math.Seq.{get_or-append_seam}
use Rattle.link_ring.specs.Ends.{SameEnds}
use Rattle.link_ring.specs.Grid.{ends_at, no_ends}
use Rattle.link_ring.proofs.Keeping.{grid_kept}
use Rattle.link_ring.proofs.Using.{all_same, ends_same, one_more_same}
use Rattle.actor_core.specs.Recorded.{terms_at}
use Rattle.judge_replay.specs.Reads.{CoreRead, IsSameCore, IsSameOutside, OutsideRead, core_read, outside_read}
use Rattle.judge_replay.specs.Houses.{HouseRead, IsHouse, all_ends, core_at, no_core, read_at}

module _ {A B : Type 0} (f : A → B) (xs : List A) (x none : B) (d : A) where
  pub before_last : (i : ℕ) → i < length xs → get_or (map f xs ++ x ∷ []) i none ≡ f (get_or xs i d)
  before_last i low = get_or_append_left (map f xs) (x ∷ []) none i (omega (arith, low, length-map xs f)) ∙ get_or-map f xs i d none low

  pub at_last : (n : ℕ) → length xs ≡ n → get_or (map f xs ++ x ∷ []) n none ≡ x
  at_last n is = rw (← is) (rw (← length-map xs f) (get_or-append_seam (map f xs) x [] none))

-- behind the cores two houses with as many of them read the same, if their outside actors do
same_above : (new old : HouseRead) (actor : ℕ) → length new.cores ≡ length old.cores → outside_read new.outside ≡ outside_read old.outside → length old.cores ≤ actor → read_at actor new ≡ read_at actor old
same_above new old actor long same above =
    ⊎_elim
    (λ (last : actor ≡ length old.cores).
    rw last (at_last core_read new.cores (outside_read new.outside) [] no_core (length old.cores) long ∙ same ∙ sym (at_last core_read old.cores (outside_read old.outside) [] no_core (length old.cores) refl)))
    (λ (apart : actor ≢ length old.cores).
    get_or_past (map core_read new.cores ++ outside_read new.outside ∷ []) actor [] (omega (arith, above, apart, long, length-append (map core_read new.cores) (outside_read new.outside ∷ []), length-map new.cores core_read))
    ∙ sym (get_or_past (map core_read old.cores ++ outside_read old.outside ∷ []) actor [] (omega (arith, above, apart, length-append (map core_read old.cores) (outside_read old.outside ∷ []), length-map old.cores core_read))))
    (cases_eq actor (length old.cores))

-- one more core is read on
module _ (house : HouseRead) (is : IsHouse house) (core : ℕ) (low : core < house.count) (new : CoreRead) where
  abbrev pub with_core : HouseRead
  with_core = record house { cores = set house.cores core new }

  in_place : core < length house.cores
  in_place = omega (arith, low, is.many)

  here : core_at core with_core ≡ new
  here = get_or-set_same house.cores core new no_core in_place

  away : (other : ℕ) → other ≢ core → core_at other with_core ≡ core_at other house
  away other differs = get_or-set_other house.cores core other new no_core differs

  many : length with_core.cores ≡ house.count
  many = length-set house.cores core new ∙ is.many

  pub reads_core : read_at core with_core ≡ core_read new
  reads_core = before_last core_read with_core.cores (outside_read house.outside) [] no_core core (omega (arith, many, low)) ∙ ap core_read here

  pub read_core : read_at core house ≡ core_read (core_at core house)
  read_core = before_last core_read house.cores (outside_read house.outside) [] no_core core in_place

  pub reads_other : (other : ℕ) → other ≢ core → read_at other with_core ≡ read_at other house
  reads_other other differs =
      ⊎_elim
      (λ (below : other < length house.cores).
      before_last core_read with_core.cores (outside_read house.outside) [] no_core other (omega (arith, many, is.many, below))
      ∙ ap core_read (away other differs)
      ∙ sym (before_last core_read house.cores (outside_read house.outside) [] no_core other below))
      (λ (above : length house.cores ≤ other). same_above with_core house other (many ∙ sym is.many) refl above)
      (cases_lt other (length house.cores))

  same_terms : IsSameCore (core_at core house).linked new.linked → (other : ℕ) → other < house.count → terms_at (core_at other with_core).linked.recorded ≡ terms_at (core_at other house).linked.recorded
  same_terms same other known =
      ⊎_elim
      (λ (one : other ≡ core). rw one (ap (λ (core : CoreRead). terms_at core.linked.recorded) here ∙ same.terms))
      (λ (apart : other ≢ core). ap (λ (core : CoreRead). terms_at core.linked.recorded) (away other apart))
      (cases_eq other core)

  same_at : IsSameCore (core_at core house).linked new.linked → (actor : ℕ) → actor < length (map (λ core. core.linked.ends) house.cores) → SameEnds (ends_at actor (map (λ core. core.linked.ends) house.cores)) (ends_at actor (map (λ core. core.linked.ends) with_core.cores))
  same_at same actor known =
      let below : actor < length house.cores = omega (arith, known, length-map house.cores (λ core. core.linked.ends)) in
      let old = get_or-map (λ (core : CoreRead). core.linked.ends) house.cores actor no_core no_ends below in
      let now = get_or-map (λ (core : CoreRead). core.linked.ends) with_core.cores actor no_core no_ends (omega (arith, below, many, is.many)) in
      rw (old, now)
      (⊎_elim
      (λ (one : actor ≡ core). rw one (subst (λ (it : CoreRead). SameEnds (core_at core house).linked.ends it.linked.ends) (sym here) same.ends))
      (λ (apart : actor ≢ core). subst (λ (it : CoreRead). SameEnds (core_at actor house).linked.ends it.linked.ends) (sym (away actor apart)) (ends_same (core_at actor house).linked.ends))
      (cases_eq actor core))

  pub keeps_core : IsSameCore (core_at core house).linked new.linked → IsHouse with_core
  keeps_core same = record {
    many = many;
    each = λ other known. same_terms same other known ∙ is.each other known;
    outside_is = is.outside_is;
    grid = grid_kept house.count (all_ends house) (all_ends with_core)
        (one_more_same (map (λ core. core.linked.ends) house.cores) (map (λ core. core.linked.ends) with_core.cores) house.outside.caller.ends house.outside.caller.ends
        (record { count = omega (arith, length-map house.cores (λ core. core.linked.ends), length-map with_core.cores (λ core. core.linked.ends), many, is.many); each = same_at same })
        (ends_same house.outside.caller.ends))
        is.grid;
  }

-- the outside actor is read on
module _ (house : HouseRead) (is : IsHouse house) (new : OutsideRead) where
  abbrev pub with_outside : HouseRead
  with_outside = record house { outside = new }

  pub reads_outside : (actor : ℕ) → actor ≡ house.count → read_at actor with_outside ≡ outside_read new
  reads_outside actor last = rw last (at_last core_read house.cores (outside_read new) [] no_core house.count is.many)

  pub read_outside : (actor : ℕ) → actor ≡ house.count → read_at actor house ≡ outside_read house.outside
  read_outside actor last = rw last (at_last core_read house.cores (outside_read house.outside) [] no_core house.count is.many)

  pub reads_cores : (other : ℕ) → other ≢ house.count → read_at other with_outside ≡ read_at other house
  reads_cores other apart =
      ⊎_elim
      (λ (below : other < length house.cores).
      before_last core_read house.cores (outside_read new) [] no_core other below ∙ sym (before_last core_read house.cores (outside_read house.outside) [] no_core other below))
      (λ (above : length house.cores ≤ other).
      let behind : length house.cores + 1 ≤ other = omega (arith, above, apart, is.many) in
      get_or_past (map core_read house.cores ++ outside_read new ∷ []) other [] (omega (arith, behind, length-append (map core_read house.cores) (outside_read new ∷ []), length-map house.cores core_read))
      ∙ sym (get_or_past (map core_read house.cores ++ outside_read house.outside ∷ []) other [] (omega (arith, behind, length-append (map core_read house.cores) (outside_read house.outside ∷ []), length-map house.cores core_read))))
      (cases_lt other (length house.cores))

  pub keeps_outside : IsSameOutside house.outside.caller new.caller → IsHouse with_outside
  keeps_outside same = record {
    many = is.many;
    each = is.each;
    outside_is = same.terms ∙ is.outside_is;
    grid = grid_kept house.count (all_ends house) (all_ends with_outside)
        (one_more_same (map (λ core. core.linked.ends) house.cores) (map (λ core. core.linked.ends) house.cores) house.outside.caller.ends new.caller.ends
        (all_same (map (λ core. core.linked.ends) house.cores)) same.ends)
        is.grid;
  }

-- what holds of all holds of the next one
pub holds_next : {A : Type 0} (P : A → Type 0) (all done rest rest' : List A) (x : A) → All P all → all ≡ done ++ rest → rest ≡ x ∷ rest' → P x
holds_next P all done rest rest' x each split is =
    let here : all ≡ done ++ x ∷ rest' = split ∙ ap (λ rest. done ++ rest) is in
    let at : get_or all (length done) x ≡ x = ap (λ all. get_or all (length done) x) here ∙ get_or-append_seam done x rest' x in
    let low : length done < length all = omega (arith, ap length here, length-append done (x ∷ rest')) in
    subst P at (each (length done) x low)
