-- A house that was just opened, of which nothing was read.
use Rattle.std.proofs.Common.{◌≡◌, ◌≢◌, ℕ, zero, suc, ◌<◌, ◌≤◌, List, [], ◌∷◌, ◌++◌, length, map, get_or, refl, sym, ap, ◌∙◌, subst, ⊎_elim, arith, length-append}
use Rattle.std.proofs.lemmas.Bool.{cases_eq, cases_lt}
use Rattle.std.proofs.lemmas.List.{get_or_past, length-map}
use Rattle.actor_core.specs.Recorded.{terms_at}
use Rattle.actor_desk.specs.Submissions.{terms_of_desk}
use Rattle.link_ring.specs.Grid.{IsGrid}
use Rattle.run_team.specs.Works.{Together}
use Rattle.run_team.proofs.Lists.{together_length}
use Rattle.actor_seat.specs.Together.{no_linked, worker_at}
use Rattle.host_core.specs.Hosted.{HostedView}
use Rattle.host_house.specs.Houses.{HouseView, IsOpened}
use Rattle.judge_replay.specs.Reads.{CoreRead, OutsideRead, core_read, outside_read}
use Rattle.judge_replay.specs.Houses.{HouseRead, IsFresh, IsHouse, IsUnread, core_at, no_core}
use Rattle.judge_replay.proofs.Houses.{at_last, before_last}

-- two lists that belong together do at each place
pub together_at : {A B : Type 0} (related : A → B → Type 0) (xs : List A) (ys : List B) (d : A) (e : B) (place : ℕ) → Together related xs ys → place < length xs → related (get_or xs place d) (get_or ys place e)
together_at related [] [] d e place both low = absurd (none place low)
  where
    none : (place : ℕ) → place < 0 → ⊥
    none place low = omega (arith, low)
together_at related [] (y ∷ ys) d e place both low = absurd both
together_at related (x ∷ xs) [] d e place both low = absurd both
together_at related (x ∷ xs) (y ∷ ys) d e zero both low = both.0
together_at related (x ∷ xs) (y ∷ ys) d e (suc place) both low = together_at related xs ys d e place both.1 (omega (arith, low))

same_ends : (cores : List HostedView) (made : List CoreRead) → Together IsFresh cores made → map (λ (core : CoreRead). core.linked.ends) made ≡ map (λ (core : HostedView). core.ends) cores
same_ends [] [] both = refl
same_ends [] (one ∷ made) both = absurd both
same_ends (one ∷ cores) [] both = absurd both
same_ends (core ∷ cores) (one ∷ made) both =
    ap (λ (it : HostedView). it.ends ∷ map (λ (core : CoreRead). core.linked.ends) made) both.0.linked
    ∙ ap (λ ends. core.ends ∷ ends) (same_ends cores made both.1)

module _ (cores cap burst room : ℕ) (house : HouseView) (made : List CoreRead) (outside : OutsideRead) (opened : IsOpened cores cap burst room house) (fresh : Together IsFresh house.cores made)
    (caller : outside.caller ≡ house.outside) (none : outside_read outside ≡ []) where
  abbrev pub unread : HouseRead
  unread = record { count = cores; cap = cap; burst = burst; cores = made; outside = outside }

  many : length made ≡ cores
  many = sym (together_length IsFresh house.cores made fresh) ∙ opened.count

  fresh_at : (core : ℕ) → core < cores → IsFresh (worker_at core house.cores) (core_at core unread)
  fresh_at core low = together_at IsFresh house.cores made no_linked no_core core fresh (omega (arith, low, opened.count))

  pub opened_is : IsHouse unread
  opened_is = record {
    many = many;
    each = λ core low. ap (λ (it : HostedView). terms_at it.recorded) (fresh_at core low).linked ∙ (opened.each core low).terms;
    outside_is = ap (λ caller. terms_of_desk caller.desk) caller ∙ ap (λ desk. terms_of_desk desk) opened.outside_is;
    grid = subst (IsGrid cores) (sym (ap (λ ends. ends ++ outside.caller.ends ∷ []) (same_ends house.cores made fresh) ∙ ap (λ caller. map (λ (core : HostedView). core.ends) house.cores ++ caller.ends ∷ []) caller)) opened.grid;
  }

  pub opened_unread : IsUnread cores cap burst unread
  opened_unread = record {
    count_is = refl;
    cap_is = refl;
    burst_is = refl;
    none = λ actor.
        ⊎_elim
        (λ (low : actor < length made). before_last core_read made (outside_read outside) [] no_core actor low ∙ (fresh_at actor (omega (arith, low, many))).none)
        (λ (high : length made ≤ actor).
        ⊎_elim
        (λ (last : actor ≡ length made). rw last (at_last core_read made (outside_read outside) [] no_core (length made) refl ∙ none))
        (λ (apart : actor ≢ length made).
        get_or_past (map core_read made ++ outside_read outside ∷ []) actor [] (omega (arith, high, apart, length-append (map core_read made) (outside_read outside ∷ []), length-map made core_read)))
        (cases_eq actor (length made)))
        (cases_lt actor (length made));
  }
