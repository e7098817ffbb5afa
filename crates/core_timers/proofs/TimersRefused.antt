-- Each small case is refused by the part that it breaks.
use Rattle.std.proofs.Common.{◌≡◌, ◌⊎◌, ℕ, zero, suc, ◌<◌, ◌≤◌, Option, Some, None, [], ◌∷◌, refl, sym, ap, ⊎_elim, arith}
use Rattle.std.specs.Prelude.{slice_set}
use Rattle.core_timers.specs.Timers.{Timer, timer_at, HasName, LacksName}
use Rattle.core_timers.specs.BadTimers.{one, other, timer, WordsRefuse, SetsRefuses, GoingRefuses}

-- what tells two timers apart
abbrev time_of : Option Timer → ℕ
time_of None = 0
time_of (Some timer) = timer.time

abbrev number_of : Option Timer → ℕ
number_of None = 0
number_of (Some timer) = timer.name.number

differs : (m n : ℕ) → m < n → m ≡ n → ⊥
differs m n less same = omega (arith, less, same)

not_four : (key : ℕ) → time_of (timer_at (timer one 5 ∷ []) key) ≡ 4 → ⊥
not_four zero same = differs 4 5 (omega arith) (sym same)
not_four (suc key) same = differs 0 4 (omega arith) same

pub words_refuse : WordsRefuse
words_refuse = record {
  lacks = λ lacks. lacks 0 (5, refl);
  vacant = λ vacant. differs 0 5 (omega arith) (sym (ap time_of (vacant 0)));
  full = λ full. let same = full 1 (omega arith) in cc;
  from = λ from. let early = from 1 other 3 refl in omega (arith, early);
  after = λ after. let late = after 0 one 5 refl in omega (arith, late);
  later = λ next. let early = next.least 1 other 3 refl in omega (arith, early);
  nobodys = λ next. not_four next.key (ap time_of next.had);
  two = λ each. differs 0 1 (omega arith) (each.same 0 1 one (5, refl) (7, refl));
}

pub sets_refuses : SetsRefuses
sets_refuses = record {
  old_time = λ sets. in_place sets.key sets.within sets.after;
  replaced = λ sets. replaces sets.key sets.within sets.before;
  second = λ sets. adds sets.key sets.within sets.before sets.after;
  another_goes = λ sets. drops sets.key sets.within sets.after;
  nowhere = λ sets. let within = sets.within in omega (arith, within);
  free = λ none. let same = none.full 1 (omega arith) in cc;
  its_own = λ none. none.lacks 0 (5, refl);
  emptied = λ none. differs 0 5 (omega arith) (ap (λ v. time_of (timer_at v 0)) none.same);
}
  where
    in_place : (key : ℕ) → key < 1 → (timer one 5 ∷ []) ≡ slice_set (timer one 5 ∷ []) key (timer one 7) → ⊥
    in_place zero within same = differs 5 7 (omega arith) (ap (λ v. time_of (timer_at v 0)) same)
    in_place (suc key) within same = absurd (omega (arith, within))

    replaces : (key : ℕ) → key < 1 → HasName (timer one 5 ∷ []) key other ⊎ ((timer_at (timer one 5 ∷ []) key ≡ None) × LacksName (timer one 5 ∷ []) other) → ⊥
    replaces zero within before = ⊎_elim (λ has. differs 1 2 (omega arith) (ap number_of has.1)) (λ none. differs 0 5 (omega arith) (sym (ap time_of none.0))) before
    replaces (suc key) within before = absurd (omega (arith, within))

    adds : (key : ℕ) → key < 2 → HasName (timer one 5 ∷ None ∷ []) key one ⊎ ((timer_at (timer one 5 ∷ None ∷ []) key ≡ None) × LacksName (timer one 5 ∷ None ∷ []) one)
        → (timer one 5 ∷ timer one 7 ∷ []) ≡ slice_set (timer one 5 ∷ None ∷ []) key (timer one 7) → ⊥
    adds zero within before same = differs 5 7 (omega arith) (ap (λ v. time_of (timer_at v 0)) same)
    adds (suc zero) within before same = ⊎_elim (λ has. differs 0 1 (omega arith) (ap number_of has.1)) (λ none. none.1 0 (5, refl)) before
    adds (suc (suc key)) within before same = absurd (omega (arith, within))

    drops : (key : ℕ) → key < 2 → (timer one 7 ∷ None ∷ []) ≡ slice_set (timer one 5 ∷ timer other 6 ∷ []) key (timer one 7) → ⊥
    drops zero within same = differs 0 6 (omega arith) (ap (λ v. time_of (timer_at v 1)) same)
    drops (suc zero) within same = differs 5 7 (omega arith) (sym (ap (λ v. time_of (timer_at v 0)) same))
    drops (suc (suc key)) within same = absurd (omega (arith, within))

pub going_refuses : GoingRefuses
going_refuses = record {
  stays = λ forgets. kept forgets.key (ap number_of forgets.had.1) forgets.after;
  anothers = λ forgets. not_other forgets.key (ap number_of forgets.had.1);
  not_due = λ is. not_early is.key is.time (ap time_of is.had) (ap number_of is.had) is.due;
  not_first = λ is. not_behind is.key is.time (ap time_of is.had) (ap number_of is.had) (is.least 1 other 3 refl);
  other_name = λ is. not_other is.key (ap number_of is.had);
}
  where
    kept : (key : ℕ) → number_of (timer_at (timer one 5 ∷ []) key) ≡ 1 → (timer one 5 ∷ []) ≡ slice_set (timer one 5 ∷ []) key None → ⊥
    kept zero had same = differs 0 5 (omega arith) (sym (ap (λ v. time_of (timer_at v 0)) same))
    kept (suc key) had same = differs 0 1 (omega arith) had

    not_other : (key : ℕ) → number_of (timer_at (timer one 5 ∷ []) key) ≡ 2 → ⊥
    not_other zero same = differs 1 2 (omega arith) same
    not_other (suc key) same = differs 0 2 (omega arith) same

    not_early : (key time : ℕ) → time_of (timer_at (timer one 5 ∷ []) key) ≡ time → number_of (timer_at (timer one 5 ∷ []) key) ≡ 1 → time ≤ 4 → ⊥
    not_early zero time had named due = omega (arith, had, due)
    not_early (suc key) time had named due = differs 0 1 (omega arith) named

    not_behind : (key time : ℕ) → time_of (timer_at (timer one 5 ∷ timer other 3 ∷ []) key) ≡ time → number_of (timer_at (timer one 5 ∷ timer other 3 ∷ []) key) ≡ 1 → time ≤ 3 → ⊥
    not_behind zero time had named early = omega (arith, had, early)
    not_behind (suc zero) time had named early = differs 1 2 (omega arith) (sym named)
    not_behind (suc (suc key)) time had named early = differs 0 1 (omega arith) named
