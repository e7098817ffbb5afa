-- The names of the timers, and that each has one.
use Rattle.std.proofs.Common.{◌≡◌, ◌⊎◌, ℕ, ◌<◌, ◌≢◌, length, map, set, Option, Some, None, sym, ap, ◌∙◌, subst, ⊎_elim}
use Rattle.std.specs.Prelude.{unwrap_or}
use Rattle.std.proofs.Math.ListN.{get_or-map}
use Rattle.std.proofs.lemmas.Bool.{cases_eq, cases_lt}
use Rattle.std.proofs.lemmas.List.{get_or_past, get_or-set_same, get_or-set_other, set_past}
use Rattle.base_words.specs.declared.names.JobId.{JobId}
use Rattle.core_index.specs.Buckets.{Names, name_at}
use Rattle.core_timers.specs.Timers.{Timer, Timers, timer_at, HasName, LacksName, HasOneEach}
use Rattle.core_timers.specs.Heap.{called}
use Rattle.core_timers.proofs.Stands.{same_timer, none_some}

-- the name of a key is that of its timer
pub name_at-called : (timers : Timers) (key : ℕ) → name_at (map called timers) key ≡ called (timer_at timers key)
name_at-called timers key = get_or-map called timers key None

pub HasName-called : (timers : Timers) (names : Names) (key : ℕ) (name : JobId) → names ≡ map called timers → name_at names key ≡ Some name → HasName timers key name
HasName-called timers names key name known is = by_timer (timer_at timers key) (sym (name_at-called timers key) ∙ sym (ap (λ v. name_at v key) known) ∙ is)
  where
    by_timer : (timer : Option Timer) → called timer ≡ Some name → (time : ℕ) × (timer ≡ Some (record { name = name; time = time }))
    by_timer None same = cc
    by_timer (Some timer) same = let its : timer.name ≡ name = ap (λ o. unwrap_or o name) same in (timer.time, λ i. Some (record { name = its i; time = timer.time }))

pub called-HasName : (timers : Timers) (names : Names) (key : ℕ) (name : JobId) → names ≡ map called timers → HasName timers key name → name_at names key ≡ Some name
called-HasName timers names key name known has = ap (λ v. name_at v key) known ∙ name_at-called timers key ∙ ap called has.1

pub LacksName-called : (timers : Timers) (names : Names) (name : JobId) → names ≡ map called timers → ((key : ℕ) → name_at names key ≡ Some name → ⊥) → LacksName timers name
LacksName-called timers names name known none key has = none key (called-HasName timers names key name known has)

-- a key that has a timer is one of them
pub HasName-within : (timers : Timers) (key : ℕ) (name : JobId) → HasName timers key name → key < length timers
HasName-within timers key name has = ⊎_elim (λ below. below) (λ past. absurd (none_some (sym (get_or_past timers key None past) ∙ has.1))) (cases_lt key (length timers))

-- the keys that have a name after a key got a timer: that one, and others as before
Has-set : (timers : Timers) (key other : ℕ) (timer : Option Timer) (name : JobId) → other ≢ key → HasName (set timers key timer) other name → HasName timers other name
Has-set timers key other timer name apart has = (has.0, sym (get_or-set_other timers key other timer None apart) ∙ has.1)

-- names still have one timer each
pub HasOneEach-set : (timers : Timers) (key : ℕ) (name : JobId) (time : ℕ) → key < length timers → HasOneEach timers → HasName timers key name ⊎ ((timer_at timers key ≡ None) × LacksName timers name) → HasOneEach (set timers key (Some (record { name = name; time = time })))
HasOneEach-set timers key name time within once before = record {
  same = λ one other its first second.
      ⊎_elim
      (λ here.
      ⊎_elim (λ there. here ∙ sym there) (λ apart. absurd (alone other its apart (subst (λ k. HasName (set timers key new) k its) here first) second)) (cases_eq other key))
      (λ apart.
      ⊎_elim (λ there. absurd (alone one its apart (subst (λ k. HasName (set timers key new) k its) there second) first)) (λ differs. once.same one other its (Has-set timers key one new its apart first) (Has-set timers key other new its differs second)) (cases_eq other key))
      (cases_eq one key);
}
  where
    new : Option Timer
    new = Some (record { name = name; time = time })

    -- a name of the key isn't another key's
    alone : (other : ℕ) (its : JobId) → other ≢ key → HasName (set timers key new) key its → HasName (set timers key new) other its → ⊥
    alone other its apart here there =
        let named : name ≡ its = (same_timer _ _ (sym (get_or-set_same timers key new None within) ∙ here.1)).0 in
        let also : HasName timers other name = subst (λ n. HasName timers other n) (sym named) (Has-set timers key other new its apart there) in
        ⊎_elim (λ had. apart (once.same other key name also had)) (λ lacked. lacked.1 other also) before

pub HasOneEach-gone : (timers : Timers) (key : ℕ) → HasOneEach timers → HasOneEach (set timers key None)
HasOneEach-gone timers key once = record { same = λ one other its first second. once.same one other its (kept one its first) (kept other its second) }
  where
    kept : (one : ℕ) (its : JobId) → HasName (set timers key None) one its → HasName timers one its
    kept one its has =
        ⊎_elim
        (λ here.
        ⊎_elim
        (λ below. absurd (none_some (sym (get_or-set_same timers key None None below) ∙ ap (timer_at (set timers key None)) (sym here) ∙ has.1)))
        (λ past. subst (λ (v : Timers). HasName v one its) (set_past timers key None past) has)
        (cases_lt key (length timers)))
        (λ apart. Has-set timers key one None its apart has)
        (cases_eq one key)

-- after its one timer went no key has the name
pub LacksName-gone : (timers : Timers) (key : ℕ) (name : JobId) → HasOneEach timers → HasName timers key name → LacksName (set timers key None) name
LacksName-gone timers key name once had other has =
    ⊎_elim
    (λ here. none_some (sym (get_or-set_same timers key None None (HasName-within timers key name had)) ∙ ap (timer_at (set timers key None)) (sym here) ∙ has.1))
    (λ apart. apart (once.same other key name (Has-set timers key other None name apart has) had))
    (cases_eq other key)
