-- Which keys have a timer, and which timer is due first.
use Rattle.std.proofs.Common.{◌≡◌, ℕ, zero, suc, ◌<◌, ◌≤◌, length, Some, None, sym, ap, ◌∙◌, subst, ⊎_elim, arith}
use Rattle.std.specs.Prelude.{is_some, unwrap_or}
use Rattle.std.proofs.lemmas.Bool.{cases_eq, cases_lt}
use Rattle.std.proofs.lemmas.List.{length-map}
use Rattle.base_words.specs.declared.names.JobId.{JobId}
use Rattle.core_timers.specs.Timers.{Timer, timer_at, Has, IsVacant, IsFull, IsFrom}
use Rattle.core_timers.specs.Tables.{Table, key_at, time_at, row_of, place_of, shown, timers_of}
use Rattle.core_timers.specs.Heap.{above, IsPlaced, IsOrdered}
use Rattle.core_timers.proofs.Shown.{shown-some, shown-none, timer_at-shown, timer_at-past}

-- the key stands among those that are set, and its row and its place tell this timer
pub record Stands (count : ℕ) (t : Table) (key : ℕ) (name : JobId) (time : ℕ) : Type 0 where
  pub within : key < length t.rows
  pub set_there : place_of t key < count
  pub its_name : (row_of t key).name ≡ name
  pub its_time : time_at t (place_of t key) ≡ time

-- a timer that isn't told apart from another one is this one
pub same_timer : (one other : Timer) → Some one ≡ Some other → (one.name ≡ other.name) × (one.time ≡ other.time)
same_timer one other same = (ap (λ o. (unwrap_or o one).name) same, ap (λ o. (unwrap_or o one).time) same)

pub none_some : {timer : Timer} → None ≡ Some timer → ⊥
none_some same = cc

-- a key that has a timer stands so
pub Stands-has : (count : ℕ) (t : Table) (key : ℕ) (name : JobId) (time : ℕ) → Has (timers_of count t) key name time → Stands count t key name time
Stands-has count t key name time has =
    ⊎_elim
    (λ within.
    ⊎_elim
    (λ below.
    let same = same_timer _ _ (sym (timer_at-shown count t key within ∙ shown-some count t.heap (row_of t key) below) ∙ has) in
    record { within = within; set_there = below; its_name = same.0; its_time = same.1 })
    (λ behind. absurd (none_some (sym (timer_at-shown count t key within ∙ shown-none count t.heap (row_of t key) behind) ∙ has)))
    (cases_lt (place_of t key) count))
    (λ past. absurd (none_some (sym (timer_at-past count t key past) ∙ has)))
    (cases_lt key (length t.rows))

-- and one that stands among those that are set has it
pub Has-stands : (count : ℕ) (t : Table) (key : ℕ) → key < length t.rows → place_of t key < count → Has (timers_of count t) key (row_of t key).name (time_at t (place_of t key))
Has-stands count t key within below = timer_at-shown count t key within ∙ shown-some count t.heap (row_of t key) below

-- one that stands behind them has none
pub timer_at-behind : (count : ℕ) (t : Table) (key : ℕ) → count ≤ place_of t key → timer_at (timers_of count t) key ≡ None
timer_at-behind count t key behind =
    ⊎_elim
    (λ within. timer_at-shown count t key within ∙ shown-none count t.heap (row_of t key) behind)
    (λ past. timer_at-past count t key past)
    (cases_lt key (length t.rows))

-- the first place has the least time
least : (count : ℕ) (t : Table) → IsOrdered count t → (bound place : ℕ) → place < bound → place < count → time_at t 0 ≤ time_at t place
least count t order zero place below inside = absurd (omega (arith, below))
least count t order (suc bound) place below inside =
    ⊎_elim
    (λ first. let same : time_at t place ≡ time_at t 0 = ap (time_at t) first in omega (arith, same))
    (λ apart. omega (arith, order.rises place (omega (arith, apart)) inside, least count t order bound (above place) (omega (arith, below, apart)) (omega (arith, inside))))
    (cases_eq place 0)

pub IsFrom-first : (count : ℕ) (t : Table) → IsOrdered count t → IsFrom (time_at t 0) (timers_of count t)
IsFrom-first count t order key name due has =
    let stands = Stands-has count t key name due has in
    omega (arith, least count t order (suc (place_of t key)) (place_of t key) (omega arith) stands.set_there, stands.its_time)

-- the key at the first place has that timer
pub Has-first : (count : ℕ) (t : Table) → IsPlaced t → 0 < count → count ≤ length t.heap → Has (timers_of count t) (key_at t 0) (row_of t (key_at t 0)).name (time_at t 0)
Has-first count t is some within =
    let there = is.told 0 (omega (arith, some, within)) in
    subst (λ n. Has (timers_of count t) (key_at t 0) (row_of t (key_at t 0)).name (time_at t n)) there (Has-stands count t (key_at t 0) (omega (arith, is.long, is.keys 0 (omega (arith, some, within)))) (omega (arith, there, some)))

-- no key has one if none is set
pub IsVacant-none : (count : ℕ) (t : Table) → count ≡ 0 → IsVacant (timers_of count t)
IsVacant-none count t none key = timer_at-behind count t key (omega (arith, none))

pub none-IsVacant : (count : ℕ) (t : Table) → IsPlaced t → count ≤ length t.heap → IsVacant (timers_of count t) → count ≡ 0
none-IsVacant count t is within vacant =
    ⊎_elim
    (λ none. none)
    (λ some. absurd (none_some (sym (vacant (key_at t 0)) ∙ Has-first count t is (omega (arith, some)) within)))
    (cases_eq count 0)

-- each key has one if all places are taken
pub IsFull-all : (count : ℕ) (t : Table) → IsPlaced t → count ≡ length t.heap → IsFull (timers_of count t)
IsFull-all count t is all key below =
    let within : key < length t.rows = omega (arith, below, length-map t.rows (shown count t.heap)) in
    ap (λ o. is_some o) (Has-stands count t key within (omega (arith, all, is.places key (omega (arith, within, is.long)))))
