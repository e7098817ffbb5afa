-- The timers of a table, key by key.
use Rattle.std.proofs.Common.{◌≡◌, ℕ, ◌+◌, ◌<◌, ◌≤◌, ◌≢◌, List, length, set, Option, Some, None, cond, ltb, sym, ap, ◌∙◌, ⊎_elim, arith}
use Rattle.std.proofs.lemmas.Bool.{cases_eq, cases_lt, lt-ltb, le-ltb, cond-true, cond-false}
use Rattle.std.proofs.lemmas.List.{get_or-map, get_or_past, get_or-set_same, get_or-set_other, ext_get_or, length-map, length-set}
use Rattle.core_timers.specs.declared.row.Row.{Row}
use Rattle.core_timers.specs.declared.row.Slot.{Slot}
use Rattle.core_timers.specs.Timers.{Timer, timer_at}
use Rattle.core_timers.specs.Tables.{Table, no_row, row_of, due_at, shown, timers_of}

-- a key has a timer that stands among those that are set, and the time of its place
pub shown-some : (count : ℕ) (heap : List Slot) (row : Row) → row.at < count → shown count heap row ≡ Some (record { name = row.name; time = due_at heap row.at })
shown-some count heap row below = cond-true (ltb row.at count) (Some (record { name = row.name; time = due_at heap row.at })) None (lt-ltb row.at count below)

pub shown-none : (count : ℕ) (heap : List Slot) (row : Row) → count ≤ row.at → shown count heap row ≡ None
shown-none count heap row behind = cond-false (ltb row.at count) (Some (record { name = row.name; time = due_at heap row.at })) None (le-ltb row.at count behind)

-- a row and a heap that tell the same show the same
pub shown-same : (count : ℕ) (t u : Table) (row now : Row) → row.at < count → now.at < count → now.name ≡ row.name → due_at u.heap now.at ≡ due_at t.heap row.at → shown count u.heap now ≡ shown count t.heap row
shown-same count t u row now below also name time =
    let alike : Some (record { name = now.name; time = due_at u.heap now.at }) ≡ Some (record { name = row.name; time = due_at t.heap row.at }) = λ i. Some (record { name = name i; time = time i }) in
    shown-some count u.heap now also ∙ alike ∙ sym (shown-some count t.heap row below)

-- and so do a row and a heap that tell it of one place
pub shown-alike : (count : ℕ) (t u : Table) (row now : Row) → now.at ≡ row.at → now.name ≡ row.name → due_at u.heap now.at ≡ due_at t.heap row.at → shown count u.heap now ≡ shown count t.heap row
shown-alike count t u row now at name time = λ i. cond (ltb (at i) count) (Some (record { name = name i; time = time i })) None

-- a row shows the same if it stands among one more or one less, but isn't the last of them
pub shown-count : (last : ℕ) (heap : List Slot) (row : Row) → row.at ≢ last → shown last heap row ≡ shown (last + 1) heap row
shown-count last heap row apart =
    ⊎_elim
    (λ below. shown-some last heap row below ∙ sym (shown-some (last + 1) heap row (omega (arith, below))))
    (λ behind. shown-none last heap row behind ∙ sym (shown-none (last + 1) heap row (omega (arith, behind, apart))))
    (cases_lt row.at last)

-- what a caller sees of a key
pub timer_at-shown : (count : ℕ) (t : Table) (key : ℕ) → key < length t.rows → timer_at (timers_of count t) key ≡ shown count t.heap (row_of t key)
timer_at-shown count t key within = get_or-map (shown count t.heap) t.rows key no_row None within

pub timer_at-past : (count : ℕ) (t : Table) (key : ℕ) → length t.rows ≤ key → timer_at (timers_of count t) key ≡ None
timer_at-past count t key past = get_or_past (timers_of count t) key None (omega (arith, past, length-map t.rows (shown count t.heap)))

-- two tables of which each key shows the same
pub timers_of-same : (count later : ℕ) (t u : Table) → length u.rows ≡ length t.rows → ((key : ℕ) → key < length t.rows → shown later u.heap (row_of u key) ≡ shown count t.heap (row_of t key)) → timers_of later u ≡ timers_of count t
timers_of-same count later t u long same =
    ext_get_or None (timers_of later u) (timers_of count t) (length-map u.rows (shown later u.heap) ∙ long ∙ sym (length-map t.rows (shown count t.heap)))
    (λ key below.
    let within : key < length t.rows = omega (arith, below, long, length-map u.rows (shown later u.heap)) in
    let also : key < length u.rows = omega (arith, within, long) in
    timer_at-shown later u key also ∙ same key within ∙ sym (timer_at-shown count t key within))

-- two tables of which each key but one shows the same
pub timers_of-but : (count later : ℕ) (t u : Table) (one : ℕ) (timer : Option Timer) → length u.rows ≡ length t.rows → one < length t.rows → shown later u.heap (row_of u one) ≡ timer
    → ((key : ℕ) → key < length t.rows → key ≢ one → shown later u.heap (row_of u key) ≡ shown count t.heap (row_of t key)) → timers_of later u ≡ set (timers_of count t) one timer
timers_of-but count later t u one timer long inside here same =
    ext_get_or None (timers_of later u) (set (timers_of count t) one timer) (length-map u.rows (shown later u.heap) ∙ long ∙ sym (length-map t.rows (shown count t.heap)) ∙ sym (length-set (timers_of count t) one timer))
    (λ key below.
    let within : key < length t.rows = omega (arith, below, long, length-map u.rows (shown later u.heap)) in
    let also : key < length u.rows = omega (arith, within, long) in
    let wide : one < length (timers_of count t) = omega (arith, inside, length-map t.rows (shown count t.heap)) in
    ⊎_elim
    (λ is. timer_at-shown later u key also ∙ ap (λ k. shown later u.heap (row_of u k)) is ∙ here ∙ sym (get_or-set_same (timers_of count t) one timer None wide) ∙ ap (timer_at (set (timers_of count t) one timer)) (sym is))
    (λ apart. timer_at-shown later u key also ∙ same key within apart ∙ sym (timer_at-shown count t key within) ∙ sym (get_or-set_other (timers_of count t) one key timer None apart))
    (cases_eq key one))
