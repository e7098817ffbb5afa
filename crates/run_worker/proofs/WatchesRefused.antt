-- Turns that are left out, and watches behind a poll, that are refused.
use Rattle.run_worker.proofs.Names.{ap, arith, BeginsNext, false, inl, inr, None, PassesLinks, refl, Some, TimesNext, watch_view, WatchView, ℕ, ◌+◌, ◌<◌, ◌≡◌, ◌≤◌}
use Rattle.std.specs.Prelude.{◌⊎◌}

is_early : (turns taken : ℕ) → 0 < turns → taken < 2000 → (turns ≡ 0) ⊎ (2000 ≤ taken) → ⊥
is_early turns taken some short (inl none) = omega (arith, some, none)
is_early turns taken some short (inr long) = omega (arith, short, long)

-- five turns are left, no poll took time, and no turn is made
turn_is_left_out : PassesLinks 0 5 false 5 → ⊥
turn_is_left_out passes = is_early 5 0 (omega arith) (omega arith) passes.0

-- a clock that tells how often it was read
abbrev tells_next : ℕ → ℕ → ℕ → Type 0
tells_next clock told after = (told ≡ clock) × (after ≡ clock + 1)

-- a poll behind a sleep: the clock is read twice, and the poll is counted
is_timed : TimesNext tells_next (watch_view 0 None 7) 1 (watch_view 2 (Some 1) 8)
is_timed = (watch_view 1 (Some 0) 7, inr (refl, (0, (refl, refl), refl)), record { told = 1; is_read = (refl, refl); took = refl; keeps = refl; counts = refl })

-- a poll right behind one that ended at 1: it is read once
goes_on : TimesNext tells_next (watch_view 4 (Some 1) 7) 3 (watch_view 5 (Some 4) 10)
goes_on = (watch_view 4 (Some 1) 7, inl (refl, refl), record { told = 4; is_read = (refl, refl); took = refl; keeps = refl; counts = refl })

-- where a reading was kept, a poll begins with it, and the clock stays as it is
begun_kept : (clock last taken : ℕ) (begun : WatchView ℕ) → BeginsNext tells_next (watch_view clock (Some last) taken) begun → begun ≡ watch_view clock (Some last) taken
begun_kept clock last taken begun (inl kept) = kept.1
begun_kept clock last taken begun (inr fresh) = cc (fresh.0)

-- then it isn't read once more
reads_before_each_poll : TimesNext tells_next (watch_view 4 (Some 1) 7) 1 (watch_view 6 (Some 5) 8) → ⊥
reads_before_each_poll times =
    let clock = ap (λ watch. watch.clock) (begun_kept 4 1 7 times.0 times.1) in
    omega (arith, clock, times.2.is_read.1)

-- the next poll doesn't begin where this one began
start_stays : TimesNext tells_next (watch_view 4 (Some 1) 7) 3 (watch_view 5 (Some 1) 10) → ⊥
start_stays times =
    let clock = ap (λ watch. watch.clock) (begun_kept 4 1 7 times.0 times.1) in
    let told : 1 ≡ times.2.told = cc (times.2.keeps) in
    omega (arith, clock, told, times.2.is_read.0)

-- the poll isn't counted, or it is counted twice
is_not_counted : TimesNext tells_next (watch_view 4 (Some 1) 7) 3 (watch_view 5 (Some 4) 7) → ⊥
is_not_counted times =
    let taken = ap (λ watch. watch.taken) (begun_kept 4 1 7 times.0 times.1) in
    omega (arith, taken, times.2.counts)

is_counted_twice : TimesNext tells_next (watch_view 4 (Some 1) 7) 3 (watch_view 5 (Some 4) 13) → ⊥
is_counted_twice times =
    let taken = ap (λ watch. watch.taken) (begun_kept 4 1 7 times.0 times.1) in
    omega (arith, taken, times.2.counts)
