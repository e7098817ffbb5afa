-- Looks of a small worker that are refused: gates that stay open, orders that are left, turns that are made up, too many notes.
use Rattle.run_worker.proofs.Names.{ap, arith, BellsView, HasShutGates, inl, inr, IsHeard, JobId, Journal, kept_behind, leaves_turns, LooksAgain, LooksAtAll, Meaning, None, Option, refl, replicate, round_most, round_view, RoundView}
use Rattle.run_worker.proofs.Names.{ServedView, ShutsClosed, Some, subst, turns_after, watch_view, WatchView, WritesFew, ℕ, [], ◌||◌, ◌∷◌, ◌∙◌, ◌≡◌}
use Rattle.std.proofs.Common.{Bool, true, false}
use Rattle.base_words.specs.declared.note.Note.TheVariants.{CoreClosed, Created, Shut}
use Rattle.base_words.specs.declared.order.Mode.TheVariants.{Return}
use Rattle.run_worker.proofs.LinksRefused.{hearing, noted}

-- the core is closed, and the gate of core 0 is shut, but not that of the outside actor
abbrev half_shut : Journal ℕ
half_shut = Shut 0 0 ∷ CoreClosed Return ∷ []

gate_stays_open : HasShutGates 2 (noted half_shut) → ⊥
gate_stays_open shut = let gate = shut refl 1 (omega arith) (λ is. omega (arith, is)) in cc

-- a look behind the close leaves it open
look_leaves_a_gate : ShutsClosed 2 (noted (CoreClosed Return ∷ [])) (noted half_shut) → ⊥
look_leaves_a_gate shuts = let gate = shuts refl 1 (omega arith) (λ is. omega (arith, is)) in cc

-- of two orders that an end has seen none is delivered
hears_nobody : IsHeard 0 (hearing 0) (hearing 0) → ⊥
hears_nobody (inl all) = omega (arith, all)
hears_nobody (inr some) = omega (arith, some)

-- a round of a core with one sender and one place in each link writes 33 notes
writes_too_much : WritesFew (round_most (record { linked = noted []; ending = false })) (record { linked = noted []; ending = false }) (record { linked = noted (replicate 33 (Created 1 900)); ending = false }) → ⊥
writes_too_much few = let wrote = few.wrote refl in omega (arith, wrote)

-- 24 turns are left behind a look that leaves turns, and none behind another
are_other_turns : (leaves : Bool) → 5 ≡ turns_after leaves → ⊥
are_other_turns true five = omega (arith, five)
are_other_turns false five = omega (arith, five)

-- none is left in a closed core to which something came
none_is_left : (worked back : Bool) → 24 ≡ turns_after (leaves_turns worked (true || back) true) → ⊥
none_is_left true back some = omega (arith, some)
none_is_left false back some = omega (arith, some)

-- where no turn was made no reading is kept
is_kept : (worked came : Bool) (last : Option ℕ) → false ≡ (worked || came) → Some 3 ≡ kept_behind worked last → ⊥
is_kept true came last told is = cc (told)
is_kept false came last told is = cc (is)

-- where neither of two things was found, the second wasn't
found_none : (woke found : Bool) → false ≡ (woke || found) → false ≡ found
found_none true found none = cc (none)
found_none false found none = none

module _ (meaning : Meaning ℕ ℕ) (sleeps : ℕ → Option ℕ) (reads : ℕ → ℕ → ℕ → Type 0) (asked : ℕ → ℕ → JobId → ℕ → Type 0) where
  -- a look leaves five turns
  leaves_five_turns : (old : RoundView ℕ ℕ ℕ ℕ) (served : ServedView ℕ ℕ) (watch : WatchView ℕ) (some : Bool) → LooksAtAll meaning sleeps reads asked old some (round_view served [] watch 0 5) → ⊥
  leaves_five_turns old served watch some looks = are_other_turns _ looks.looks.plans

  -- a look to which something came leaves turns though its core is closed, so that its gates stay open
  passes_its_gates : (old : RoundView ℕ ℕ ℕ ℕ) (some : Bool) (looks : LooksAtAll meaning sleeps reads asked old some (round_view (record { linked = noted half_shut; ending = false }) [] (watch_view 0 None 0) 0 24)) → looks.looks.came ≡ true → ⊥
  passes_its_gates old some looks came = none_is_left looks.looks.worked looks.looks.back (subst (λ one. 24 ≡ turns_after (leaves_turns looks.looks.worked (one || looks.looks.back) true)) came looks.looks.plans)

  -- the time of polls isn't counted anew behind a look
  keeps_the_time : (old : RoundView ℕ ℕ ℕ ℕ) (served : ServedView ℕ ℕ) (some : Bool) (turns : ℕ) → LooksAtAll meaning sleeps reads asked old some (round_view served [] (watch_view 0 None 7) 0 turns) → ⊥
  keeps_the_time old served some turns looks = let taken = ap (λ (watch : WatchView ℕ). watch.taken) looks.looks.forgets in omega (arith, taken)

  -- a look behind which a worker sleeps keeps the reading, so that the next poll pays for the sleep
  sleep_is_charged : (old : RoundView ℕ ℕ ℕ ℕ) (served : ServedView ℕ ℕ) (turns : ℕ) → LooksAtAll meaning sleeps reads asked old false (round_view served [] (watch_view 0 (Some 3) 0) 0 turns) → ⊥
  sleep_is_charged old served turns looks = is_kept looks.looks.worked _ looks.looks.timed.last (found_none looks.woke looks.found looks.tells ∙ looks.looks.tells) (ap (λ (watch : WatchView ℕ). watch.last) looks.looks.forgets)

  -- it parks behind two looks, or behind none
  looks_twice : (bells rung : BellsView) (old new : RoundView ℕ ℕ ℕ ℕ) (some : Bool) → LooksAgain meaning sleeps reads asked 3 bells old some 5 rung new → ⊥
  looks_twice bells rung old new some looks = let counts : 5 ≡ 4 = looks.counts in omega (arith, counts)

  never_looks : (bells rung : BellsView) (old new : RoundView ℕ ℕ ℕ ℕ) (some : Bool) → LooksAgain meaning sleeps reads asked 3 bells old some 3 rung new → ⊥
  never_looks bells rung old new some looks = let counts : 3 ≡ 4 = looks.counts in omega (arith, counts)
