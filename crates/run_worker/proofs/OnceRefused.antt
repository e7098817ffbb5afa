-- A small worker that lies down without having published is refused.
use Rattle.run_worker.proofs.Names.{ap, arith, CountsIdle, GoesOn, Grows, inl, inr, JobId, Journal, length, LooksAtAll, LooksOrRests, MakesRound, Meaning, refl, Rests, round_of, RoundView, ServedView, ServesOnce, ShownView, Shows, ShowsNow}
use Rattle.run_worker.proofs.Names.{StepsServed, subst, sym, true≢false, TurnsAlone, ℕ, [], ◌++◌, ◌<◌, ◌∙◌, ◌≡◌, ◌≤◌}
use Rattle.std.proofs.Common.{nat_lt, Bool, Option, true, false, length-append}
use Rattle.run_worker.proofs.ServesRefused.{never, silent, taker}
use Rattle.run_worker.proofs.Lives.{where_shown}
use Rattle.run_worker.proofs.Looked.{look_steps, peeks_served}
use Rattle.run_worker.proofs.SmallWorkers.{SmallWorker, board_of, linked_of, one_note, small_worker}
use Rattle.run_worker.proofs.Supplied.{where_notes}

-- how many notes its journal has
abbrev count_of : ServedView ℕ ℕ → ℕ
count_of view = length view.linked.recorded.journal.notes

-- no step makes a journal shorter
grown : (old new : Journal ℕ) → Grows old new → length old ≤ length new
grown old new (newer, same) = let longer : length new ≡ length (newer ++ old) = ap (λ (notes : Journal ℕ). length notes) same in omega (arith, longer, length-append newer old)

-- a worker that isn't at its end wasn't there before
is_open : (was is : Bool) → (was ≡ true → is ≡ true) → is ≡ false → was ≡ false
is_open true is ended open_now = absurd (true≢false (sym (ended refl) ∙ open_now))
is_open false is ended open_now = refl

-- a step that tells of work wrote a note
wrote : {most : ℕ} (old new : ServedView ℕ ℕ) → StepsServed most old true new → new.ending ≡ false → count_of old < count_of new
wrote old new steps open_now = steps.tells (open_now ∙ sym (is_open old.ending new.ending steps.ended open_now))

module _ (meaning : Meaning ℕ ℕ) (sleeps : ℕ → Option ℕ) (reads : ℕ → ℕ → ℕ → Type 0) (asked : ℕ → ℕ → JobId → ℕ → Type 0) where
  look_wrote : (old new : RoundView ℕ ℕ ℕ ℕ) → LooksAtAll meaning sleeps reads asked old true new → new.served.ending ≡ false → count_of old.served < count_of new.served
  look_wrote old new looks open_now = wrote old.served new.served (look_steps meaning sleeps reads asked old new true looks) open_now

  -- no turn is told as work without a note
  alone_keeps : (some : Bool) (old new : RoundView ℕ ℕ ℕ ℕ) → TurnsAlone meaning sleeps reads asked old some new → count_of old.served ≤ count_of new.served
  alone_keeps some old new (inl (_, _, same)) = let count = ap (λ (view : RoundView ℕ ℕ ℕ ℕ). count_of view.served) same in omega (arith, count)
  alone_keeps some old new (inr (_, _, steps, _)) = grown _ _ steps.stays.grows

  rests_or_wrote : (was_idle : Bool) (old new : RoundView ℕ ℕ ℕ ℕ) → LooksOrRests meaning sleeps reads asked was_idle old true new → new.served.ending ≡ false → count_of old.served < count_of new.served
  rests_or_wrote was_idle old new (peeked, peeks, inl looks) open_now =
      subst (λ (served : ServedView ℕ ℕ). count_of served < count_of new.served) (peeks_served meaning sleeps reads asked old peeked peeks) (look_wrote peeked new looks open_now)
  rests_or_wrote was_idle old new (peeked, peeks, inr (_, _, _, none, _)) open_now = absurd (true≢false none)

  -- a round that tells of work wrote a note
  round_wrote : (was_idle : Bool) (old new : RoundView ℕ ℕ ℕ ℕ) → MakesRound meaning sleeps reads asked was_idle old true new → new.served.ending ≡ false → count_of old.served < count_of new.served
  round_wrote was_idle old new (inl (_, inl (_, none, _))) open_now = absurd (true≢false none)
  round_wrote was_idle old new (inl (_, inr (_, _, steps, _))) open_now = wrote old.served new.served steps open_now
  round_wrote was_idle old new (inr (middle, alone, looks)) open_now =
      omega (arith, alone_keeps false old middle alone, rests_or_wrote was_idle middle new looks open_now)

  -- a worker that tries no round more, whose one note was passed on and isn't published
  abbrev unpublished : SmallWorker
  unpublished = small_worker (linked_of one_note one_note 1000) one_note 0

  -- it goes on without a note
  goes_on_idle : GoesOn meaning sleeps reads asked (taker never silent) unpublished true unpublished → ⊥
  goes_on_idle goes = counted goes.some goes.makes goes.counts
    where
      same : length goes.ready.linked.recorded.journal.notes ≡ 1
      same = ap (λ (notes : Journal ℕ). length notes) (where_notes (taker never silent) _ unpublished goes.ready goes.hands)

      counted : (some : Bool) → MakesRound meaning sleeps reads asked (nat_lt 0 goes.ready.idle) (round_of goes.ready) some (round_of unpublished) → CountsIdle goes.ready.tries some goes.ready.idle true 0 → ⊥
      counted true makes counts = omega (arith, same, round_wrote _ (round_of goes.ready) (round_of unpublished) makes refl)
      counted false makes counts = omega (arith, counts.0, goes.keeps.tries)

  look_keeps : (some : Bool) (old new : RoundView ℕ ℕ ℕ ℕ) → LooksAtAll meaning sleeps reads asked old some new → count_of old.served ≤ count_of new.served
  look_keeps some old new looks = grown _ _ (look_steps meaning sleeps reads asked old new some looks).stays.grows

  -- it sleeps, and its note isn't published
  sleeps_unpublished : (tired told : SmallWorker) (found : Bool) → tired.shown ≡ board_of [] 0 → ShowsNow tired told → Rests meaning sleeps reads asked (taker never silent) told found unpublished → ⊥
  sleeps_unpublished tired told found was shows rests = is_told shows.shows
    where
      count : 0 ≡ told.shown.count
      count = ap (λ (shown : ShownView ℕ). shown.count) (rests.keeps.shown ∙ where_shown (taker never silent) _ told rests.ready rests.hands)

      few : length tired.linked.recorded.journal.notes ≤ 1
      few =
          let kept = ap (λ (notes : Journal ℕ). length notes) (where_notes (taker never silent) _ told rests.ready rests.hands) in
          let still = ap (λ (worker : SmallWorker). length worker.linked.recorded.journal.notes) shows.rest in
          omega (arith, kept, still, look_keeps _ (round_of rests.ready) (round_of unpublished) rests.looks)

      is_told : Shows tired.linked.recorded.journal.notes tired.shown told.shown → ⊥
      is_told (inl did) = let next = ap (λ (shown : ShownView ℕ). shown.count) did in omega (arith, count, next)
      is_told (inr (inl many, same)) = let none = ap (λ (shown : ShownView ℕ). shown.count) was in omega (arith, none, many)
      is_told (inr (inr many, same)) = omega (arith, few, many)

  -- it goes on without a note, or lies down without having published
  stays_unpublished : ServesOnce meaning sleeps reads asked (taker never silent) unpublished unpublished → ⊥
  stays_unpublished (inl goes) = goes_on_idle goes
  stays_unpublished (inr (tired, goes, (told, shows, (found, rests)))) =
      sleeps_unpublished tired told found (goes.keeps.shown ∙ where_shown (taker never silent) _ unpublished goes.ready goes.hands) shows rests
