-- Watches that are refused: one that finds nothing and sees more, one that forgets, one that closes a core, and one that saw what no journal tells; and closings
-- that are told wrongly.
use Rattle.std.proofs.Common.{◌≡◌, ℕ, ◌<◌, [], ◌∷◌, length, ap, refl, sym, ◌∙◌, arith, length-append}
use Rattle.std.specs.Prelude.{◌==◌, if◌then◌else◌, Bool, true, false, Some, None}
use Rattle.base_words.specs.declared.note.Note.{Note}
use Rattle.base_words.specs.Assembly.{Assembly, journal_of}
use Rattle.base_words.specs.Journal.{Journal}
use Rattle.run_watch.specs.declared.watcher.Watching.{Watching}
use Rattle.run_watch.specs.Closed.{closed_by_itself}
use Rattle.run_watch.specs.Growth.{Grows}
use Rattle.actor_caller.specs.State.{RuntimeView}
use Rattle.actor_caller.specs.Watching.{IsToldRightly, SawBeginnings, Watches, closing_told, watch_at}

-- nothing begins with more than it has
shrinks : (note : Note ℕ) (old new : Journal ℕ) → Grows old new → old ≡ note ∷ [] → new ≡ [] → ⊥
shrinks note old new grows one none =
    let long = ap length (sym none ∙ grows.1) in
    let sum = length-append grows.0 old in
    let one_note = ap length one in
    omega (arith, long, sum, one_note)

module _ {J T : Type 0} (core : ℕ) (old new : RuntimeView J T) (found : Bool) (note : Note ℕ) where
  -- nothing was found, and a note more is seen
  more_refused : Watches core old false new → (watch_at core new.watched).notes ≡ note ∷ (watch_at core old.watched).notes → ⊥
  more_refused watches more =
      let long = ap length (sym more ∙ watches.none refl) in
      omega (arith, long)

  -- a note was seen, and isn't seen any more
  forgets_refused : Watches core old found new → (watch_at core old.watched).notes ≡ note ∷ [] → (watch_at core new.watched).notes ≡ [] → ⊥
  forgets_refused watches one none = shrinks note _ _ watches.grows one none

  -- it was told that the core closed by itself, and isn't told any more
  untells_refused : Watches core old found new → (watch_at core old.watched).closed ≡ true → (watch_at core new.watched).closed ≡ false → ⊥
  untells_refused watches was is = let still = watches.told was in absurd cc

  -- an earlier publication is seen
  earlier_refused : Watches core old found new → (watch_at core old.watched).count ≡ 5 → (watch_at core new.watched).count ≡ 4 → ⊥
  earlier_refused watches was is = omega (arith, watches.counted, was, is)

  -- a core is closed by it
  closes_refused : Watches core old found new → old.closing ≡ false ∷ [] → new.closing ≡ true ∷ [] → ⊥
  closes_refused watches was is = let same = ap (λ view. view.closing) watches.rest in absurd cc

-- a note was seen, and the journal of its core tells none
unseen_refused : {J : Type 0} (view : RuntimeView J ℕ) (assembly : Assembly ℕ) (core : ℕ) (note : Note ℕ) → core < view.desk.cores → (watch_at core view.watched).notes ≡ note ∷ [] →
    journal_of core assembly ≡ [] → SawBeginnings view assembly → ⊥
unseen_refused view assembly core note there seen none saw = shrinks note _ _ (saw core there) seen none

-- a publication was seen, and nothing is told
silent_refused : (watch : Watching) → watch.count ≡ 1 → None ≡ closing_told watch → ⊥
silent_refused watch one silent =
    let told : None ≡ Some watch.closed = silent ∙ ap (λ (count : ℕ). if count == 0 then None else Some watch.closed) one in
    absurd cc

-- it is told that the core closed by itself, and the notes that were seen tell nothing of it
false_refused : (watch : Watching) → closed_by_itself watch.notes ≡ false → IsToldRightly watch (Some true) → ⊥
false_refused watch none rightly = let tells = rightly refl in absurd cc
