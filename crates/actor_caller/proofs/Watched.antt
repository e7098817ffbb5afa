-- Watchers, each beside the worker of its place.
use Rattle.std.proofs.Common.{◌≡◌, ℕ, ◌<◌, ◌≤◌, List, length, set, get_or, sym, ◌∙◌, ap, subst, arith}
use Rattle.std.proofs.lemmas.List.{get_or-set_same, get_or_default, length-map}
use Rattle.std.specs.Prelude.{Bool, true, false}
use Rattle.base_words.specs.declared.order.Order.{Order}
use Rattle.base_words.specs.declared.order.Outcome.{Outcome}
use Rattle.base_words.specs.Journal.{Journal}
use Rattle.run_watch.specs.Growth.{Grows}
use Rattle.run_watch.specs.declared.watcher.Watching.{Watching}
use Rattle.actor_caller.specs.State.{RuntimeView}
use Rattle.actor_caller.specs.Stored.{IsHeld}
use Rattle.actor_caller.specs.Teams.{TeamView}
use Rattle.actor_caller.specs.Watching.{AreWatched, Watches, no_watch, watch_at}

-- a caller has a watcher for each worker
pub watch_count : {J T : Type 0} (watchers : List Watching) (team : TeamView J T) → AreWatched team watchers → length watchers ≡ length team.workers
watch_count watchers team are = sym (length-map watchers (λ (watcher : Watching). watcher.board)) ∙ (ap length are.boards_are ∙ are.boards)

-- it is a runtime as before, whatever was seen
pub held_watched : {J S : Type 0} {fits : Order J → Outcome J ℕ → Type 0} {has : S → Journal ℕ} {refused : S → ℕ → Type 0} (view : RuntimeView J ℕ) (watched : List Watching) {cores cap : ℕ} (sink : S) → IsHeld fits has refused view cores cap sink →
    IsHeld fits has refused (record view { watched = watched }) cores cap sink
held_watched view watched sink held =
    let is = held.runtime in
    record {
      runtime = record {
        count = is.count;
        each = is.each;
        actor = is.actor;
        outside = is.outside;
        grid = is.grid;
        closings = is.closings;
        bells = is.bells;
        lanes = is.lanes;
        lanes_are = is.lanes_are;
        room_is = is.room_is;
        places = is.places;
        limits = is.limits;
      };
      cores_are = held.cores_are;
      cap_is = held.cap_is;
      has_passed = held.has_passed;
      refusal = held.refusal;
    }

-- a look of the watcher at one place
module _ {J T : Type 0} (old : RuntimeView J T) (core : ℕ) (low : core < length old.watched) (before after : Watching) (found : Bool) (at : before ≡ get_or old.watched core before) where
  was : watch_at core old.watched ≡ before
  was = sym (at ∙ get_or_default old.watched core before no_watch low)

  now : watch_at core (set old.watched core after) ≡ after
  now = get_or-set_same old.watched core after no_watch low

  pub watches : after.board ≡ before.board → after.terms ≡ before.terms → Grows before.notes after.notes → before.count ≤ after.count → (before.closed ≡ true → after.closed ≡ true) → (found ≡ false → after.notes ≡ before.notes) →
      (found ≡ false → (after.count ≡ before.count) × (after.closed ≡ before.closed)) → Watches core old found (record old { watched = set old.watched core after })
  watches board terms grows counted told none kept = record {
    board = ap (λ (watcher : Watching). watcher.board) now ∙ (board ∙ ap (λ (watcher : Watching). watcher.board) (sym was));
    terms_are = ap (λ (watcher : Watching). watcher.terms) now ∙ (terms ∙ ap (λ (watcher : Watching). watcher.terms) (sym was));
    grows = subst (λ (watcher : Watching). Grows watcher.notes (watch_at core (set old.watched core after)).notes) (sym was) (subst (λ (watcher : Watching). Grows before.notes watcher.notes) (sym now) grows);
    counted = omega (arith, counted, ap (λ (watcher : Watching). watcher.count) was, ap (λ (watcher : Watching). watcher.count) now);
    told = λ before_told. ap (λ (watcher : Watching). watcher.closed) now ∙ told (ap (λ (watcher : Watching). watcher.closed) (sym was) ∙ before_told);
    none = λ vain. ap (λ (watcher : Watching). watcher.notes) now ∙ (none vain ∙ ap (λ (watcher : Watching). watcher.notes) (sym was));
    kept = λ vain. (
      ap (λ (watcher : Watching). watcher.count) now ∙ ((kept vain).0 ∙ ap (λ (watcher : Watching). watcher.count) (sym was)),
      ap (λ (watcher : Watching). watcher.closed) now ∙ ((kept vain).1 ∙ ap (λ (watcher : Watching). watcher.closed) (sym was)),
    );
    rest = ap (λ (watcher : Watching). record old { watched = set old.watched core watcher }) (sym now);
  }

-- the same of a core and over a runtime as they were seen
pub watches_as : {J T : Type 0} (old seen new : RuntimeView J T) (at core : ℕ) (found : Bool) → old ≡ seen → at ≡ core → Watches at old found new → Watches core seen found new
watches_as {J} {T} old seen new at core found same here watched = subst (λ core. Watches core seen found new) here (subst (λ (seen : RuntimeView J T). Watches at seen found new) same watched)
