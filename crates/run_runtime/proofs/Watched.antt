-- Watchers beside the workers of their places, which have ended.
use Rattle.std.proofs.Common.{◌≡◌, ◌≢◌, ℕ, ◌+◌, ◌<◌, List, [], length, map, set, get_or, sym, ◌∙◌, ap, subst, arith, ⊎_elim}
use Rattle.std.proofs.lemmas.Bool.{cases_eq}
use Rattle.std.proofs.lemmas.List.{get_or-map, get_or_default, length-map, set-get_or}
use Rattle.run_watch.specs.Growth.{Grows}
use Rattle.run_watch.specs.declared.watcher.Watching.{Watching}
use Rattle.run_worker.specs.Ended.{EndedView}
use Rattle.actor_seat.specs.Linked.{LinkedView}
use Rattle.actor_seat.specs.Together.{no_linked, worker_at}
use Rattle.actor_caller.specs.Watching.{no_watch, watch_at}

module _ {J S : Type 0} (ended : List (EndedView J ℕ S)) (watchers : List Watching) (boards : map (λ (watcher : Watching). watcher.board) watchers ≡ map (λ (worker : EndedView J ℕ S). worker.shown.board) ended) where
  -- there are as many
  pub as_many : length watchers ≡ length ended
  as_many = sym (length-map watchers (λ (watcher : Watching). watcher.board)) ∙ (ap length boards ∙ length-map ended (λ (worker : EndedView J ℕ S). worker.shown.board))

  module _ (core : ℕ) (low : core < length ended) (worker : EndedView J ℕ S) (watcher : Watching) (its : worker ≡ get_or ended core worker) (seen : watcher ≡ get_or watchers core watcher) where
    there : core < length watchers
    there = omega (arith, as_many, low)

    -- the boards at a place are the same
    pub same_board : watcher.board ≡ worker.shown.board
    same_board =
        ap (λ (watcher : Watching). watcher.board) seen
        ∙ (sym (get_or-map (λ (watcher : Watching). watcher.board) watchers core watcher [] there)
        ∙ (ap (λ boards. get_or boards core []) boards
        ∙ (get_or-map (λ (worker : EndedView J ℕ S). worker.shown.board) ended core worker [] low
        ∙ ap (λ (worker : EndedView J ℕ S). worker.shown.board) (sym its))))

    -- what the watcher at a place saw, and the journal there
    pub grows_there : Grows watcher.notes worker.linked.recorded.journal.notes → Grows (watch_at core watchers).notes (worker_at core (map (λ (worker : EndedView J ℕ S). worker.linked) ended)).recorded.journal.notes
    grows_there grows =
        let its_linked : worker.linked ≡ worker_at core (map (λ (worker : EndedView J ℕ S). worker.linked) ended) =
        ap (λ (worker : EndedView J ℕ S). worker.linked) its ∙ sym (get_or-map (λ (worker : EndedView J ℕ S). worker.linked) ended core worker no_linked low) in
        let its_watch : watcher ≡ watch_at core watchers = seen ∙ get_or_default watchers core watcher no_watch there in
        subst (λ (linked : LinkedView J ℕ). Grows (watch_at core watchers).notes linked.recorded.journal.notes) its_linked (subst (λ (watcher : Watching). Grows watcher.notes worker.linked.recorded.journal.notes) its_watch grows)

-- a list in which an item is put at its own place
pub put_same : {A : Type 0} (items : List A) (place : ℕ) (old new : A) → old ≡ get_or items place old → new ≡ old → set items place new ≡ items
put_same items place old new at same = ap (set items place) (same ∙ at) ∙ set-get_or items place old

-- the first workers were compared with their watchers, and both are as they were
pub record IsComparing {J S : Type 0} (ended now : List (EndedView J ℕ S)) (watchers later : List Watching) (count : ℕ) : Type 0 where
  pub ended_are : now ≡ ended
  pub watchers_are : later ≡ watchers
  pub grows : (core : ℕ) → core < count → Grows (watch_at core watchers).notes (worker_at core (map (λ (worker : EndedView J ℕ S). worker.linked) ended)).recorded.journal.notes

pub comparing_more : {J S : Type 0} (ended now next : List (EndedView J ℕ S)) (watchers later last : List Watching) (count : ℕ) → IsComparing ended now watchers later count → next ≡ now → last ≡ later →
    Grows (watch_at count later).notes (worker_at count (map (λ (worker : EndedView J ℕ S). worker.linked) now)).recorded.journal.notes → IsComparing ended next watchers last (count + 1)
comparing_more {J} {S} ended now next watchers later last count was same stays grows = record {
  ended_are = same ∙ was.ended_are;
  watchers_are = stays ∙ was.watchers_are;
  grows = λ core low. ⊎_elim
      (λ (here : core ≡ count). rw here
      (subst (λ ended. Grows (watch_at count watchers).notes (worker_at count (map (λ (worker : EndedView J ℕ S). worker.linked) ended)).recorded.journal.notes) was.ended_are
      (subst (λ watchers. Grows (watch_at count watchers).notes (worker_at count (map (λ (worker : EndedView J ℕ S). worker.linked) now)).recorded.journal.notes) was.watchers_are grows)))
      (λ (before : core ≢ count). was.grows core (omega (arith, low, before)))
      (cases_eq core count);
}
