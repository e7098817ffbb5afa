-- What is told of a core may be published, and what was published stays a beginning of its journal.
use Rattle.run_worker.proofs.Names.{ap, append-nil, AreExact, arith, CantShow, cases_lt, EndsView, finished-within, get_or, get_or_from_slice_get, grows_along, inl, inr, IsOpenedOver, IsShown, IsShownWhole}
use Rattle.run_worker.proofs.Names.{Journal, length, LinkedView, List, most_places, QueueStats, RecordedView, RunsOn, ShownView, Shows, stats_of, subst, sym, ℕ, [], ⊎_elim, ◌++◌, ◌-◌, ◌<◌, ◌^◌, ◌∙◌, ◌≡◌, ◌≤◌, ◌⊎◌}
use Rattle.std.proofs.Common.{Some}
use Rattle.base_words.specs.Terms.{Terms as SeatTerms}
use Rattle.actor_core.specs.Stats as told
use Rattle.run_watch.specs.Tells as board
use Rattle.run_watch.specs.declared.board.Terms.{Terms}

module _ {J : Type 0} (view : RecordedView J ℕ) (shown : ShownView ℕ) (is : IsShown view shown) where
  -- the numbers of its queues
  pub queues_shown : (queues : List QueueStats) → told.TellsQueues view.core.bursts.burst view.journal.notes (length queues) queues → board.TellsQueues shown.terms.burst view.journal.notes queues
  queues_shown queues tells = record {
    count = tells.count_is;
    each = λ queue low.
        let its = tells.each queue (omega (arith, low, tells.count_is)) in
        its.1 ∙ ap Some (its.2.sums ∙ ap (λ (terms : Terms). stats_of terms.burst queue view.journal.notes) (sym is.terms_are));
  }

-- a core that counts no further has many notes
pub many_notes : (burst : ℕ) (notes : Journal ℕ) (queues : List QueueStats) → (length notes < 2 ^ 64 → told.TellsQueues burst notes (length queues) queues) → (AreExact queues → ⊥) → 2 ^ 64 - 1 ≤ length notes
many_notes burst notes queues tells inexact =
    ⊎_elim
    (λ (few : length notes < 2 ^ 64 - 1).
    let all = tells (omega (arith, few)) in
    absurd (inexact (λ queue other low.
    let its = all.each queue (omega (arith, low, all.count_is)) in
    let here : get_or queues queue other ≡ its.0 = get_or_from_slice_get queues queue its.0 other its.1 in
    let done = ap (λ (stats : QueueStats). stats.finished) (here ∙ its.2.sums) in
    omega (arith, done, finished-within queue notes, few))))
    (λ (many : 2 ^ 64 - 1 ≤ length notes). many)
    (cases_lt (length notes) (2 ^ 64 - 1))

module _ {J T : Type 0} where
  -- it stays so while the worker lives on
  pub shown_runs : (old new : LinkedView J T) (shown : ShownView T) → RunsOn old new → IsShown old.recorded shown → IsShown new.recorded shown
  shown_runs old new shown runs is = record {
    terms_are = is.terms_are ∙ ap (λ (terms : SeatTerms). record { cores = terms.cores; burst = terms.burst; places = most_places }) (sym runs.seat);
    grows = grows_along shown.notes old.recorded.journal.notes new.recorded.journal.notes is.grows runs.grows;
  }

  -- behind a publication it is the whole journal, unless that can't be published
  pub shown_now : (view : RecordedView J T) (old new : ShownView T) → IsShown view old → Shows view.journal.notes old new → IsShownWhole view new
  shown_now view old new is (inl did) = record {
    is_shown = record { terms_are = ap (λ shown. shown.terms) did ∙ is.terms_are; grows = ([], sym (ap (λ shown. shown.notes) did)) };
    whole = inl (ap (λ shown. shown.notes) did);
  }
  shown_now view old new is (inr cant) = record {
    is_shown = subst (IsShown view) (sym cant.1) is;
    whole = inr (subst (CantShow view.journal.notes) (sym cant.1) cant.0);
  }

  -- and so behind a passing
  pub whole_runs : (old new : LinkedView J T) (shown : ShownView T) → RunsOn old new → new.recorded.journal.notes ≡ old.recorded.journal.notes → IsShownWhole old.recorded shown → IsShownWhole new.recorded shown
  whole_runs old new shown runs same is = record {
    is_shown = shown_runs old new shown runs is.is_shown;
    whole = subst (λ notes. (shown.notes ≡ notes) ⊎ CantShow notes shown) (sym same) is.whole;
  }

  -- a board that was just opened
  pub opened_shown : (cores cap burst room : ℕ) (ends : EndsView J T) (linked : LinkedView J T) (shown : ShownView T) → IsOpenedOver cores cap burst room ends linked →
      shown.terms ≡ record { cores = cores; burst = burst; places = most_places } → shown.notes ≡ [] → IsShown linked.recorded shown
  opened_shown cores cap burst room ends linked shown over terms none = record {
    terms_are = terms ∙ ap (λ (terms : SeatTerms). record { cores = terms.cores; burst = terms.burst; places = most_places }) (sym over.of.terms);
    grows = (linked.recorded.journal.notes, sym (ap (λ notes. linked.recorded.journal.notes ++ notes) none ∙ append-nil linked.recorded.journal.notes));
  }
