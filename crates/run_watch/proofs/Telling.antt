-- Rows and the numbers that they tell.
use Rattle.std.proofs.Common.{◌≡◌, ℕ, ◌+◌, ◌<◌, ◌≤◌, Bool, true, List, length, get_or, sym, ap, ◌∙◌, arith, subst}
use Rattle.std.specs.Prelude.{if◌then◌else◌, nat_le, Some, None, slice_get}
use Rattle.base_words.specs.Charge.{InRange}
use Rattle.base_words.specs.declared.stats.CoreStats.{CoreStats}
use Rattle.base_words.specs.declared.stats.QueueStats.{QueueStats}
use Rattle.base_words.specs.Commands.{created_count}
use Rattle.base_words.specs.Journal.{Journal}
use Rattle.base_words.specs.Stats.{queue_stats, stats_of}
use Rattle.run_watch.specs.Closed.{closed_by_itself}
use Rattle.run_watch.specs.Tells.{Tells, TellsCore, TellsQueues}
use Rattle.run_watch.specs.Words.{HasAt, closed_in, core_words, queue_words, place_of}
use Rattle.run_watch.specs.declared.board.Terms.{Terms}
use Rattle.run_watch.proofs.Closed.{row-closed}

-- a row in which the numbers stand tells them
pub row-tells : (terms : Terms) (notes : Journal ℕ) (row : List ℕ) (core : CoreStats) (queues : List QueueStats) (closed : Bool) → TellsCore terms.cores notes core → TellsQueues terms.burst notes queues
    → (closed ≡ true → closed_by_itself notes ≡ true) → HasAt row 0 (core_words core (length queues) closed)
    → ((queue : ℕ) (stats : QueueStats) → queue < terms.places → slice_get queues queue ≡ Some stats → HasAt row (place_of queue) (queue_words stats) × InRange stats.shares)
    → Tells terms notes row
row-tells terms notes row core queues closed is are told stands each =
    let count : length queues ≡ created_count notes + 1 = are.count in record {
      core = core;
      core_is = is;
      closed = closed;
      closed_is = told;
      core_stands = subst (λ (n : ℕ). HasAt row 0 (core_words core n closed)) count stands;
      queue_stands = λ queue there placed. (each queue (stats_of terms.burst queue notes) placed (are.each queue (omega arith))).0;
      shares_fit = λ queue there placed. (each queue (stats_of terms.burst queue notes) placed (are.each queue (omega arith))).1;
    }

module _ (terms : Terms) (notes : Journal ℕ) (row : List ℕ) (tells : Tells terms notes row) where
  pub count-told : get_or row 5 0 ≡ created_count notes + 1
  count-told = tells.core_stands 5 (omega arith)

  -- what the row tells of the closing is so
  pub closing-told : closed_in row ≡ true → closed_by_itself notes ≡ true
  closing-told is = tells.closed_is (sym (row-closed row tells.closed (tells.core_stands 6 (omega arith))) ∙ is)

  -- the shares of a queue stand at its place
  pub shares-told : (queue : ℕ) → queue < terms.places → queue ≤ created_count notes → InRange (get_or row (place_of queue) 0)
  shares-told queue placed low =
      let e : place_of queue + 0 ≡ place_of queue = omega arith in
      subst InRange (sym (tells.queue_stands queue low placed 0 (omega arith)) ∙ ap (λ (n : ℕ). get_or row n 0) e) (tells.shares_fit queue low placed)

  -- the numbers of a queue that stands in the row
  pub queue-told : (queue : ℕ) → queue < terms.places → queue ≤ created_count notes → (found : QueueStats) → ((stats : QueueStats) → HasAt row (place_of queue) (queue_words stats) → found ≡ stats)
      → Some found ≡ queue_stats terms.burst queue notes
  queue-told queue placed low found is =
      let test : nat_le queue (created_count notes) ≡ true = grind (arith, low) in
      ap Some (is (stats_of terms.burst queue notes) (tells.queue_stands queue low placed))
      ∙ (λ i. if sym test i then Some (stats_of terms.burst queue notes) else None)
