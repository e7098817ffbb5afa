-- The queues that were told are given their keys one after another.
use Rattle.std.proofs.Common.{◌≡◌, ℕ, ◌+◌, ◌<◌, ◌≤◌, ◌⊎◌, inl, inr, false, refl, sym, ◌∙◌, ap, subst, arith}
use Rattle.std.specs.Prelude.{Option, Some, None, ◌==◌}
use Rattle.std.proofs.lemmas.Bool.{cases_eq, cases_lt, ne_eqb}
use Rattle.base_words.specs.Names.{is_number}
use Rattle.note_facts.specs.declared.accounts.Accounts.{Accounts}
use Rattle.note_facts.specs.declared.recent.Recent.{Recent}
use Rattle.note_facts.specs.Recent.{queue_at, size}
use Rattle.judge_audit.specs.declared.least.Least.{Least}
use Rattle.judge_audit.specs.Waiting.{ArePlaced, IsPlaced, IsPlacedIf, key_waiting}
use Rattle.judge_audit.specs.Winners.{IsTree, key_of}

-- a queue has its old key, and isn't the one that was placed, or it has its new one
pub placed_cases : (accounts : Accounts) (old new : Least) (queue : ℕ) (there : Option ℕ) → IsPlacedIf accounts old new there →
    ((is_number queue there ≡ false) × (key_of new queue ≡ key_of old queue)) ⊎ (key_of new queue ≡ key_waiting accounts queue)
placed_cases accounts old new queue None same = inl (refl, ap (λ (it : Least). key_of it queue) same)
placed_cases accounts old new queue (Some other) placed = by_queue (cases_eq queue other)
  where
    by_queue : (queue ≡ other) ⊎ (queue ≡ other → ⊥) → (((queue == other) ≡ false) × (key_of new queue ≡ key_of old queue)) ⊎ (key_of new queue ≡ key_waiting accounts queue)
    by_queue (inl same) = inr (subst (λ (it : ℕ). key_of new it ≡ key_waiting accounts it) (sym same) placed.here)
    by_queue (inr apart) = inl (ne_eqb queue other apart, placed.others queue apart)

-- the queues that were told are placed one after another
pub record PlacedSoFar (accounts : Accounts) (recent : Recent) (old new : Least) (place : ℕ) : Type 0 where
  pub tree : IsTree new
  pub either : (queue : ℕ) → (key_of new queue ≡ key_of old queue) ⊎ (key_of new queue ≡ key_waiting accounts queue)
  pub done : (other : ℕ) → other < place → key_of new (queue_at recent other) ≡ key_waiting accounts (queue_at recent other)

module _ (accounts : Accounts) (recent : Recent) (old mid new : Least) (place queue : ℕ) (here : queue ≡ queue_at recent place)
    (so_far : PlacedSoFar accounts recent old mid place) (placed : IsPlaced accounts mid new queue) where
  still_placed : (other : ℕ) → key_of mid other ≡ key_waiting accounts other → key_of new other ≡ key_waiting accounts other
  still_placed other was = by_cases (placed_cases accounts mid new other (Some queue) placed)
    where
      by_cases : (((other == queue) ≡ false) × (key_of new other ≡ key_of mid other)) ⊎ (key_of new other ≡ key_waiting accounts other) →
          key_of new other ≡ key_waiting accounts other
      by_cases (inl apart) = apart.1 ∙ was
      by_cases (inr here) = here

  pub placed_next : IsTree new → PlacedSoFar accounts recent old new (place + 1)
  placed_next tree = record {
    tree = tree;
    either = λ other. by_cases other (placed_cases accounts mid new other (Some queue) placed) (so_far.either other);
    done = λ other less. by_place other less (cases_lt other place);
  }
    where
      by_cases : (other : ℕ) → (((other == queue) ≡ false) × (key_of new other ≡ key_of mid other)) ⊎ (key_of new other ≡ key_waiting accounts other) →
          (key_of mid other ≡ key_of old other) ⊎ (key_of mid other ≡ key_waiting accounts other) →
          (key_of new other ≡ key_of old other) ⊎ (key_of new other ≡ key_waiting accounts other)
      by_cases other (inr here) was = inr here
      by_cases other (inl apart) (inl was) = inl (apart.1 ∙ was)
      by_cases other (inl apart) (inr was) = inr (apart.1 ∙ was)

      by_place : (other : ℕ) → other < place + 1 → (other < place) ⊎ (place ≤ other) →
          key_of new (queue_at recent other) ≡ key_waiting accounts (queue_at recent other)
      by_place other less (inl before) = still_placed (queue_at recent other) (so_far.done other before)
      by_place other less (inr past) =
          let same : place ≡ other = omega (arith, less, past) in
          subst (λ (it : ℕ). key_of new it ≡ key_waiting accounts it) (here ∙ ap (queue_at recent) same) placed.here

-- in the end each of them is placed
pub all_placed : (accounts : Accounts) (recent : Recent) (old new : Least) (place : ℕ) → place ≡ size recent → PlacedSoFar accounts recent old new place →
    ArePlaced accounts recent old new
all_placed accounts recent old new place last so_far = record {
  either = so_far.either;
  held =
      λ queue holds.
      subst (λ (it : ℕ). key_of new it ≡ key_waiting accounts it) holds.is (so_far.done holds.place (omega (arith, holds.within, last)));
}
