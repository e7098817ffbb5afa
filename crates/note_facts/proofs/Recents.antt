-- Which queues were told, after one more.
use Rattle.std.proofs.Common.{◌≡◌, ℕ, ◌+◌, ◌<◌, ◌≤◌, length, sym, ◌∙◌, ap, arith, cond, get_or, set, get_or-set_other, get_or-set_same}
use Rattle.std.proofs.lemmas.Bool.{lt-ltb, le-ltb}
use Rattle.note_facts.specs.declared.recent.Recent.{Recent}
use Rattle.note_facts.specs.Recent.{Holds, queue_at}

-- where more than 256 were told, each queue has its place
pub all_held : (recent : Recent) (queue : ℕ) → 256 < recent.told → queue < 256 → Holds recent queue
all_held recent queue many few = record {
  place = queue;
  within = omega (arith, many, few);
  is = ap (λ test. cond test queue (get_or recent.queues queue 0)) (lt-ltb 256 recent.told many);
}

module _ (recent : Recent) (few : recent.told ≤ 256) where
  -- a place below the last is that of the list
  at_place : (place : ℕ) → queue_at recent place ≡ get_or recent.queues place 0
  at_place place = ap (λ test. cond test place (get_or recent.queues place 0)) (le-ltb 256 recent.told few)

-- what was told is told still
pub still_held : (old : Recent) (new : Recent) (other queue : ℕ) → old.told < 256 → new.told ≡ old.told + 1 → old.told < length old.queues → new.queues ≡ set old.queues old.told queue →
    Holds old other → Holds new other
still_held old new other queue few told within queues held = record {
  place = held.place;
  within = omega (arith, held.within, told, few);
  is =
      at_place new (omega (arith, told, few)) held.place ∙
      (ap (λ list. get_or list held.place 0) queues ∙
      (get_or-set_other old.queues old.told held.place queue 0 (λ same. absurd (omega (arith, same, held.within, few))) ∙
      (sym (at_place old (omega (arith, few)) held.place) ∙ held.is)));
}

pub told_held : (old : Recent) (new : Recent) (queue : ℕ) → old.told < 256 → new.told ≡ old.told + 1 → old.told < length old.queues → new.queues ≡ set old.queues old.told queue → Holds new queue
told_held old new queue few told within queues = record {
  place = old.told;
  within = omega (arith, told, few);
  is =
      at_place new (omega (arith, told, few)) old.told ∙
      (ap (λ list. get_or list old.told 0) queues ∙ get_or-set_same old.queues old.told queue 0 within);
}
