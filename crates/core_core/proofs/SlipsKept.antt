-- A queue has its slip exactly where no key is of it, also as a key comes or goes.
use Rattle.core_core.proofs.Names.{ap, arith, Bool, cases_eq, false, get_or, get_or-set_other, get_or-set_same, get_or_append_left, get_or_push, inl, inr, inserted, is_some, KeepsSlips, Key, LacksQueue, length_push, List, None, not, Option}
use Rattle.core_core.proofs.Names.{refl, runtime_listed, set, set-get_or, set-set, subst, suc, sym, true, zero, ℕ, [], ◌++◌, ◌+◌, ◌<◌, ◌∙◌, ◌∷◌, ◌≡◌, ◌⊎◌}
use Rattle.std.proofs.lemmas.List.{length-set}
use Rattle.core_core.proofs.Listed.{none_from_lacking, listed-inserted_same, listed-inserted_other, listed-least, listed-later}

-- one queue, with its slip, and no key
pub KeepsSlips-opened : KeepsSlips 1 (true ∷ []) []
KeepsSlips-opened = record { counted = refl; at = at }
  where
    at : (queue : ℕ) → queue < 1 → get_or (true ∷ []) queue false ≡ true
    at zero within = refl
    at (suc queue) within = absurd (omega arith)

pub KeepsSlips-same : (old new : ℕ) (was is : List Bool) (keys : List Key) → new ≡ old → is ≡ was → KeepsSlips old was keys → KeepsSlips new is keys
KeepsSlips-same old new was is keys count slips kept =
    subst (λ queues. KeepsSlips queues is keys) (sym count) (subst (λ there. KeepsSlips old there keys) (sym slips) kept)

-- one more queue, with its slip
pub KeepsSlips-created : (queues : ℕ) (slips : List Bool) (keys : List Key) → runtime_listed queues keys ≡ None → KeepsSlips queues slips keys → KeepsSlips (queues + 1) (slips ++ true ∷ []) keys
KeepsSlips-created queues slips keys none kept = record {
  counted = length_push slips true ∙ ap (λ n. n + 1) kept.counted;
  at = λ queue within. by_queue queue within (cases_eq queue queues);
}
  where
    by_queue : (queue : ℕ) → queue < queues + 1 → (queue ≡ queues) ⊎ (queue ≡ queues → ⊥) → get_or (slips ++ true ∷ []) queue false ≡ not (is_some (runtime_listed queue keys))
    by_queue queue within (inl last) =
        get_or_push slips true false queue (omega (arith, kept.counted))
        ∙ sym (ap (λ number. not (is_some (runtime_listed number keys))) last ∙ ap (λ (found : Option ℕ). not (is_some found)) none)
    by_queue queue within (inr apart) =
        let before : queue < queues = omega arith in
        get_or_append_left slips (true ∷ []) false queue (omega (arith, kept.counted)) ∙ kept.at queue before

-- a key is put in by the slip of its queue
pub KeepsSlips-inserted : (queues : ℕ) (slips : List Bool) (keys : List Key) (key : Key) → key.queue < queues → LacksQueue key.queue keys → KeepsSlips queues slips keys →
    KeepsSlips queues (set slips key.queue false) (inserted key keys)
KeepsSlips-inserted queues slips keys key exists lacks kept = record {
  counted = length-set slips key.queue false ∙ kept.counted;
  at = λ queue within. by_queue queue within (cases_eq queue key.queue);
}
  where
    by_queue : (queue : ℕ) → queue < queues → (queue ≡ key.queue) ⊎ (queue ≡ key.queue → ⊥) → get_or (set slips key.queue false) queue false ≡ not (is_some (runtime_listed queue (inserted key keys)))
    by_queue queue within (inl same) =
        ap (λ number. get_or (set slips key.queue false) number false) same ∙ get_or-set_same slips key.queue false false (omega (arith, kept.counted))
        ∙ sym (ap (λ number. not (is_some (runtime_listed number (inserted key keys)))) same ∙ ap (λ (found : Option ℕ). not (is_some found)) (listed-inserted_same key keys lacks))
    by_queue queue within (inr apart) =
        get_or-set_other slips key.queue queue false false apart ∙ kept.at queue within
        ∙ sym (ap (λ (found : Option ℕ). not (is_some found)) (listed-inserted_other queue key keys apart))

-- the least key goes, and its slip comes back
pub KeepsSlips-taken : (queues : ℕ) (slips : List Bool) (key : Key) (later : List Key) → key.queue < queues → LacksQueue key.queue later → KeepsSlips queues slips (key ∷ later) →
    KeepsSlips queues (set slips key.queue true) later
KeepsSlips-taken queues slips key later exists lacks kept = record {
  counted = length-set slips key.queue true ∙ kept.counted;
  at = λ queue within. by_queue queue within (cases_eq queue key.queue);
}
  where
    by_queue : (queue : ℕ) → queue < queues → (queue ≡ key.queue) ⊎ (queue ≡ key.queue → ⊥) → get_or (set slips key.queue true) queue false ≡ not (is_some (runtime_listed queue later))
    by_queue queue within (inl same) =
        ap (λ number. get_or (set slips key.queue true) number false) same ∙ get_or-set_same slips key.queue true false (omega (arith, kept.counted))
        ∙ sym (ap (λ number. not (is_some (runtime_listed number later))) same ∙ ap (λ (found : Option ℕ). not (is_some found)) (none_from_lacking key.queue later lacks))
    by_queue queue within (inr apart) =
        get_or-set_other slips key.queue queue true false apart ∙ kept.at queue within
        ∙ ap (λ (found : Option ℕ). not (is_some found)) (listed-later queue key later apart)

-- a queue without a key has its slip, and the queue of the least key has not
pub slip_there : (queues : ℕ) (slips : List Bool) (keys : List Key) (queue : ℕ) → queue < queues → runtime_listed queue keys ≡ None → KeepsSlips queues slips keys → get_or slips queue false ≡ true
slip_there queues slips keys queue exists none kept = kept.at queue exists ∙ ap (λ (found : Option ℕ). not (is_some found)) none

pub slip_out : (queues : ℕ) (slips : List Bool) (key : Key) (later : List Key) → key.queue < queues → KeepsSlips queues slips (key ∷ later) → get_or slips key.queue false ≡ false
slip_out queues slips key later exists kept = kept.at key.queue exists ∙ ap (λ (found : Option ℕ). not (is_some found)) (listed-least key later)

-- the slip of a queue that is listed again never comes back to its queue
pub slip_stays : (slips : List Bool) (queue : ℕ) → get_or slips queue false ≡ false → set (set slips queue true) queue false ≡ slips
slip_stays slips queue out = set-set slips queue true false ∙ ap (set slips queue) (sym out) ∙ set-get_or slips queue false

-- a slip that is taken from its queue and comes back was there
pub slip_again : (slips : List Bool) (queue : ℕ) → get_or slips queue false ≡ true → set (set slips queue false) queue true ≡ slips
slip_again slips queue there = set-set slips queue false true ∙ ap (set slips queue) (sym there) ∙ set-get_or slips queue false
