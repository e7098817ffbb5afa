-- How many keys are left where one is removed, and that its queue is none of theirs.
use Rattle.std.proofs.Common.{◌≡◌, ◌≢◌, ℕ, zero, suc, ◌+◌, ◌<◌, true, false, List, [], ◌∷◌, length, get_or, Contains, refl, sym, ap, ◌∙◌, inl, inr, arith, Decides}
use Rattle.std.proofs.lemmas.Bool.{cases_Bool, both_ways, or_left, or_right}
use Rattle.std.proofs.lemmas.Map.Views.{Contains-from_any}
use Rattle.base_words.specs.declared.names.Key.{Key}
use Rattle.core_timeline.specs.Rising.{same_key, IsRising, LacksQueue, HasDistinctQueues, has_key, removed}
use Rattle.core_timeline.proofs.Before.{Decides-same_key}
use Rattle.core_timeline.proofs.Rising.{EachKey-weaker, removed-same}

pub length-removed : (key : Key) (keys : List Key) → IsRising keys → has_key key keys ≡ true → length (removed key keys) + 1 ≡ length keys
length-removed key [] rising among = absurd (both_ways false refl among)
length-removed key (next ∷ later) rising among =
    elim (cases_Bool (same_key key next)) [
      | inl same ↦ rw (removed-same key next later same rising) (omega arith)
      | inr other ↦ rw other (let rest : has_key key later ≡ true = rw other at among in omega (arith, length-removed key later rising.1 rest))
    ]

-- the queue of a key that is among keys of distinct queues is none of those that are left
lacks_other : (key next : Key) (later : List Key) → LacksQueue next.queue later → has_key key later ≡ true → next.queue ≢ key.queue
lacks_other key next [] lacks among = absurd (both_ways false refl among)
lacks_other key next (other ∷ later) lacks among =
    elim (cases_Bool (same_key key other)) [
      | inl same ↦ λ e. lacks.0 (sym (((Decides-same_key key other).0 same).1) ∙ sym e)
      | inr differs ↦ lacks_other key next later lacks.1 (rw differs at among)
    ]

pub LacksQueue-removed : (key : Key) (keys : List Key) → IsRising keys → HasDistinctQueues keys → has_key key keys ≡ true → LacksQueue key.queue (removed key keys)
LacksQueue-removed key [] rising distinct among = tt
LacksQueue-removed key (next ∷ later) rising distinct among =
    elim (cases_Bool (same_key key next)) [
      | inl same ↦
          let queue : key.queue ≡ next.queue = ((Decides-same_key key next).0 same).1 in
          rw (removed-same key next later same rising) (EachKey-weaker _ _ (λ other lacks e. lacks (e ∙ queue)) later distinct.0)
      | inr other ↦
          let rest : has_key key later ≡ true = rw other at among in
          rw other (lacks_other key next later distinct.0 rest, LacksQueue-removed key later rising.1 distinct.1 rest)
    ]

Key-same : (one other : Key) → one.vr ≡ other.vr → one.queue ≡ other.queue → one ≡ other
Key-same one other times queues =
    let first : one ≡ record { vr = other.vr; queue = one.queue } = ap (λ (vr : ℕ). let key : Key = record { vr = vr; queue = one.queue } in key) times in
    first ∙ ap (λ (queue : ℕ). let key : Key = record { vr = other.vr; queue = queue } in key) queues

has_key-at : (key : Key) (keys : List Key) (k : ℕ) → k < length keys → get_or keys k key ≡ key → has_key key keys ≡ true
has_key-at key [] k within there = absurd (omega arith)
has_key-at key (next ∷ later) zero within there = or_left _ _ ((Decides-same_key key next).1 (ap (λ one. one.vr) (sym there), ap (λ one. one.queue) (sym there)))
has_key-at key (next ∷ later) (suc k) within there = or_right _ _ (has_key-at key later k (omega arith) there)

-- the test of whether a key is there, and that it is
pub Decides-has_key : (key : Key) (keys : List Key) → Decides (has_key key keys) (Contains keys key)
Decides-has_key key keys = (
  Contains-from_any (λ one other e. let parts = (Decides-same_key one other).0 e in Key-same one other parts.0 parts.1) key keys,
  λ there. has_key-at key keys there.0 there.1 there.2,
)
