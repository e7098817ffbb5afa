-- The queues of the keys of a timeline, where a key comes or goes.
use Rattle.std.proofs.Common.{◌≡◌, ◌≢◌, ℕ, ◌+◌, ◌<◌, ◌≤◌, true, false, eqb, List, [], ◌∷◌, length, refl, sym, inl, inr, arith}
use Rattle.std.specs.List.{list_any, IsDistinct, AllByRecursion}
use Rattle.std.proofs.lemmas.Bool.{cases_Bool, or_cases, or_parts, both_ways, ne_eqb, eqb-true, eqb-false}
use Rattle.std.proofs.lemmas.List.{length-map}
use Rattle.std.proofs.lemmas.Map.Steps.{length-le_from_distinct_below}
use Rattle.base_words.specs.declared.names.Key.{Key}
use Rattle.core_timeline.specs.Rising.{StandsBefore, stands_before, same_key, EachKey, IsRising, LacksQueue, HasDistinctQueues, IsOfQueues, has_queue, inserted, removed, queues_of}
use Rattle.core_timeline.proofs.Before.{Decides-stands_before, Decides-same_key, StandsBefore-trans, same_key-between}
use Rattle.core_timeline.proofs.Rising.{EachKey-weaker}

other_numbers : (queue : ℕ) (keys : List Key) → LacksQueue queue keys → AllByRecursion (λ other. eqb queue other ≡ false) (queues_of keys)
other_numbers queue [] lacks = tt
other_numbers queue (next ∷ later) lacks = (ne_eqb queue next.queue (λ e. lacks.0 (sym e)), other_numbers queue later lacks.1)

distinct_numbers : (keys : List Key) → HasDistinctQueues keys → IsDistinct eqb (queues_of keys)
unfolding IsDistinct
distinct_numbers [] distinct = tt
distinct_numbers (key ∷ later) distinct = (other_numbers key.queue later distinct.0, distinct_numbers later distinct.1)

numbers_below : (keys : List Key) → EachKey (λ key. key.queue < 256) keys → (queue : ℕ) → list_any (eqb queue) (queues_of keys) ≡ true → queue < 256
numbers_below [] numbered queue e = absurd (both_ways false refl e)
numbers_below (key ∷ later) numbered queue e =
    elim (or_cases _ _ e) [
      | inl same ↦ let is : queue ≡ key.queue = eqb-true queue key.queue same in let below : key.queue < 256 = numbered.0 in omega arith
      | inr among ↦ numbers_below later numbered.1 queue among
    ]

-- there are 256 numbers, so no more keys
pub length-le-256 : (keys : List Key) → IsOfQueues keys → length keys ≤ 256
length-le-256 keys all =
    let few : length (queues_of keys) ≤ 256 = length-le_from_distinct_below (queues_of keys) 256 (distinct_numbers keys all.distinct) (numbers_below keys all.numbered) in
    rw length-map at few

-- what holds of one key and of others holds where that key stands among them

pub EachKey-inserted : (P : Key → Type 0) (key : Key) (keys : List Key) → P key → EachKey P keys → EachKey P (inserted key keys)
EachKey-inserted P key [] one all = (one, tt)
EachKey-inserted P key (next ∷ later) one all =
    elim (cases_Bool (stands_before key next)) [
      | inl sooner ↦ rw sooner (one, all)
      | inr behind ↦ rw behind (all.0, EachKey-inserted P key later one all.1)
    ]

HasDistinctQueues-inserted : (key : Key) (keys : List Key) → LacksQueue key.queue keys → HasDistinctQueues keys → HasDistinctQueues (inserted key keys)
HasDistinctQueues-inserted key [] lacks distinct = (tt, tt)
HasDistinctQueues-inserted key (next ∷ later) lacks distinct =
    elim (cases_Bool (stands_before key next)) [
      | inl sooner ↦ rw sooner (lacks, distinct)
      | inr behind ↦ rw behind (EachKey-inserted _ key later (λ e. lacks.0 (sym e)) distinct.0, HasDistinctQueues-inserted key later lacks.1 distinct.1)
    ]

-- a key that is not before another of another queue stands behind it
stands_behind : (key next : Key) → next.queue ≢ key.queue → stands_before key next ≡ false → StandsBefore next key
stands_behind key next differs late =
    elim (cases_Bool (stands_before next key)) [
      | inl sooner ↦ (Decides-stands_before next key).0 sooner
      | inr early ↦ absurd (differs (sym (((Decides-same_key key next).0 (same_key-between key next late early)).1)))
    ]

IsRising-inserted : (key : Key) (keys : List Key) → LacksQueue key.queue keys → IsRising keys → IsRising (inserted key keys)
IsRising-inserted key [] lacks rising = (tt, tt)
IsRising-inserted key (next ∷ later) lacks rising =
    elim (cases_Bool (stands_before key next)) [
      | inl sooner ↦
          let before = (Decides-stands_before key next).0 sooner in
          rw sooner ((before, EachKey-weaker _ _ (λ other behind. StandsBefore-trans key next other before behind) later rising.0), rising)
      | inr behind ↦ rw behind (EachKey-inserted _ key later (stands_behind key next lacks.0 behind) rising.0, IsRising-inserted key later lacks.1 rising.1)
    ]

pub IsOfQueues-inserted : (key : Key) (keys : List Key) → LacksQueue key.queue keys → key.queue < 256 → IsOfQueues keys → IsOfQueues (inserted key keys)
IsOfQueues-inserted key keys lacks below all = record {
  rising = IsRising-inserted key keys lacks all.rising;
  distinct = HasDistinctQueues-inserted key keys lacks all.distinct;
  numbered = EachKey-inserted _ key keys below all.numbered;
}

pub length-inserted : (key : Key) (keys : List Key) → length (inserted key keys) ≡ length keys + 1
length-inserted key [] = refl
length-inserted key (next ∷ later) =
    elim (cases_Bool (stands_before key next)) [
      | inl sooner ↦ rw sooner (omega arith)
      | inr behind ↦ rw behind (omega (arith, length-inserted key later))
    ]

-- what holds of the keys holds of those that are left

EachKey-removed : (P : Key → Type 0) (key : Key) (keys : List Key) → EachKey P keys → EachKey P (removed key keys)
EachKey-removed P key [] all = tt
EachKey-removed P key (next ∷ later) all =
    elim (cases_Bool (same_key key next)) [
      | inl same ↦ rw same (EachKey-removed P key later all.1)
      | inr other ↦ rw other (all.0, EachKey-removed P key later all.1)
    ]

HasDistinctQueues-removed : (key : Key) (keys : List Key) → HasDistinctQueues keys → HasDistinctQueues (removed key keys)
HasDistinctQueues-removed key [] distinct = tt
HasDistinctQueues-removed key (next ∷ later) distinct =
    elim (cases_Bool (same_key key next)) [
      | inl same ↦ rw same (HasDistinctQueues-removed key later distinct.1)
      | inr other ↦ rw other (EachKey-removed _ key later distinct.0, HasDistinctQueues-removed key later distinct.1)
    ]

IsRising-removed : (key : Key) (keys : List Key) → IsRising keys → IsRising (removed key keys)
IsRising-removed key [] rising = tt
IsRising-removed key (next ∷ later) rising =
    elim (cases_Bool (same_key key next)) [
      | inl same ↦ rw same (IsRising-removed key later rising.1)
      | inr other ↦ rw other (EachKey-removed _ key later rising.0, IsRising-removed key later rising.1)
    ]

pub IsOfQueues-removed : (key : Key) (keys : List Key) → IsOfQueues keys → IsOfQueues (removed key keys)
IsOfQueues-removed key keys all = record {
  rising = IsRising-removed key keys all.rising;
  distinct = HasDistinctQueues-removed key keys all.distinct;
  numbered = EachKey-removed _ key keys all.numbered;
}

pub IsOfQueues-later : (key : Key) (later : List Key) → IsOfQueues (key ∷ later) → IsOfQueues later
IsOfQueues-later key later all = record { rising = all.rising.1; distinct = all.distinct.1; numbered = all.numbered.1 }

-- where the test finds no key of the queue, none is of it
pub LacksQueue-from_test : (queue : ℕ) (keys : List Key) → has_queue queue keys ≡ false → LacksQueue queue keys
LacksQueue-from_test queue [] none = tt
LacksQueue-from_test queue (next ∷ later) none =
    let parts = or_parts _ _ none in
    (eqb-false next.queue queue parts.0, LacksQueue-from_test queue later parts.1)
