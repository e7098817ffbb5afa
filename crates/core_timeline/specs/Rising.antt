-- Keys in rising order, at most one of each queue.
use Rattle.std.specs.Prelude.{◌≢◌, ℕ, ◌<◌, Bool, not, ◌&&◌, ◌||◌, ◌==◌, nat_lt, if◌then◌else◌, List, [], ◌∷◌, filter, map, Option, Some, None}
use Rattle.std.specs.List.{AllByRecursion, list_any}
use Rattle.base_words.specs.Keys.{KeyBefore}
use Rattle.base_words.specs.declared.names.Key.{Key}

-- the one key stands before the other
abbrev pub StandsBefore : Key → Key → Type 0
StandsBefore one other = KeyBefore one.vr one.queue other.vr other.queue

-- whether it does
abbrev pub stands_before : Key → Key → Bool
stands_before one other = nat_lt one.vr other.vr || (one.vr == other.vr && nat_lt one.queue other.queue)

-- whether the two are one key
abbrev pub same_key : Key → Key → Bool
same_key one other = one.vr == other.vr && one.queue == other.queue

-- P holds of each key
abbrev pub EachKey : (Key → Type 0) → List Key → Type 0
EachKey P keys = AllByRecursion P keys

-- each key stands before all later ones
abbrev pub IsRising : List Key → Type 0
IsRising [] = Unit {0}
IsRising (key ∷ later) = EachKey (StandsBefore key) later × IsRising later

-- no key is of this queue
abbrev pub LacksQueue : ℕ → List Key → Type 0
LacksQueue queue keys = EachKey (λ key. key.queue ≢ queue) keys

-- no two keys are of one queue
abbrev pub HasDistinctQueues : List Key → Type 0
HasDistinctQueues [] = Unit {0}
HasDistinctQueues (key ∷ later) = LacksQueue key.queue later × HasDistinctQueues later

-- the keys with this one in its place
abbrev pub inserted : Key → List Key → List Key
inserted key [] = key ∷ []
inserted key (next ∷ later) = if stands_before key next then key ∷ next ∷ later else next ∷ inserted key later

-- the keys without this one
abbrev pub removed : Key → List Key → List Key
removed key keys = filter (λ other. not (same_key key other)) keys

-- whether this key is among them
abbrev pub has_key : Key → List Key → Bool
has_key key keys = list_any (same_key key) keys

-- whether one of them is of this queue
abbrev pub has_queue : ℕ → List Key → Bool
has_queue queue keys = list_any (λ key. key.queue == queue) keys

-- the first key, if there is one
abbrev pub first_key : List Key → Option Key
first_key [] = None
first_key (key ∷ later) = Some key

-- the last key stands before this one
abbrev pub LastStandsBefore : List Key → Key → Type 0
LastStandsBefore [] key = ⊥
LastStandsBefore (last ∷ []) key = StandsBefore last key
LastStandsBefore (one ∷ next ∷ later) key = LastStandsBefore (next ∷ later) key

-- the queues of the keys, in their order
abbrev pub queues_of : List Key → List ℕ
queues_of keys = map (λ key. key.queue) keys

-- what holds of the keys of a timeline: they rise, no two are of one queue, and each queue has one of 256 numbers
pub record IsOfQueues (keys : List Key) : Type 0 where
  pub rising : IsRising keys
  pub distinct : HasDistinctQueues keys
  pub numbered : EachKey (λ key. key.queue < 256) keys
