-- Timelines, indexes and seats that no core has, each refused by the definition that judges it.
use Rattle.std.specs.Prelude.{◌≡◌, ℕ, true, false, None, List, [], ◌∷◌}
use Rattle.std.proofs.Common.{inl, inr, refl, arith}
use Rattle.base_words.specs.declared.names.JobId.{JobId}
use Rattle.base_words.specs.declared.names.Key.{Key}
use Rattle.base_words.specs.Keys.{KeyBefore}
use Rattle.core_index.specs.declared.row.Row.{Row}
use Rattle.core_index.specs.Buckets.{HoldsAll, HoldsFiled, Precedes, no_bucket, no_row}
use Rattle.core_queues.specs.declared.line.Line.{Line}
use Rattle.core_queues.specs.declared.seats.ParkedAt.{ParkedAt}
use Rattle.core_queues.specs.Seats.{LeavesSeat, Vacates}
use Rattle.core_timeline.specs.Rising.{HasDistinctQueues, IsRising, first_key, has_queue, inserted, removed}

abbrev pub key : ℕ → ℕ → Key
key runtime queue = record { vr = runtime; queue = queue }

-- of two queues with one virtual runtime the higher number is first
pub higher_number_first : KeyBefore 5 2 5 1 → ⊥
higher_number_first (inl less) = omega (arith, less)
higher_number_first (inr same) = omega (arith, same.1)

-- a key stands in front of one that is first
pub later_first : KeyBefore 5 0 4 1 → ⊥
later_first (inl less) = omega (arith, less)
later_first (inr same) = omega (arith, same.0)

pub keys_fall : IsRising (key 5 0 ∷ key 4 1 ∷ []) → ⊥
keys_fall rising = later_first rising.0.0

-- a queue stands there twice
pub queue_twice : HasDistinctQueues (key 5 0 ∷ key 6 0 ∷ []) → ⊥
queue_twice distinct = distinct.0.0 refl

-- a key is lost as it is put in, one that is taken out stays, the first one isn't found, and a queue isn't
pub lost : inserted (key 5 0) [] ≡ [] → ⊥
lost same = cc same

pub stays : removed (key 5 0) (key 5 0 ∷ []) ≡ key 5 0 ∷ [] → ⊥
stays same = let keys : ◌≡◌ {A = List Key} [] (key 5 0 ∷ []) = same in cc

pub no_first : first_key (key 5 0 ∷ []) ≡ None → ⊥
no_first same = cc same

pub no_queue : has_queue 0 (key 5 0 ∷ []) ≡ false → ⊥
no_queue same = let there : true ≡ false = same in cc

abbrev pub job : JobId
job = record { from = 1; to = 0; number = 1 }

abbrev pub row : Row
row = record { name = job; next = 0; filed = true; taken = true }

-- a key stands in a bucket and is not filed
pub stale_key : HoldsFiled (no_row ∷ []) (record { head = 0; count = 1 }) → ⊥
stale_key holds = let filed : false ≡ true = holds 0 (omega arith) in cc

-- the key of a job stands in no bucket
pub lost_key : HoldsAll (row ∷ []) no_bucket job → ⊥
lost_key holds = omega (arith, holds 0 refl)

-- a key comes before another in a bucket without a key
pub none_before : (rows : List Row) → Precedes rows 0 0 1 2 → ⊥
none_before rows before = before

abbrev pub sits : ParkedAt
sits = record { before = 0; queue = 0; parked = true }

-- the seat that a job leaves is still taken
pub still_sits : (old : List ParkedAt) (line : Line) → LeavesSeat old line 0 1 (sits ∷ []) → ⊥
still_sits old line leaves = let gone : true ≡ false = leaves.gone in cc

pub all_still_sit : (old : List ParkedAt) → Vacates (λ place. place) 1 old (sits ∷ []) → ⊥
all_still_sit old vacates = let vacant : true ≡ false = vacates.vacant 0 (omega arith) in cc
