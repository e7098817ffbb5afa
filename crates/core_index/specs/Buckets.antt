-- The buckets of the index: which keys stand in them, and that these are the keys that are filed.
use Rattle.std.specs.Prelude.{◌≡◌, ◌⊎◌, ℕ, zero, suc, ◌+◌, ◌<◌, ◌^◌, false, List, [], ◌∷◌, length, Option, Some, None, IsSome, slice_index_or, ◌==◌, if◌then◌else◌}
use Rattle.base_words.specs.declared.names.JobId.{JobId}
use Rattle.core_index.specs.declared.row.Row.{Row}
use Rattle.core_index.specs.declared.row.Bucket.{Bucket}
use Rattle.core_index.specs.Places.{place_of}

-- for each key the name of the job that has it, if one has
abbrev pub Names : Type 0
Names = List (Option JobId)

-- the name of the job under a key, if one has this key
abbrev pub name_at : Names → ℕ → Option JobId
name_at names key = slice_index_or names key None

-- the name under which a key is filed, if it is
abbrev pub filed_name : Row → Option JobId
filed_name row = if row.filed then Some row.name else None

-- what a row says of its key: no job has one that isn't filed
abbrev pub shown : Row → Option JobId
shown row = if row.taken then filed_name row else None

-- a row of a key that isn't filed
abbrev pub no_row : Row
no_row = record { name = record { from = 0; to = 0; number = 0 }; next = 0; filed = false; taken = false }

-- the name that the rows give a key
abbrev pub shown_at : List Row → ℕ → Option JobId
shown_at rows key = shown (slice_index_or rows key no_row)

-- the name under which the rows have a key filed
abbrev pub filed_at : List Row → ℕ → Option JobId
filed_at rows key = filed_name (slice_index_or rows key no_row)

-- the key that the rows give as the next of a key
abbrev pub next_of : List Row → ℕ → ℕ
next_of rows key = (slice_index_or rows key no_row).next

-- so many keys from this one on, each the next of the one before
abbrev pub keys_from : List Row → ℕ → ℕ → List ℕ
keys_from rows key zero = []
keys_from rows key (suc count) = key ∷ keys_from rows (next_of rows key) count

-- the keys of a bucket
abbrev pub keys_in : List Row → Bucket → List ℕ
keys_in rows bucket = keys_from rows bucket.head bucket.count

-- a bucket without a key
abbrev pub no_bucket : Bucket
no_bucket = record { head = 0; count = 0 }

-- the bucket at a place, or the empty one
abbrev pub bucket_at : List Bucket → ℕ → Bucket
bucket_at buckets place = slice_index_or buckets place no_bucket

-- how often a key stands in a list
abbrev pub copies : ℕ → List ℕ → ℕ
copies key [] = 0
copies key (one ∷ keys) = (if key == one then 1 else 0) + copies key keys

-- how often a key with this name is to stand in the bucket at a place: once, if the name falls there
abbrev pub due : ℕ → ℕ → Option JobId → ℕ
due mask place None = 0
due mask place (Some name) = if place_of name mask == place then 1 else 0

-- each key stands in the bucket at this place as often as is due
abbrev pub IsFiled : ℕ → List Row → Bucket → ℕ → Type 0
IsFiled mask rows bucket place = (key : ℕ) → copies key (keys_in rows bucket) ≡ due mask place (filed_at rows key)

-- each key that is filed stands in the bucket of its name, once, and nothing else stands in a bucket
pub record IsIndexed (mask : ℕ) (rows : List Row) (buckets : List Bucket) : Type 0 where
  pub filed : (place : ℕ) → IsFiled mask rows (bucket_at buckets place) place
  pub places : mask < length buckets
  pub few : length rows < 2 ^ 31

-- only keys that are filed stand in the bucket
abbrev pub HoldsFiled : List Row → Bucket → Type 0
HoldsFiled rows bucket = (key : ℕ) → 0 < copies key (keys_in rows bucket) → IsSome (filed_at rows key)

-- each key of a job of this name stands in the bucket
abbrev pub HoldsAll : List Row → Bucket → JobId → Type 0
HoldsAll rows bucket name = (key : ℕ) → shown_at rows key ≡ Some name → 0 < copies key (keys_in rows bucket)

-- one key of a bucket comes right before another one
abbrev pub Precedes : List Row → ℕ → ℕ → ℕ → ℕ → Type 0
Precedes rows head zero before key = ⊥
Precedes rows head (suc count) before key = ((head ≡ before) × (0 < count) × (next_of rows before ≡ key)) ⊎ Precedes rows (next_of rows head) count before key
