-- What a caller sees of the rows, as they are marked, filed and opened.
use Rattle.std.proofs.Common.{◌≡◌, ℕ, zero, suc, ◌-◌, ◌<◌, ◌^◌, Bool, true, false, List, [], ◌∷◌, ◌++◌, length, map, set, take, Option, Some, None, cond, refl, sym, ap, ◌∙◌, ⊎_elim, arith}
use Rattle.std.specs.Prelude.{is_some, IsSome, IfSome, IfNone, slice_index_or, replicate}
use Rattle.std.proofs.Math.ListN.{get_or-map}
use Rattle.std.proofs.lemmas.Bool.{cases_lt}
use Rattle.std.proofs.lemmas.List.{get_or_past, length-set, length-replicate, map-set, set-get_or}
use Rattle.base_words.specs.declared.names.JobId.{JobId}
use Rattle.core_index.specs.declared.row.Row.{Row}
use Rattle.core_index.specs.declared.row.Bucket.{Bucket}
use Rattle.core_index.specs.Places.{place_of}
use Rattle.core_index.specs.Buckets.{Names, name_at, filed_name, shown, no_row, shown_at, filed_at, keys_in, no_bucket, bucket_at, next_of, copies, due, IsFiled, IsIndexed, HoldsAll}
use Rattle.core_index.proofs.Chains.{keys-same}
use Rattle.core_index.proofs.Filed.{due-here, row_set}

-- a caller sees what the row of a key shows
pub name_at-shown : (rows : List Row) (key : ℕ) → name_at (map shown rows) key ≡ shown_at rows key
name_at-shown rows key = get_or-map shown rows key no_row

-- what a row shows, it is filed under
pub shown-filed : (row : Row) (name : JobId) → shown row ≡ Some name → filed_name row ≡ Some name
shown-filed row name = by_mark row.taken
  where
    by_mark : (mark : Bool) → cond mark (filed_name row) None ≡ Some name → filed_name row ≡ Some name
    by_mark true is = is
    by_mark false is = let both : false ≡ true = ap (λ (o : Option JobId). is_some o) is in absurd (cc)

-- a key whose job shows is one of the rows
pub shown-within : (rows : List Row) (key : ℕ) → IsSome (shown_at rows key) → key < length rows
shown-within rows key there =
    ⊎_elim
    (λ below. below)
    (λ past. let none : false ≡ true = sym (ap (λ (row : Row). is_some (shown row)) (get_or_past rows key no_row past)) ∙ there in absurd (cc))
    (cases_lt key (length rows))

-- a row that isn't filed shows nothing
pub shown-unfiled : (row : Row) → shown (record row { filed = false }) ≡ None
shown-unfiled row = by_mark row.taken None
  where
    by_mark : (mark : Bool) (name : Option JobId) → cond mark name name ≡ name
    by_mark true name = refl
    by_mark false name = refl

-- the row of a key that a job has shows the name under which it is filed
pub shown-taken : (row : Row) → row.taken ≡ true → shown row ≡ filed_name row
shown-taken row taken = ap (λ b. cond b (filed_name row) None) taken

-- and a row that shows a name is of such a key
pub taken-shown : (row : Row) → IsSome (shown row) → row.taken ≡ true
taken-shown row = by_mark row.taken
  where
    by_mark : (mark : Bool) → IsSome (cond mark (filed_name row) None) → mark ≡ true
    by_mark true there = refl
    by_mark false there = let both : false ≡ true = there in absurd (cc)

-- each key of a name stands in its bucket
pub IsFiled-all : (mask : ℕ) (rows : List Row) (bucket : Bucket) (name : JobId) (place : ℕ) → place ≡ place_of name mask → IsFiled mask rows bucket place → HoldsAll rows bucket name
IsFiled-all mask rows bucket name place here filed key is =
    let one : due mask place (filed_at rows key) ≡ 1 = ap (due mask place) (shown-filed (slice_index_or rows key no_row) name is) ∙ due-here mask place name (sym here) in
    omega (arith, filed key, one)

-- a row is marked, and stays where it is filed
pub IsIndexed-mark : (mask : ℕ) (rows : List Row) (buckets : List Bucket) → IsIndexed mask rows buckets → (key : ℕ) (now : Row) → key < length rows → filed_name now ≡ filed_at rows key → now.next ≡ next_of rows key → IsIndexed mask (set rows key now) buckets
IsIndexed-mark mask rows buckets is key now within named goes = record {
  filed = λ place other.
      ap (copies other) (keys-same rows (set rows key now) (bucket_at buckets place).count (bucket_at buckets place).head (λ one _. row_set (λ r. r.next) rows key now within goes one))
      ∙ is.filed place other
      ∙ ap (due mask place) (sym (row_set filed_name rows key now within named other));
  places = is.places;
  few = omega (arith, is.few, length-set rows key now);
}

-- what a caller sees after a row was written
pub shown-set : (rows : List Row) (names : Names) (key : ℕ) (now : Row) → map shown rows ≡ names → map shown (set rows key now) ≡ set names key (shown now)
shown-set rows names key now is = map-set shown rows key now ∙ ap (λ v. set v key (shown now)) is

-- a row that shows what it showed before
pub shown-same : (rows : List Row) (names : Names) (key : ℕ) (now : Row) → shown now ≡ shown_at rows key → map shown rows ≡ names → map shown (set rows key now) ≡ names
shown-same rows names key now same is =
    map-set shown rows key now ∙ ap (set (map shown rows) key) (same ∙ sym (name_at-shown rows key)) ∙ set-get_or (map shown rows) key None ∙ is

pub find-found : (names : Names) (rows : List Row) (name : JobId) (found : Option ℕ) → map shown rows ≡ names → IfSome found (λ key. shown_at rows key ≡ Some name) → IfSome found (λ key. name_at names key ≡ Some name)
find-found names rows name None is there = there
find-found names rows name (Some key) is there = ap (λ v. name_at v key) (sym is) ∙ name_at-shown rows key ∙ there

pub find-none : (names : Names) (rows : List Row) (name : JobId) (found : Option ℕ) → map shown rows ≡ names → IfNone found ((key : ℕ) → shown_at rows key ≡ Some name → ⊥) → IfNone found ((key : ℕ) → name_at names key ≡ Some name → ⊥)
find-none names rows name None is none = λ key there. none key (sym (name_at-shown rows key) ∙ ap (λ v. name_at v key) is ∙ there)
find-none names rows name (Some _) is none = none

-- the index as it is opened
replicated : {X : Type 0} (n i : ℕ) (x : X) → slice_index_or (replicate n x) i x ≡ x
replicated zero i x = refl
replicated (suc n) zero x = refl
replicated (suc n) (suc i) x = replicated n i x

-- a vector without a value that was filled up
pub resized : {X : Type 0} (n len : ℕ) (old new : List X) (x : X) → old ≡ [] → len ≡ 0 → new ≡ take n old ++ replicate (n - len) x → new ≡ replicate n x
resized {X = X} n len old new x none empty is =
    let all : n - len ≡ n = omega arith in
    is ∙ ap (λ o. take n o ++ replicate (n - len) x) none ∙ ap (λ t. t ++ replicate (n - len) x) (take-nil n) ∙ ap (λ m. replicate m x) all
  where
    take-nil : (m : ℕ) → take {A = X} m [] ≡ []
    take-nil zero = refl
    take-nil (suc m) = refl

pub shown-replicate : (n : ℕ) → map shown (replicate n no_row) ≡ replicate n None
shown-replicate zero = refl
shown-replicate (suc n) = ap (λ names. None ∷ names) (shown-replicate n)

-- each bucket is empty, and no key is filed
pub IsIndexed-open : (mask count capacity : ℕ) → mask < count → capacity < 2 ^ 31 → IsIndexed mask (replicate capacity no_row) (replicate count no_bucket)
IsIndexed-open mask count capacity places few = record {
  filed = λ place key.
      ap (λ (b : Bucket). copies key (keys_in (replicate capacity no_row) b)) (replicated count place no_bucket) ∙ ap (λ (r : Row). due mask place (filed_name r)) (sym (replicated capacity key no_row));
  places = omega (arith, places, length-replicate count no_bucket);
  few = omega (arith, few, length-replicate capacity no_row);
}
