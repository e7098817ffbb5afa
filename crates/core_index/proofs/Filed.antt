-- The buckets as a key comes in or goes out.
use Rattle.std.proofs.Common.{◌≡◌, ℕ, zero, suc, ◌+◌, ◌<◌, ◌≤◌, Bool, true, false, List, [], ◌∷◌, length, set, Option, Some, None, cond, refl, sym, ap, ◌∙◌, subst, ⊎_elim, add-one, arith}
use Rattle.std.specs.Prelude.{is_some, IsSome, slice_index_or}
use Rattle.std.proofs.lemmas.Bool.{cases_eq, cases_lt, eq-eqb, ne_eqb}
use Rattle.std.proofs.lemmas.List.{get_or_past, get_or_read, get_or-set_same, get_or-set_other, length-set}
use Rattle.base_words.specs.declared.names.JobId.{JobId}
use Rattle.core_index.specs.declared.row.Row.{Row}
use Rattle.core_index.specs.declared.row.Bucket.{Bucket}
use Rattle.core_index.specs.Places.{place_of}
use Rattle.core_index.specs.Buckets.{filed_name, no_row, filed_at, next_of, keys_from, keys_in, no_bucket, bucket_at, copies, due, IsFiled, IsIndexed, HoldsFiled, Precedes}
use Rattle.core_index.proofs.Copies.{copies-same, copies-other, few_keys}
use Rattle.core_index.proofs.Chains.{length-keys_from, keys-same, keys-but, keys-out, Precedes-there}

pub due-here : (mask place : ℕ) (name : JobId) → place_of name mask ≡ place → due mask place (Some name) ≡ 1
due-here mask place name here = ap (λ b. cond b 1 0) (eq-eqb (place_of name mask) place here)

pub due-elsewhere : (mask place : ℕ) (name : JobId) → (place_of name mask ≡ place → ⊥) → due mask place (Some name) ≡ 0
due-elsewhere mask place name apart = ap (λ b. cond b 1 0) (ne_eqb (place_of name mask) place apart)

due-le : (mask place : ℕ) (name : Option JobId) → due mask place name ≤ 1
due-le mask place None = omega arith
due-le mask place (Some name) =
    ⊎_elim (λ here. omega (arith, due-here mask place name here)) (λ apart. omega (arith, due-elsewhere mask place name apart)) (cases_eq (place_of name mask) place)

due-some : (mask place : ℕ) (name : Option JobId) → 0 < due mask place name → IsSome name
due-some mask place None there = absurd (omega arith)
due-some mask place (Some name) there = refl

-- the row of a key that is filed has its name
pub filed-is : (row : Row) → IsSome (filed_name row) → filed_name row ≡ Some row.name
filed-is row filed = by_mark row.filed filed
  where
    by_mark : (mark : Bool) → IsSome (cond mark (Some row.name) None) → cond mark (Some row.name) None ≡ Some row.name
    by_mark true there = refl
    by_mark false there = let both : false ≡ true = there in absurd (cc)

-- a key that is filed is one of the rows
pub filed-within : (rows : List Row) (key : ℕ) → IsSome (filed_at rows key) → key < length rows
filed-within rows key filed =
    ⊎_elim
    (λ below. below)
    (λ past. let none : false ≡ true = sym (ap (λ (row : Row). is_some (filed_name row)) (get_or_past rows key no_row past)) ∙ filed in absurd (cc))
    (cases_lt key (length rows))

-- a row that was read
pub row_read : (rows : List Row) (key : ℕ) (row : Row) → key < length rows → row ≡ slice_index_or rows key row → slice_index_or rows key no_row ≡ row
row_read rows key row within read = sym (get_or_read rows key row within read no_row)

-- such a row has its name, if its key is filed
pub filed-read : (rows : List Row) (key : ℕ) (row : Row) → key < length rows → row ≡ slice_index_or rows key row → IsSome (filed_at rows key) → filed_at rows key ≡ Some row.name
filed-read rows key row within read filed =
    let here = row_read rows key row within read in
    ap filed_name here ∙ filed-is row (subst (λ (r : Row). IsSome (filed_name r)) here filed)

-- only keys that are filed stand in a bucket
pub IsFiled-filed : (mask : ℕ) (rows : List Row) (bucket : Bucket) (place : ℕ) → IsFiled mask rows bucket place → HoldsFiled rows bucket
IsFiled-filed mask rows bucket place filed key there = due-some mask place (filed_at rows key) (omega (arith, there, filed key))

-- a bucket has no more keys than there are rows
pub IsFiled-few : (mask : ℕ) (rows : List Row) (bucket : Bucket) (place : ℕ) → IsFiled mask rows bucket place → bucket.count ≤ length rows
IsFiled-few mask rows bucket place filed =
    let few = few_keys (length rows) (keys_in rows bucket) (λ key. omega (arith, filed key, due-le mask place (filed_at rows key))) (λ key there. filed-within rows key (IsFiled-filed mask rows bucket place filed key there)) in
    omega (arith, few, length-keys_from rows bucket.count bucket.head)

-- what a row that is written has in common with the one that it stands for, all rows have
pub row_set : {X : Type 0} (f : Row → X) (rows : List Row) (at : ℕ) (now : Row) → at < length rows → f now ≡ f (slice_index_or rows at no_row) → (key : ℕ) → f (slice_index_or (set rows at now) key no_row) ≡ f (slice_index_or rows key no_row)
row_set f rows at now within same key =
    ⊎_elim
    (λ here. ap (λ n. f (slice_index_or (set rows at now) n no_row)) here ∙ ap f (get_or-set_same rows at now no_row within) ∙ same ∙ ap (λ n. f (slice_index_or rows n no_row)) (sym here))
    (λ differs. ap f (get_or-set_other rows at key now no_row differs))
    (cases_eq key at)

-- a key comes in: it is the head of the bucket of its name
module _ (mask : ℕ) (rows : List Row) (buckets : List Bucket) (is : IsIndexed mask rows buckets) (name : JobId) (key place : ℕ) (bucket : Bucket) (at : bucket ≡ bucket_at buckets place) (here : place ≡ place_of name mask)
    (inside : place < length buckets) (within : key < length rows) (vacant : filed_at rows key ≡ None) where
  added : Row
  added = record { name = name; next = bucket.head; filed = true; taken = true }

  later : List Row
  later = set rows key added

  longer : Bucket
  longer = record { head = key; count = bucket.count + 1 }

  others : (other : ℕ) → (other ≡ key → ⊥) → next_of later other ≡ next_of rows other
  unfolding later
  others other apart = ap (λ (row : Row). row.next) (get_or-set_other rows key other added no_row apart)

  absent : (other : ℕ) → copies key (keys_in rows (bucket_at buckets other)) ≡ 0
  absent other = is.filed other key ∙ ap (due mask other) vacant

  stays : (other : ℕ) → keys_in later (bucket_at buckets other) ≡ keys_in rows (bucket_at buckets other)
  stays other = keys-but rows later key (bucket_at buckets other).count (bucket_at buckets other).head others (absent other)

  grows : keys_in later longer ≡ key ∷ keys_in rows (bucket_at buckets place)
  unfolding added later longer
  grows =
      let next : next_of later key ≡ bucket.head = ap (λ (row : Row). row.next) (get_or-set_same rows key added no_row within) in
      ap (keys_from later key) (add-one bucket.count) ∙ ap (λ n. key ∷ keys_from later n bucket.count) next ∙ ap (λ (b : Bucket). key ∷ keys_from later b.head b.count) at ∙ ap (λ keys. key ∷ keys) (stays place)

  shown_here : filed_at later key ≡ Some name
  unfolding added later
  shown_here = ap filed_name (get_or-set_same rows key added no_row within)

  shown_there : (other : ℕ) → (other ≡ key → ⊥) → filed_at later other ≡ filed_at rows other
  unfolding later
  shown_there other apart = ap filed_name (get_or-set_other rows key other added no_row apart)

  filed_here : IsFiled mask later longer place
  filed_here other =
      ap (copies other) grows
      ∙ ⊎_elim
      (λ same.
      let new : due mask place (filed_at later other) ≡ 1 = ap (λ k. due mask place (filed_at later k)) same ∙ ap (due mask place) shown_here ∙ due-here mask place name (sym here) in
      let none : copies other (keys_in rows (bucket_at buckets place)) ≡ 0 = ap (λ k. copies k (keys_in rows (bucket_at buckets place))) same ∙ absent place in
      omega (arith, copies-same other key (keys_in rows (bucket_at buckets place)) same, none, new))
      (λ apart. copies-other other key (keys_in rows (bucket_at buckets place)) apart ∙ is.filed place other ∙ ap (due mask place) (sym (shown_there other apart)))
      (cases_eq other key)

  filed_there : (else_place : ℕ) → (else_place ≡ place → ⊥) → IsFiled mask later (bucket_at buckets else_place) else_place
  filed_there else_place apart other =
      ap (copies other) (stays else_place)
      ∙ ⊎_elim
      (λ same.
      let new : due mask else_place (filed_at later other) ≡ 0 = ap (λ k. due mask else_place (filed_at later k)) same ∙ ap (due mask else_place) shown_here ∙ due-elsewhere mask else_place name (λ falls. apart (sym falls ∙ sym here)) in
      let none : copies other (keys_in rows (bucket_at buckets else_place)) ≡ 0 = ap (λ k. copies k (keys_in rows (bucket_at buckets else_place))) same ∙ absent else_place in
      omega (arith, none, new))
      (λ differs. is.filed else_place other ∙ ap (due mask else_place) (sym (shown_there other differs)))
      (cases_eq other key)

  pub IsIndexed-insert : IsIndexed mask (set rows key (record { name = name; next = bucket.head; filed = true; taken = true })) (set buckets place (record { head = key; count = bucket.count + 1 }))
  unfolding added later longer
  IsIndexed-insert = record {
    filed = λ other.
        ⊎_elim
        (λ same. subst (λ n. IsFiled mask later (bucket_at (set buckets place longer) n) n) (sym same) (subst (λ (b : Bucket). IsFiled mask later b place) (sym (get_or-set_same buckets place longer no_bucket inside)) filed_here))
        (λ apart. subst (λ (b : Bucket). IsFiled mask later b other) (sym (get_or-set_other buckets place other longer no_bucket apart)) (filed_there other apart))
        (cases_eq other place);
    places = omega (arith, is.places, length-set buckets place longer);
    few = omega (arith, is.few, length-set rows key added);
  }

-- a key goes out of the bucket of its name
pub IsIndexed-out : (mask : ℕ) (rows later : List Row) (buckets : List Bucket) → IsIndexed mask rows buckets → (name : JobId) (key place : ℕ) (shorter : Bucket) → place ≡ place_of name mask → place < length buckets → filed_at rows key ≡ Some name → filed_at later key ≡ None
    → ((other : ℕ) → (other ≡ key → ⊥) → filed_at later other ≡ filed_at rows other) → ((other : ℕ) → copies other (keys_in later shorter) + copies other (key ∷ []) ≡ copies other (keys_in rows (bucket_at buckets place)))
    → ((other : ℕ) → (other ≡ place → ⊥) → keys_in later (bucket_at buckets other) ≡ keys_in rows (bucket_at buckets other)) → length later ≡ length rows → IsIndexed mask later (set buckets place shorter)
IsIndexed-out mask rows later buckets is name key place shorter here inside was now others out stays long = record {
  filed = λ other.
      ⊎_elim
      (λ same. subst (λ n. IsFiled mask later (bucket_at (set buckets place shorter) n) n) (sym same) (subst (λ (b : Bucket). IsFiled mask later b place) (sym (get_or-set_same buckets place shorter no_bucket inside)) filed_here))
      (λ apart. subst (λ (b : Bucket). IsFiled mask later b other) (sym (get_or-set_other buckets place other shorter no_bucket apart)) (filed_there other apart))
      (cases_eq other place);
  places = omega (arith, is.places, length-set buckets place shorter);
  few = omega (arith, is.few, long);
}
  where
    filed_here : IsFiled mask later shorter place
    filed_here other =
        ⊎_elim
        (λ same.
        let before : due mask place (filed_at rows other) ≡ 1 = ap (λ k. due mask place (filed_at rows k)) same ∙ ap (due mask place) was ∙ due-here mask place name (sym here) in
        let behind : due mask place (filed_at later other) ≡ 0 = ap (λ k. due mask place (filed_at later k)) same ∙ ap (due mask place) now in
        omega (arith, copies-same other key [] same, out other, is.filed place other, before, behind))
        (λ apart.
        let stays_due : due mask place (filed_at later other) ≡ due mask place (filed_at rows other) = ap (due mask place) (others other apart) in
        omega (arith, copies-other other key [] apart, out other, is.filed place other, stays_due))
        (cases_eq other key)

    filed_there : (else_place : ℕ) → (else_place ≡ place → ⊥) → IsFiled mask later (bucket_at buckets else_place) else_place
    filed_there else_place apart other =
        ap (copies other) (stays else_place apart) ∙ is.filed else_place other
        ∙ ⊎_elim
        (λ same.
        let before : due mask else_place (filed_at rows other) ≡ 0 = ap (λ k. due mask else_place (filed_at rows k)) same ∙ ap (due mask else_place) was ∙ due-elsewhere mask else_place name (λ falls. apart (sym falls ∙ sym here)) in
        let behind : due mask else_place (filed_at later other) ≡ 0 = ap (λ k. due mask else_place (filed_at later k)) same ∙ ap (due mask else_place) now in
        before ∙ sym behind)
        (λ differs. ap (due mask else_place) (sym (others other differs)))
        (cases_eq other key)

-- a bucket that was read
pub bucket_read : (buckets : List Bucket) (place : ℕ) (bucket : Bucket) → place < length buckets → bucket ≡ slice_index_or buckets place bucket → bucket ≡ bucket_at buckets place
bucket_read buckets place bucket within read = get_or_read buckets place bucket within read no_bucket

-- a name falls into one bucket alone
due-one : (mask place other : ℕ) (name : Option JobId) → 0 < due mask place name → (other ≡ place → ⊥) → due mask other name ≡ 0
due-one mask place other None there apart = refl
due-one mask place other (Some name) there apart =
    due-elsewhere mask other name (λ falls. absurd (omega (arith, there, due-elsewhere mask place name (λ here. apart (sym falls ∙ here)))))

-- a key that is filed stands in the bucket of its name
pub IsFiled-one : (mask : ℕ) (rows : List Row) (bucket : Bucket) (place key : ℕ) (name : JobId) → IsFiled mask rows bucket place → filed_at rows key ≡ Some name → place ≡ place_of name mask → copies key (keys_in rows bucket) ≡ 1
IsFiled-one mask rows bucket place key name filed is here = filed key ∙ ap (due mask place) is ∙ due-here mask place name (sym here)

-- so it isn't empty
pub some_keys : (rows : List Row) (key head count : ℕ) → copies key (keys_from rows head count) ≡ 1 → 0 < count
some_keys rows key head zero one = absurd (omega (arith, one))
some_keys rows key head (suc count) one = omega arith

-- the head of a bucket goes out
pub IsIndexed-head : (mask : ℕ) (rows : List Row) (buckets : List Bucket) → IsIndexed mask rows buckets → (key place less : ℕ) (row : Row) (bucket : Bucket) → bucket ≡ bucket_at buckets place → place < length buckets → key < length rows
    → slice_index_or rows key no_row ≡ row → filed_at rows key ≡ Some row.name → place ≡ place_of row.name mask → bucket.head ≡ key → bucket.count ≡ suc less → IsIndexed mask (set rows key (record row { filed = false })) (set buckets place (record { head = row.next; count = less }))
IsIndexed-head mask rows buckets is key place less row bucket at inside within read was here first count =
    IsIndexed-out mask rows later buckets is row.name key place shorter here inside was (ap filed_name (get_or-set_same rows key gone no_row within)) (λ it apart. ap filed_name (get_or-set_other rows key it gone no_row apart)) out (λ it _. stays (bucket_at buckets it)) (length-set rows key gone)
  where
    gone : Row
    gone = record row { filed = false }

    later : List Row
    later = set rows key gone

    shorter : Bucket
    shorter = record { head = row.next; count = less }

    goes_on : (other : ℕ) → next_of later other ≡ next_of rows other
    goes_on = row_set (λ r. r.next) rows key gone within (ap (λ (r : Row). r.next) (sym read))

    stays : (b : Bucket) → keys_in later b ≡ keys_in rows b
    stays b = keys-same rows later b.count b.head (λ other _. goes_on other)

    out : (other : ℕ) → copies other (keys_in later shorter) + copies other (key ∷ []) ≡ copies other (keys_in rows (bucket_at buckets place))
    out other =
        let rest : copies other (keys_in later shorter) ≡ copies other (keys_from rows (next_of rows key) less) = ap (copies other) (stays shorter) ∙ ap (λ (r : Row). copies other (keys_from rows r.next less)) (sym read) in
        let all : copies other (keys_in rows (bucket_at buckets place)) ≡ copies other (key ∷ keys_from rows (next_of rows key) less)
        = ap (λ (b : Bucket). copies other (keys_in rows b)) (sym at) ∙ ap (λ n. copies other (keys_from rows n bucket.count)) first ∙ ap (λ n. copies other (keys_from rows key n)) count in
        omega (arith, rest, all)

-- a key behind another one goes out
pub IsIndexed-behind : (mask : ℕ) (rows : List Row) (buckets : List Bucket) → IsIndexed mask rows buckets → (key place less before : ℕ) (row prior gone : Row) (bucket : Bucket) → bucket ≡ bucket_at buckets place → place < length buckets → key < length rows → before < length rows
    → slice_index_or rows key no_row ≡ row → slice_index_or rows before no_row ≡ prior → slice_index_or (set rows before (record prior { next = row.next })) key no_row ≡ gone → filed_at rows key ≡ Some row.name → place ≡ place_of row.name mask
    → Precedes rows bucket.head bucket.count before key → bucket.count ≡ suc less → IsIndexed mask (set (set rows before (record prior { next = row.next })) key (record gone { filed = false })) (set buckets place (record { head = bucket.head; count = less }))
IsIndexed-behind mask rows buckets is key place less before row prior gone bucket at inside within prior_within read prior_read gone_read was here comes count =
    IsIndexed-out mask rows later buckets is row.name key place shorter here inside was (ap filed_name (get_or-set_same between key left no_row wide)) (λ other apart. ap filed_name (get_or-set_other between key other left no_row apart) ∙ shows other) out stays long
  where
    linked : Row
    linked = record prior { next = row.next }

    between : List Row
    between = set rows before linked

    left : Row
    left = record gone { filed = false }

    later : List Row
    later = set between key left

    shorter : Bucket
    shorter = record { head = bucket.head; count = less }

    wide : key < length between
    wide = omega (arith, within, length-set rows before linked)

    long : length later ≡ length rows
    long = length-set between key left ∙ length-set rows before linked

    shows : (other : ℕ) → filed_at between other ≡ filed_at rows other
    shows = row_set filed_name rows before linked prior_within (ap filed_name (sym prior_read))

    goes_on : (other : ℕ) → next_of later other ≡ next_of between other
    goes_on = row_set (λ r. r.next) between key left wide (ap (λ (r : Row). r.next) (sym gone_read))

    others : (other : ℕ) → (other ≡ before → ⊥) → next_of later other ≡ next_of rows other
    others other apart = goes_on other ∙ ap (λ (r : Row). r.next) (get_or-set_other rows before other linked no_row apart)

    over : next_of later before ≡ next_of rows key
    over = goes_on before ∙ ap (λ (r : Row). r.next) (get_or-set_same rows before linked no_row prior_within) ∙ ap (λ (r : Row). r.next) (sym read)

    filed : IsFiled mask rows bucket place
    filed = subst (λ (b : Bucket). IsFiled mask rows b place) (sym at) (is.filed place)

    in_place : 0 < due mask place (filed_at rows before)
    in_place = omega (arith, filed before, Precedes-there rows bucket.count bucket.head before key comes)

    out : (other : ℕ) → copies other (keys_in later shorter) + copies other (key ∷ []) ≡ copies other (keys_in rows (bucket_at buckets place))
    out other =
        let once : copies before (keys_from rows bucket.head (suc less)) ≤ 1 = subst (λ n. copies before (keys_from rows bucket.head n) ≤ 1) count (omega (arith, filed before, due-le mask place (filed_at rows before))) in
        let cut = keys-out rows later before key others over less bucket.head (subst (λ n. Precedes rows bucket.head n before key) count comes) once other in
        let all : copies other (keys_in rows (bucket_at buckets place)) ≡ copies other (keys_from rows bucket.head (suc less)) = ap (λ (b : Bucket). copies other (keys_in rows b)) (sym at) ∙ ap (λ n. copies other (keys_from rows bucket.head n)) count in
        cut ∙ sym all

    stays : (other : ℕ) → (other ≡ place → ⊥) → keys_in later (bucket_at buckets other) ≡ keys_in rows (bucket_at buckets other)
    stays other apart = keys-but rows later before (bucket_at buckets other).count (bucket_at buckets other).head others (is.filed other before ∙ due-one mask place other (filed_at rows before) in_place apart)
