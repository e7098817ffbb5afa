use Rattle.std.proofs.Common.{◌≡◌, suc, ◌-◌, ◌<◌, length, set, None, false, refl, sym, ap, ◌∙◌, subst, arith}
use Rattle.std.proofs.lemmas.List.{get_or-set_same, length-set}
use Rattle.core_index.specs.declared.row.Bucket.{Bucket}
use Rattle.core_index.specs.declared.row.Row.{Row}
use Rattle.core_index.specs.Buckets.{filed_name, shown, shown_at, no_row, IsFiled}
use Rattle.core_index.proofs.Chains.{Precedes-there}
use Rattle.core_index.proofs.Filed.{bucket_read, row_read, row_set, filed-within, filed-read, IsFiled-filed, IsFiled-one, some_keys, IsIndexed-head, IsIndexed-behind}
use Rattle.core_index.proofs.Shown.{shown-unfiled, shown-same}
use Rattle.core_index.proofs.filing.unfile.Goals as goal

pub index-requires : goal.index-requires
index-requires g c = filed-within c.args.rows.now.items c.args.key c.requires.there

pub overflow_sub-bucket : goal.overflow_sub-bucket
overflow_sub-bucket g c =
    let rows = c.args.rows.now.items in
    let buckets = c.args.buckets.now.items in
    let key = c.args.key in
    let row = c.index.result.now in
    let place = c.place_of-place.result in
    let bucket = c.index-bucket.result.now in
    let inside : place < length buckets = omega (arith, c.place_of-place.ensures.within, c.requires.indexed.places) in
    let at = bucket_read buckets place bucket inside c.index-bucket.ensures in
    let filed = subst (λ (b : Bucket). IsFiled c.args.mask rows b place) (sym at) (c.requires.indexed.filed place) in
    let was = filed-read rows key row (filed-within rows key c.requires.there) c.index.ensures c.requires.there in
    some_keys rows key bucket.head bucket.count (IsFiled-one c.args.mask rows bucket place key row.name filed was c.place_of-place.ensures.value)

pub returns-then-bucket-key-clause-indexed : goal.returns-then-bucket-key-clause-indexed
returns-then-bucket-key-clause-indexed g c =
    let rows = c.args.rows.now.items in
    let buckets = c.args.buckets.now.items in
    let key = c.args.key in
    let row = c.index.result.now in
    let again = c.index_mut.result.now in
    let place = c.place_of-place.result in
    let bucket = c.index-bucket.result.now in
    let inside : place < length buckets = omega (arith, c.place_of-place.ensures.within, c.requires.indexed.places) in
    let at = bucket_read buckets place bucket inside c.index-bucket.ensures in
    let filed = subst (λ (b : Bucket). IsFiled c.args.mask rows b place) (sym at) (c.requires.indexed.filed place) in
    let within = filed-within rows key c.requires.there in
    let was = filed-read rows key row within c.index.ensures c.requires.there in
    let some : 0 < bucket.count = some_keys rows key bucket.head bucket.count (IsFiled-one c.args.mask rows bucket place key row.name filed was c.place_of-place.ensures.value) in
    let count : bucket.count ≡ suc (bucket.count - 1) = omega (arith, some) in
    let same : row ≡ again = sym (row_read rows key row within c.index.ensures) ∙ row_read rows key again within c.index_mut.ensures.value in
    rw (← same) (IsIndexed-head c.args.mask rows buckets c.requires.indexed key place (bucket.count - 1) row bucket at inside within (row_read rows key row within c.index.ensures) was c.place_of-place.ensures.value c.if-bucket-key.true count)

pub returns-then-bucket-key-clause-gone : goal.returns-then-bucket-key-clause-gone
returns-then-bucket-key-clause-gone g c =
    let now : Row = record c.index_mut.result.now { filed = false } in
    ap filed_name (get_or-set_same c.args.rows.now.items c.args.key now no_row (filed-within c.args.rows.now.items c.args.key c.requires.there))

pub returns-then-bucket-key-clause-names : goal.returns-then-bucket-key-clause-names
returns-then-bucket-key-clause-names g c =
    let now : Row = record c.index_mut.result.now { filed = false } in
    shown-same c.args.rows.now.items _ c.args.key now (shown-unfiled c.index_mut.result.now ∙ sym c.requires.vacant) refl

pub before-last-requires-clause-there : goal.before-last-requires-clause-there
before-last-requires-clause-there g c =
    let rows = c.args.rows.now.items in
    let buckets = c.args.buckets.now.items in
    let key = c.args.key in
    let row = c.index.result.now in
    let place = c.place_of-place.result in
    let bucket = c.index-bucket.result.now in
    let inside : place < length buckets = omega (arith, c.place_of-place.ensures.within, c.requires.indexed.places) in
    let at = bucket_read buckets place bucket inside c.index-bucket.ensures in
    let filed = subst (λ (b : Bucket). IsFiled c.args.mask rows b place) (sym at) (c.requires.indexed.filed place) in
    let was = filed-read rows key row (filed-within rows key c.requires.there) c.index.ensures c.requires.there in
    IsFiled-one c.args.mask rows bucket place key row.name filed was c.place_of-place.ensures.value

pub before-last-requires-clause-held : goal.before-last-requires-clause-held
before-last-requires-clause-held g c =
    let rows = c.args.rows.now.items in
    let buckets = c.args.buckets.now.items in
    let place = c.place_of-place.result in
    let bucket = c.index-bucket.result.now in
    let inside : place < length buckets = omega (arith, c.place_of-place.ensures.within, c.requires.indexed.places) in
    let at = bucket_read buckets place bucket inside c.index-bucket.ensures in
    IsFiled-filed c.args.mask rows bucket place (subst (λ (b : Bucket). IsFiled c.args.mask rows b place) (sym at) (c.requires.indexed.filed place))

pub index_mut-requires-2 : goal.index_mut-requires-2
index_mut-requires-2 g c =
    let rows = c.args.rows.now.items in
    let buckets = c.args.buckets.now.items in
    let place = c.place_of-place.result in
    let bucket = c.index-bucket.result.now in
    let inside : place < length buckets = omega (arith, c.place_of-place.ensures.within, c.requires.indexed.places) in
    let at = bucket_read buckets place bucket inside c.index-bucket.ensures in
    let held = IsFiled-filed c.args.mask rows bucket place (subst (λ (b : Bucket). IsFiled c.args.mask rows b place) (sym at) (c.requires.indexed.filed place)) in
    filed-within rows c.before-last.result (held c.before-last.result (Precedes-there rows bucket.count bucket.head c.before-last.result c.args.key c.before-last.ensures))

pub returns-clause-indexed : goal.returns-clause-indexed
returns-clause-indexed g c =
    let rows = c.args.rows.now.items in
    let buckets = c.args.buckets.now.items in
    let key = c.args.key in
    let row = c.index.result.now in
    let last = c.before-last.result in
    let prior = c.index_mut-2.result.now in
    let gone = c.index_mut-3.result.now in
    let place = c.place_of-place.result in
    let bucket = c.index-bucket.result.now in
    let inside : place < length buckets = omega (arith, c.place_of-place.ensures.within, c.requires.indexed.places) in
    let at = bucket_read buckets place bucket inside c.index-bucket.ensures in
    let filed = subst (λ (b : Bucket). IsFiled c.args.mask rows b place) (sym at) (c.requires.indexed.filed place) in
    let held = IsFiled-filed c.args.mask rows bucket place filed in
    let within = filed-within rows key c.requires.there in
    let last_within = filed-within rows last (held last (Precedes-there rows bucket.count bucket.head last key c.before-last.ensures)) in
    let was = filed-read rows key row within c.index.ensures c.requires.there in
    let some : 0 < bucket.count = some_keys rows key bucket.head bucket.count (IsFiled-one c.args.mask rows bucket place key row.name filed was c.place_of-place.ensures.value) in
    let count : bucket.count ≡ suc (bucket.count - 1) = omega (arith, some) in
    let linked : Row = record prior { next = row.next } in
    let wide : key < length (set rows last linked) = omega (arith, within, length-set rows last linked) in
    IsIndexed-behind c.args.mask rows buckets c.requires.indexed key place (bucket.count - 1) last row prior gone bucket at inside within last_within (row_read rows key row within c.index.ensures) (row_read rows last prior last_within c.index_mut-2.ensures.value)
    (row_read (set rows last linked) key gone wide c.index_mut-3.ensures.value) was c.place_of-place.ensures.value c.before-last.ensures count

pub returns-clause-names : goal.returns-clause-names
returns-clause-names g c =
    let rows = c.args.rows.now.items in
    let buckets = c.args.buckets.now.items in
    let key = c.args.key in
    let row = c.index.result.now in
    let last = c.before-last.result in
    let prior = c.index_mut-2.result.now in
    let gone = c.index_mut-3.result.now in
    let place = c.place_of-place.result in
    let bucket = c.index-bucket.result.now in
    let inside : place < length buckets = omega (arith, c.place_of-place.ensures.within, c.requires.indexed.places) in
    let at = bucket_read buckets place bucket inside c.index-bucket.ensures in
    let held = IsFiled-filed c.args.mask rows bucket place (subst (λ (b : Bucket). IsFiled c.args.mask rows b place) (sym at) (c.requires.indexed.filed place)) in
    let last_within = filed-within rows last (held last (Precedes-there rows bucket.count bucket.head last key c.before-last.ensures)) in
    let linked : Row = record prior { next = row.next } in
    let kept : shown linked ≡ shown_at rows last = ap shown (sym (row_read rows last prior last_within c.index_mut-2.ensures.value)) in
    let still : shown_at (set rows last linked) key ≡ None = row_set shown rows last linked last_within kept key ∙ c.requires.vacant in
    let now : Row = record gone { filed = false } in
    shown-same (set rows last linked) _ key now (shown-unfiled gone ∙ sym still) (shown-same rows _ last linked kept refl)
