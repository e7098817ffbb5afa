use Rattle.std.proofs.Common.{◌<◌, ◌≤◌, length, true, subst, sym, refl, arith}
use Rattle.core_index.specs.declared.row.Bucket.{Bucket}
use Rattle.core_index.specs.declared.row.Row.{Row}
use Rattle.core_index.specs.Buckets.{IsFiled}
use Rattle.core_index.proofs.Filed.{bucket_read, IsFiled-few, IsIndexed-insert}
use Rattle.core_index.proofs.Shown.{shown-set}
use Rattle.core_index.proofs.filing.file.Goals as goal

pub overflow_add-bucket : goal.overflow_add-bucket
overflow_add-bucket g c =
    let rows = c.args.rows.now.items in
    let buckets = c.args.buckets.now.items in
    let mask = c.args.mask in
    let place = c.place_of-place.result in
    let bucket = c.index-bucket.result.now in
    let inside : place < length buckets = omega (arith, c.place_of-place.ensures.within, c.requires.indexed.places) in
    let read = bucket_read buckets place bucket inside c.index-bucket.ensures in
    let few : bucket.count ≤ length rows = IsFiled-few mask rows bucket place (subst (λ (b : Bucket). IsFiled mask rows b place) (sym read) (c.requires.indexed.filed place)) in
    omega (arith, few, c.requires.indexed.few)

pub returns-clause-indexed : goal.returns-clause-indexed
returns-clause-indexed g c =
    let rows = c.args.rows.now.items in
    let buckets = c.args.buckets.now.items in
    let mask = c.args.mask in
    let place = c.place_of-place.result in
    let bucket = c.index-bucket.result.now in
    let inside : place < length buckets = omega (arith, c.place_of-place.ensures.within, c.requires.indexed.places) in
    let read = bucket_read buckets place bucket inside c.index-bucket.ensures in
    IsIndexed-insert mask rows buckets c.requires.indexed c.args.name.now c.args.key place bucket read c.place_of-place.ensures.value inside c.requires.within c.requires.unfiled

pub returns-clause-names : goal.returns-clause-names
returns-clause-names g c =
    let now : Row = record { name = c.args.name.now; next = c.index-bucket.result.now.head; filed = true; taken = true } in
    shown-set c.args.rows.now.items _ c.args.key now refl
