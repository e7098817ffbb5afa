use Rattle.std.proofs.Common.{◌<◌, length, sym, subst, arith}
use Rattle.core_index.specs.declared.row.Bucket.{Bucket}
use Rattle.core_index.specs.Buckets.{IsFiled}
use Rattle.core_index.proofs.Filed.{bucket_read, IsFiled-filed}
use Rattle.core_index.proofs.Shown.{IsFiled-all, find-found, find-none}
use Rattle.core_index.proofs.index.Index.find.Goals as goal

pub look-requires-clause-held : goal.look-requires-clause-held
look-requires-clause-held g c =
    let i = c.self.inside in
    let place = c.place_of.result in
    let bucket = c.index-bucket.result.now in
    let inside : place < length i.buckets.items = omega (arith, c.place_of.ensures.within, c.self.invariant.places) in
    let read = bucket_read i.buckets.items place bucket inside c.index-bucket.ensures in
    IsFiled-filed i.mask i.rows.items bucket place (subst (λ (b : Bucket). IsFiled i.mask i.rows.items b place) (sym read) (c.self.invariant.filed place))

pub look-requires-clause-complete : goal.look-requires-clause-complete
look-requires-clause-complete g c =
    let i = c.self.inside in
    let place = c.place_of.result in
    let bucket = c.index-bucket.result.now in
    let inside : place < length i.buckets.items = omega (arith, c.place_of.ensures.within, c.self.invariant.places) in
    let read = bucket_read i.buckets.items place bucket inside c.index-bucket.ensures in
    IsFiled-all i.mask i.rows.items bucket c.args.name.now place c.place_of.ensures.value (subst (λ (b : Bucket). IsFiled i.mask i.rows.items b place) (sym read) (c.self.invariant.filed place))

pub returns-clause-found : goal.returns-clause-found
returns-clause-found g c = find-found c.args.self.now c.self.inside.rows.items c.args.name.now c.look.result c.self.view_is c.look.ensures.found

pub returns-clause-none : goal.returns-clause-none
returns-clause-none g c = find-none c.args.self.now c.self.inside.rows.items c.args.name.now c.look.result c.self.view_is c.look.ensures.none
