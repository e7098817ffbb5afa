use Rattle.std.proofs.Common.{◌<◌, ◌∙◌, length, false, sym, ap, subst}
use Rattle.std.specs.Prelude.{IsSome}
use Rattle.core_index.specs.declared.row.Row.{Row}
use Rattle.core_index.specs.Buckets.{name_at, filed_name}
use Rattle.core_index.proofs.Filed.{row_read}
use Rattle.core_index.proofs.Shown.{name_at-shown, shown-within, shown-set, IsIndexed-mark}
use Rattle.core_index.proofs.index.Index.remove.Goals as goal

pub invariant_of-self : goal.invariant_of-self
invariant_of-self g c =
    let i = c.self.inside in
    let rows = i.rows.items in
    let key = c.args.key in
    let row = c.index_mut.result.now in
    let within : key < length rows = shown-within rows key (subst (λ name. IsSome name) (ap (λ names. name_at names key) (sym c.self.view_is) ∙ name_at-shown rows key) c.requires) in
    let read = row_read rows key row within c.index_mut.ensures.value in
    IsIndexed-mark i.mask rows i.buckets.items c.self.invariant key (record row { taken = false }) within (ap filed_name (sym read)) (ap (λ (r : Row). r.next) (sym read))

pub returns : goal.returns
returns g c =
    let now : Row = record c.index_mut.result.now { taken = false } in
    shown-set c.self.inside.rows.items c.args.self.now c.args.key now c.self.view_is
