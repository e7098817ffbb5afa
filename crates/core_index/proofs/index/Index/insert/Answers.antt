use Rattle.std.proofs.Common.{◌≡◌, ◌<◌, ◌∙◌, length, cond, set, Some, None, true, sym, ap, arith}
use Rattle.std.proofs.lemmas.List.{length-map}
use Rattle.base_words.proofs.NameLemmas.{one_name}
use Rattle.core_index.specs.declared.row.Row.{Row}
use Rattle.core_index.specs.Buckets.{filed_name, shown}
use Rattle.core_index.proofs.Filed.{row_read}
use Rattle.core_index.proofs.Shown.{shown-set}
use Rattle.core_index.proofs.index.Index.insert.Goals as goal

pub returns-then-is_same : goal.returns-then-is_same
returns-then-is_same g c =
    let rows = c.self.inside.rows.items in
    let key = c.args.key in
    let name = c.args.name.now in
    let row = c.index-row.result.now in
    let again = c.index_mut.result.now in
    let now : Row = record again { taken = true } in
    let within : key < length rows = omega (arith, c.requires.within, ap length c.self.view_is, length-map rows shown) in
    let same : row ≡ again = sym (row_read rows key row within c.index-row.ensures) ∙ row_read rows key again within c.index_mut.ensures.value in
    let one = one_name name row.name (sym c.is_same.ensures ∙ c.if-is_same.true) in
    let named : filed_name again ≡ Some name = ap filed_name (sym same) ∙ ap (λ b. cond b (Some row.name) None) c.if-is_filed.true ∙ ap Some (sym one) in
    shown-set rows c.args.self.now key now c.self.view_is ∙ ap (set c.args.self.now key) named
