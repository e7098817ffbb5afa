use Rattle.std.proofs.Common.{◌≡◌, ◌-◌, ◌<◌, sym, ap, ◌∙◌, subst, List, map, arith}
use Rattle.std.specs.Prelude.{replicate}
use Rattle.std.proofs.lemmas.Nat.{pow_pos}
use Rattle.core_index.specs.declared.row.Bucket.{Bucket}
use Rattle.core_index.specs.declared.row.Row.{Row}
use Rattle.core_index.specs.Buckets.{no_row, no_bucket, shown, IsIndexed}
use Rattle.core_index.proofs.Shown.{IsIndexed-open, shown-replicate, resized}
use Rattle.core_index.proofs.index.Index.open.Goals as goal

pub invariant_of-result : goal.invariant_of-result
invariant_of-result g c =
    let count = c.next_power_of_two-count.result in
    let buckets : c.sealed.result.items ≡ replicate count no_bucket = c.sealed.ensures.items ∙ resized count _ _ _ no_bucket c.in_ok-buckets.ensures.items c.in_ok-buckets.ensures.len c.in_ok-resize.ensures.items in
    let rows : c.sealed-2.result.items ≡ replicate c.args.capacity no_row = c.sealed-2.ensures.items ∙ resized c.args.capacity _ _ _ no_row c.in_ok-rows.ensures.items c.in_ok-rows.ensures.len c.in_ok-resize-2.ensures.items in
    let places : count - 1 < count = omega (arith, c.next_power_of_two-count.ensures.power.1, pow_pos c.next_power_of_two-count.ensures.power.0) in
    subst (λ (r : List Row). IsIndexed (count - 1) r c.sealed.result.items) (sym rows) (subst (λ (b : List Bucket). IsIndexed (count - 1) (replicate c.args.capacity no_row) b) (sym buckets) (IsIndexed-open (count - 1) count c.args.capacity places c.requires))

pub returns : goal.returns
returns g c =
    let rows : c.sealed-2.result.items ≡ replicate c.args.capacity no_row = c.sealed-2.ensures.items ∙ resized c.args.capacity _ _ _ no_row c.in_ok-rows.ensures.items c.in_ok-rows.ensures.len c.in_ok-resize-2.ensures.items in
    ap (λ (r : List Row). map shown r) rows ∙ shown-replicate c.args.capacity
