use Rattle.std.proofs.Common.{◌≡◌, suc, ◌+◌, ◌-◌, Option, Some, true, false, refl, sym, ap, ◌∙◌, subst, arith}
use Rattle.std.specs.Prelude.{IsSome}
use Rattle.base_words.specs.declared.names.JobId.{JobId}
use Rattle.base_words.specs.Names.{same_name}
use Rattle.base_words.proofs.NameLemmas.{one_name, same_as_itself}
use Rattle.core_index.specs.declared.row.Row.{Row}
use Rattle.core_index.specs.Buckets.{filed_name, shown, shown_at, next_of, keys_from, copies}
use Rattle.core_index.proofs.Filed.{filed-within, filed-read, row_read}
use Rattle.core_index.proofs.Walks.{rest-filed, rest-within, rest-left}
use Rattle.core_index.proofs.Shown.{shown-filed, shown-taken, taken-shown}
use Rattle.core_index.proofs.walk.look.Goals.{else-is_same-via-then-is_same+else-row, else-is_same-via-else-is_same}
use Rattle.core_index.proofs.walk.look.Goals as goal

pub index-row-requires : goal.index-row-requires
index-row-requires g c =
    let rows = c.args.rows.now.items in
    let less : c.args.bucket.count - c.loop-index.index ≡ suc (c.args.bucket.count - (c.loop-index.index + 1)) = omega (arith, c.loop-index-test.true) in
    filed-within rows c.loop-index.key (rest-filed rows c.args.bucket c.loop-index.key _ _ less c.loop-index.invariant.within c.requires.held)

pub returns-then-row-clause-found : goal.returns-then-row-clause-found
returns-then-row-clause-found g c =
    let rows = c.args.rows.now.items in
    let row = c.index-row.result.now in
    let key = c.loop-index.key in
    let less : c.args.bucket.count - c.loop-index.index ≡ suc (c.args.bucket.count - (c.loop-index.index + 1)) = omega (arith, c.loop-index-test.true) in
    let filed = rest-filed rows c.args.bucket key _ _ less c.loop-index.invariant.within c.requires.held in
    let inside = filed-within rows key filed in
    let read = row_read rows key row inside c.index-row.ensures in
    ap shown read ∙ shown-taken row c.if-row.true ∙ ap filed_name (sym read) ∙ filed-read rows key row inside c.index-row.ensures filed ∙ ap Some (sym (one_name c.args.name.now row.name (sym c.is_same.ensures ∙ c.if-is_same.true)))

pub loop-index-preserved : goal.loop-index-preserved
loop-index-preserved g c =
    let rows = c.args.rows.now.items in
    let row = c.index-row.result.now in
    let key = c.loop-index.key in
    let name = c.args.name.now in
    let less : c.args.bucket.count - c.loop-index.index ≡ suc (c.args.bucket.count - (c.loop-index.index + 1)) = omega (arith, c.loop-index-test.true) in
    let filed = rest-filed rows c.args.bucket key _ _ less c.loop-index.invariant.within c.requires.held in
    let inside = filed-within rows key filed in
    let read = row_read rows key row inside c.index-row.ensures in
    let goes : row.next ≡ next_of rows key = ap (λ (r : Row). r.next) (sym read) in
    record {
      within = rest-within rows c.args.bucket key row.next _ _ less goes c.loop-index.invariant.within;
      left = λ other is.
          rest-left rows key row.next _ _ other less goes
          (λ same.
          let shows : shown row ≡ Some name = sym (ap shown read) ∙ ap (shown_at rows) (sym same) ∙ is in
          let taken : row.taken ≡ true = taken-shown row (subst (λ (o : Option JobId). IsSome o) (sym shows) refl) in
          let named : Some row.name ≡ Some name = sym (filed-read rows key row inside c.index-row.ensures filed) ∙ ap filed_name read ∙ shown-filed row name shows in
          let one : row.name ≡ name = cc in
          elim c.else-is_same.branch [
            | else-is_same-via-then-is_same+else-row w ↦ let both : true ≡ false = sym taken ∙ w.if-row.false in absurd (cc)
            | else-is_same-via-else-is_same w ↦ let both : true ≡ false = sym (same_as_itself name) ∙ ap (same_name name) (sym one) ∙ sym c.is_same.ensures ∙ w.if-is_same.false in absurd (cc)
          ])
          (c.loop-index.invariant.left other is);
    }

pub returns-clause-none : goal.returns-clause-none
returns-clause-none g c = λ key is.
    let none : c.args.bucket.count - c.loop-index.index ≡ 0 = omega (arith, c.loop-index-test.false) in
    let left : copies key (keys_from c.args.rows.now.items c.loop-index.key (c.args.bucket.count - c.loop-index.index)) ≡ 0 = ap (λ n. copies key (keys_from c.args.rows.now.items c.loop-index.key n)) none in
    omega (arith, c.loop-index.invariant.left key is, left)
