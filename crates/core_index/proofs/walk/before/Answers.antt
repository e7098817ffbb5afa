use Rattle.std.proofs.Common.{◌≡◌, suc, ◌+◌, ◌-◌, ◌<◌, sym, ap, ◌∙◌, arith}
use Rattle.core_index.specs.declared.row.Row.{Row}
use Rattle.core_index.specs.Buckets.{next_of}
use Rattle.core_index.proofs.Filed.{filed-within, row_read}
use Rattle.core_index.proofs.Walks.{rest-filed, rest-within, rest-left, rest-first, rest-further, rest-all-within, rest-all-left, rest-all-back}
use Rattle.core_index.proofs.walk.before.Goals as goal

pub loop-index-init : goal.loop-index-init
loop-index-init g c =
    let rows = c.args.rows.now.items in
    let all : c.args.bucket.count - 0 ≡ c.args.bucket.count = omega arith in
    record {
      within = rest-all-within rows c.args.bucket _ all;
      left = rest-all-left rows c.args.bucket _ c.args.key all c.requires.there;
      apart = c.requires.behind;
      back = λ other. rest-all-back rows c.args.bucket _ c.args.key other all;
    }

pub index-requires : goal.index-requires
index-requires g c =
    let rows = c.args.rows.now.items in
    let less : c.args.bucket.count - c.loop-index.index ≡ suc (c.args.bucket.count - (c.loop-index.index + 1)) = omega (arith, c.loop-index-test.true) in
    filed-within rows c.loop-index.at (rest-filed rows c.args.bucket c.loop-index.at _ _ less c.loop-index.invariant.within c.requires.held)

pub returns-then-next-key : goal.returns-then-next-key
returns-then-next-key g c =
    let rows = c.args.rows.now.items in
    let at = c.loop-index.at in
    let row = c.index.result.now in
    let less : c.args.bucket.count - c.loop-index.index ≡ suc (c.args.bucket.count - (c.loop-index.index + 1)) = omega (arith, c.loop-index-test.true) in
    let some : 0 < c.args.bucket.count - (c.loop-index.index + 1) = omega (arith, c.loop-index-test.true) in
    let inside = filed-within rows at (rest-filed rows c.args.bucket at _ _ less c.loop-index.invariant.within c.requires.held) in
    let goes : next_of rows at ≡ c.args.key = ap (λ (r : Row). r.next) (row_read rows at row inside c.index.ensures) ∙ c.if-next-key.true in
    c.loop-index.invariant.back at (rest-first rows at c.args.key _ _ less some goes)

pub loop-index-preserved : goal.loop-index-preserved
loop-index-preserved g c =
    let rows = c.args.rows.now.items in
    let at = c.loop-index.at in
    let row = c.index.result.now in
    let key = c.args.key in
    let less : c.args.bucket.count - c.loop-index.index ≡ suc (c.args.bucket.count - (c.loop-index.index + 1)) = omega (arith, c.loop-index-test.true) in
    let inside = filed-within rows at (rest-filed rows c.args.bucket at _ _ less c.loop-index.invariant.within c.requires.held) in
    let goes : row.next ≡ next_of rows at = ap (λ (r : Row). r.next) (sym (row_read rows at row inside c.index.ensures)) in
    record {
      within = rest-within rows c.args.bucket at row.next _ _ less goes c.loop-index.invariant.within;
      left = rest-left rows at row.next _ _ key less goes (λ same. c.loop-index.invariant.apart (sym same)) c.loop-index.invariant.left;
      apart = c.if-next-key.false;
      back = λ other comes. c.loop-index.invariant.back other (rest-further rows at row.next key _ _ other less goes comes);
    }
