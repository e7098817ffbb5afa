use Rattle.std.proofs.Common.{◌≡◌, ◌<◌, ◌∷◌, length, get_or, ◌∙◌, arith}
use Rattle.judge_view.proofs.Tables.{none_changed, one_changed}
use Rattle.judge_view.proofs.WatchSteps.{any_default}
use Rattle.fairview_lag.specs.PairWalks.{idle, names_below, pair_known}
use Rattle.fairview_lag.proofs.PairSteps.{all_known, known_at}
use Rattle.fairview_lag.proofs.core_lags.add_to_all.Goals as goal

pub loop-place-init : goal.loop-place-init
loop-place-init c = λ burst count before standing known. none_changed _ _ _

pub loop-place-preserved : goal.loop-place-preserved
loop-place-preserved c =
    λ burst count before standing known.
    let place = c.loop-place.place in
    let old = c.args.pairs.now.items in
    let pairs = c.loop-place.pairs.items in
    let names = get_or (names_below count) place (0, 0) in
    let so_far = c.loop-place.invariant burst count before standing known in
    let within : place < length old = omega (arith, c.loop-place-test.true, c.len-place-end.ensures, c.args.pairs.now.ok.0) in
    let there : place < length pairs = omega (arith, within, so_far.sized) in
    let was : c.index_mut.result.now ≡ pair_known burst before names =
    c.index_mut.ensures.value ∙ any_default pairs place c.index_mut.result.now (idle (0, 0)) there ∙ so_far.others place (omega arith) ∙ known_at burst count place before old known within in
    one_changed (λ place was. pair_known burst (c.args.note.now ∷ before) (get_or (names_below count) place (0, 0))) (idle (0, 0)) old pairs place c.add.new.self so_far there
    (c.add.ensures burst names before standing was)

pub returns : goal.returns
returns c =
    λ burst count before standing known.
    all_known burst count c.args.note.now before c.args.pairs.now.items c.loop-place.pairs.items c.loop-place.place known (omega (arith, c.len-place-end.ensures, c.args.pairs.now.ok.0))
    (c.loop-place.invariant burst count before standing known)
