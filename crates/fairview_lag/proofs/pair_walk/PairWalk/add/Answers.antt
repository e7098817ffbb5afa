use Rattle.std.proofs.Common.{◌≡◌, ◌∷◌, ap, sym, ◌∙◌}
use Rattle.fairview_lag.specs.Lags.{further, greatest_lag, lag_told}
use Rattle.fairview_lag.specs.Stretches.{begun}
use Rattle.fairview_lag.specs.declared.pair_walk.PairWalk.{PairWalk}
use Rattle.fairview_lag.proofs.pair_walk.PairWalk.add.Goals as goal

pub returns : goal.returns
returns c =
    λ burst names before knows is.
    let note = c.args.note.now in
    let old = c.args.self.now in
    let first = ap (λ (it : PairWalk). it.first) is in
    let second = ap (λ (it : PairWalk). it.second) is in
    let began = ap (λ (it : PairWalk). it.begun) is in
    let told = ap (λ (it : PairWalk). it.greatest) is in
    let was : old.begun ≡ begun burst old.first old.second before = began ∙ (λ i. begun burst (sym first i) (sym second i) before) in
    let here = c.begun_after-self.ensures burst note before knows was in
    let lag : c.lag_told-lag.result ≡ lag_told burst names.0 names.1 note before = c.lag_told-lag.ensures burst before knows here ∙ (λ i. lag_told burst (first i) (second i) note before) in
    let greatest : c.further-self.result ≡ greatest_lag burst names.0 names.1 (note ∷ before) = c.further-self.ensures ∙ (λ i. further (told i) (lag i)) in
    let now : c.begun_after-self.result ≡ begun burst names.0 names.1 (note ∷ before) = here ∙ (λ i. begun burst (first i) (second i) (note ∷ before)) in
    λ i. record { first = first i; second = second i; begun = now i; greatest = greatest i }
