use Rattle.std.proofs.Common.{◌<◌, ℕ, List, length, refl, subst, ◌∙◌, arith}
use Rattle.std.proofs.lemmas.List.{length-map}
use Rattle.judge_view.specs.Percentiles.{ArePercentiles, IsFirstGreatest}
use Rattle.judge_view.specs.Summaries.{length_in}
use Rattle.judge_view.proofs.SummaryLemmas.{get_there}
use Rattle.judge_view.proofs.summaries.summarize.Goals as goal

pub returns : goal.returns
returns c =
    let place = c.first_greatest-place.result in
    let are = c.deref.ensures.value ∙ c.in_ok-numbers.ensures in
    let greatest = subst (λ (numbers : List ℕ). IsFirstGreatest place numbers) are c.first_greatest-place.ensures in
    let there : place < length c.args.spans.now = omega (arith, greatest.there, length-map c.args.spans.now (length_in c.args.measure)) in
    record {
      jobs = refl;
      percentiles = subst (λ (numbers : List ℕ). ArePercentiles c.in_ok-percentiles.percentiles numbers) c.in_ok-numbers.ensures c.in_ok-percentiles.ensures;
      greatest = c.of.ensures;
      longest = record { place = place; there = get_there c.args.spans.now place c.index-spans-place.result there c.index-spans-place.is; greatest = greatest };
    }
