-- Small cases that the definitions of lags refuse.
use Rattle.std.proofs.Common.{◌≡◌, ◌≤◌, true, false, List, [], ◌∷◌, get_or, map, sym, ap, ◌∙◌, arith}
use Rattle.std.proofs.lemmas.List.Elements.{All-contains, Contains-push}
use Rattle.fairview_lag.specs.BadLags.{BadLagsAreRefused, both_work, far, near}
use Rattle.fairview_marks.specs.Lists.{lists_below}
use Rattle.fairview_lag.specs.Lags.{apart}
use Rattle.fairview_lag.specs.PairWalks.{idle, names_below, pair_known, pairs_known}
use Rattle.fairview_lag.specs.declared.pair_walk.PairWalk.{PairWalk}
use Rattle.fairview_lag.specs.declared.stretch.Lag.{Lag}

-- three queues have pairs
some_pairs : [] ≡ pairs_known 1 3 both_work → ⊥
unfolding lists_below
some_pairs is = cc

-- the last of them is that of queues 1 and 2
last_pair : map idle (names_below 3) ≡ pairs_known 1 3 both_work → idle (1, 2) ≡ pair_known 1 both_work (1, 2)
unfolding lists_below
last_pair is = ap (λ (pairs : List PairWalk). get_or pairs 2 (idle (0, 0))) is

not_idle : idle (1, 2) ≡ pair_known 1 both_work (1, 2) → ⊥
not_idle is = let begun = ap (λ (pair : PairWalk). pair.begun) is in cc

pub refused : BadLagsAreRefused
refused = record {
  ahead = λ is. absurd (omega (arith, is.first));
  behind = λ is. absurd (omega (arith, is.second));
  idle = λ is. let work : false ≡ true = is.first_keeps in cc;
  late = λ is. let work : true ≡ false = is in cc;
  lesser = λ is. absurd (omega (arith, All-contains (λ (lag : Lag). apart lag ≤ apart near) (far ∷ []) far is.0 (Contains-push [] far)));
  silent = λ is. cc;
  fewer = λ lags two is. absurd (omega (arith, two, is.count));
  forgotten = λ lags none is. some_pairs (sym none ∙ is.pairs);
  all_idle = λ lags all is. not_idle (last_pair (sym all ∙ is.pairs));
}
