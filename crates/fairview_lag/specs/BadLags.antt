-- Small cases that the definitions of lags refuse.
use Rattle.std.specs.Prelude.{◌≡◌, ℕ, Some, None, [], ◌∷◌, map}
use Rattle.base_words.specs.declared.note.Note.TheVariants.{Took, Pick}
use Rattle.base_words.specs.BadJournals.{submission}
use Rattle.base_words.specs.Journal.{Journal}
use Rattle.fairview_lag.specs.Lags.{IsGreatest}
use Rattle.fairview_lag.specs.Laws.{IsWithinBound, IsStretch, BeginsHere}
use Rattle.fairview_lag.specs.PairWalks.{KnowsLags, idle as never_together, names_below}
use Rattle.fairview_lag.specs.declared.core_lags.CoreLags.{CoreLags}
use Rattle.fairview_lag.specs.declared.stretch.Lag.{Lag}

-- the first queue is ahead by 4, of at most 3
abbrev pub far : Lag
far = record { turn = 1; first = 5; second = 1; bound = 3 }

-- the second queue is ahead by 4, of at most 3
abbrev pub far_behind : Lag
far_behind = record { turn = 1; first = 1; second = 5; bound = 3 }

-- the first queue is ahead by 1
abbrev pub near : Lag
near = record { turn = 2; first = 2; second = 1; bound = 3 }

-- queues 1 and 2 have work
abbrev pub both_work : Journal ℕ
both_work = Took (submission 2) 2 ∷ Took (submission 1) 1 ∷ []

-- what lies beyond its bound is refused, and so are a stretch without work, one that begins too late, a lead that isn't the greatest, and no lead if there is one
pub record BadLagsAreRefused : Type 0 where
  pub ahead : IsWithinBound far → ⊥
  pub behind : IsWithinBound far_behind → ⊥
  pub idle : IsStretch 1 2 [] [] [] → ⊥
  pub late : BeginsHere 1 2 (Pick 1 0 ∷ both_work) → ⊥
  pub lesser : IsGreatest (far ∷ []) (Some near) → ⊥
  pub silent : IsGreatest (near ∷ []) None → ⊥
  -- a walk that counts too few queues, one that forgot its pairs, and one to which queues 1 and 2 never had work at once
  pub fewer : (lags : CoreLags) → lags.count ≡ 2 → KnowsLags 1 lags both_work → ⊥
  pub forgotten : (lags : CoreLags) → lags.pairs.items ≡ [] → KnowsLags 1 lags both_work → ⊥
  pub all_idle : (lags : CoreLags) → lags.pairs.items ≡ map never_together (names_below 3) → KnowsLags 1 lags both_work → ⊥
