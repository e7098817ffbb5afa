-- What is told of all cores of a run.
use Rattle.std.specs.Prelude.{ℕ, List}
use Rattle.base_words.specs.Assembly.{Assembly}
use Rattle.fairview_lag.specs.PairWalks.{KnowsLags}
use Rattle.fairview_lag.specs.declared.core_lags.CoreLags.{CoreLags}
use Rattle.judge_view.specs.Waits.{AreSpans}
use Rattle.judge_view.specs.Watches.{KnowsShares}
use Rattle.judge_view.specs.declared.shares.CoreShares.{CoreShares}
use Rattle.judge_view.specs.declared.waits.JobSpans.{JobSpans}
use Rattle.fairview_report.specs.Walks.{TellsAll}

-- the shares of all queues
abbrev pub AreShares : ℕ → ℕ → List CoreShares → Assembly ℕ → Type 0
AreShares cores burst each assembly = TellsAll (λ shares burst journal. KnowsShares burst shares journal) cores burst each assembly

-- the spans of all jobs
abbrev pub AreWaits : ℕ → ℕ → List JobSpans → Assembly ℕ → Type 0
AreWaits cores burst each assembly = TellsAll (λ spans burst journal. AreSpans spans journal) cores burst each assembly

-- the lags of each two queues
abbrev pub AreLags : ℕ → ℕ → List CoreLags → Assembly ℕ → Type 0
AreLags cores burst each assembly = TellsAll (λ lags burst journal. KnowsLags burst lags journal) cores burst each assembly
