-- How a sink that judges is opened.
use Rattle.std.specs.Prelude.{◌≡◌, ℕ, true, None, Result, Ok, Err}
use Rattle.judge_sink.specs.declared.judging.JudgingError.{JudgingError}
use Rattle.judge_sink.specs.declared.judging.JudgingError.TheVariants.{BadConfig, Memory}
use Rattle.judge_sink.specs.Judging.{AreGood, terms_in}
use Rattle.judge_sink.specs.Sinks.{JudgingView}

-- it judges, and was asked nothing; or the numbers aren't good, or there is no memory, and the inner sink comes back
abbrev pub OpensJudging : {S : Type 0} → ℕ → ℕ → ℕ → ℕ → S → Result (JudgingView S) (JudgingError S) → Type 0
OpensJudging core cores cap burst inner (Ok judging) =
    AreGood core cores cap burst × (judging ≡ record { inner = inner; terms = terms_in core cores cap burst; goes_on = true; fault = None; unasked = 0 })
OpensJudging core cores cap burst inner (Err (BadConfig back)) = (AreGood core cores cap burst → ⊥) × (back ≡ inner)
OpensJudging core cores cap burst inner (Err (Memory back)) = AreGood core cores cap burst × (back ≡ inner)
