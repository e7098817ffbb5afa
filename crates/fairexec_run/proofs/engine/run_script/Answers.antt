use Rattle.std.specs.Prelude.{Result, Ok, Err, IfErr}
use Rattle.std.proofs.Common.{inl, inr, ⊎_elim}
use Rattle.text_words.specs.declared.fault.Cause.{Cause}
use Rattle.text_words.specs.declared.fault.Fault.{Fault}
use Rattle.text_words.specs.declared.fault.Fault.TheVariants.{Text, Read, Write, Memory}
use Rattle.text_words.specs.Faults.{IfUnwritten, IfEnded}
use Rattle.fairexec_run.specs.Begun.{IsCutShort}
use Rattle.fairexec_run.specs.Outputs.{TellsScript}
use Rattle.fairexec_script.specs.Scripts.{drafted}
use Rattle.fairexec_run.proofs.engine.run_script.Goals as goal

-- what holds anyway holds where a write failed
unwritten : (fact : Type 0) → fact → {T : Type 0} → (result : Result T (Fault Cause)) → IfErr result (IfUnwritten fact)
unwritten fact known (Ok value) = tt
unwritten fact known (Err (Text line cause)) = tt
unwritten fact known (Err Read) = tt
unwritten fact known (Err Write) = known
unwritten fact known (Err Memory) = tt

ended : (fact : Type 0) → fact → {T : Type 0} → (result : Result T (Fault Cause)) → IfErr result (IfEnded fact)
ended fact known (Ok value) = tt
ended fact known (Err (Text line cause)) = tt
ended fact known (Err Read) = tt
ended fact known (Err Write) = known
ended fact known (Err Memory) = known

pub returns-in_err-play-clause-judged : goal.returns-in_err-play-clause-judged
returns-in_err-play-clause-judged g c =
    unwritten (TellsScript (g.R.Source.remaining c.args.source.now)) (drafted c.in_ok-script.script, c.in_ok-script.ensures.ok) c.from_residual-in_err-play.result

pub returns-in_err-play-clause-begun : goal.returns-in_err-play-clause-begun
returns-in_err-play-clause-begun g c =
    ended (IsCutShort c.args.journal c.args.stats (g.R.Source.remaining c.args.source.now) (g.S.ByteSink.contents c.args.sink.now) (g.S.ByteSink.contents c.play.new.sink))
    (⊎_elim (λ kept. inl kept) (λ part. inr (drafted c.in_ok-script.script, c.in_ok-script.ensures.ok, part)) c.in_err-play.ensures.err) c.from_residual-in_err-play.result
