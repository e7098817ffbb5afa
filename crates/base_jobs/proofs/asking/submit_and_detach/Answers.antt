use Rattle.std.proofs.Common.{◌∷◌, [], refl}
use Rattle.std.specs.Prelude.{Ok, Err}
use Rattle.base_jobs.specs.Calls.Call.{Submit, Detach}
use Rattle.base_jobs.proofs.AskingLemmas.{MakesSome-more}
use Rattle.base_jobs.proofs.asking.submit_and_detach.Goals as goal

pub returns-in-Ok-clause-some : goal.returns-in-Ok-clause-some
returns-in-Ok-clause-some g c =
    MakesSome-more g.P.Post.Does (Submit c.args.to c.args.order (Ok c.in-Ok.ticket) ∷ Detach c.in-Ok.ticket c.detach-detached.result ∷ []) _ c.args.post.now _ c.requires.some
    (c.submit.new.self, c.in-Ok.ensures.does, (c.detach-detached.new.self, c.detach-detached.ensures.does, refl))

pub returns-in-Err-clause-some : goal.returns-in-Err-clause-some
returns-in-Err-clause-some g c =
    MakesSome-more g.P.Post.Does (Submit c.args.to c.args.order (Err c.in-Err.error) ∷ []) _ c.args.post.now _ c.requires.some (c.submit.new.self, c.in-Err.ensures.does, refl)
