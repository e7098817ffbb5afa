use Rattle.std.proofs.Common.{[], ◌∷◌, refl}
use Rattle.base_jobs.proofs.AskingLemmas.{MakesSome-more}
use Rattle.base_jobs.specs.Calls.Call.{Submit}
use Rattle.base_jobs.proofs.asking.submit_and_keep.Goals as goal

pub returns-clause-some : goal.returns-clause-some
returns-clause-some g c =
    MakesSome-more g.P.Post.Does (Submit c.args.to c.args.order c.submit.result ∷ []) _ c.args.post.now _ c.requires.some (c.submit.new.self, c.submit.ensures.does, refl)
