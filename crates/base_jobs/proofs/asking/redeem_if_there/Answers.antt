use Rattle.std.proofs.Common.{[], ◌∷◌, refl}
use Rattle.base_jobs.proofs.AskingLemmas.{MakesSome-more}
use Rattle.base_jobs.specs.Calls.Call.{Redeem}
use Rattle.base_jobs.proofs.asking.redeem_if_there.Goals as goal

pub returns-in-Ok-clause-some : goal.returns-in-Ok-clause-some
returns-in-Ok-clause-some g c =
    MakesSome-more g.P.Post.Does (Redeem c.args.ticket c.redeem.result ∷ []) _ c.args.post.now _ c.requires.some (c.redeem.new.self, c.redeem.ensures.does, refl)

pub returns-in-Err-Pending-clause-some : goal.returns-in-Err-Pending-clause-some
returns-in-Err-Pending-clause-some g c =
    MakesSome-more g.P.Post.Does (Redeem c.args.ticket c.redeem.result ∷ []) _ c.args.post.now _ c.requires.some (c.redeem.new.self, c.redeem.ensures.does, refl)

pub returns-in-Err-Gone-clause-some : goal.returns-in-Err-Gone-clause-some
returns-in-Err-Gone-clause-some g c =
    MakesSome-more g.P.Post.Does (Redeem c.args.ticket c.redeem.result ∷ []) _ c.args.post.now _ c.requires.some (c.redeem.new.self, c.redeem.ensures.does, refl)

pub returns-in-Err-Unknown-clause-some : goal.returns-in-Err-Unknown-clause-some
returns-in-Err-Unknown-clause-some g c =
    MakesSome-more g.P.Post.Does (Redeem c.args.ticket c.redeem.result ∷ []) _ c.args.post.now _ c.requires.some (c.redeem.new.self, c.redeem.ensures.does, refl)
