use Rattle.actor_desk.proofs.post.RecordedPost.lend.Goals as goal

pub invariant_of-result : goal.invariant_of-result
invariant_of-result g c = record { outs = c.requires.outs; spare = c.requires.spare }
