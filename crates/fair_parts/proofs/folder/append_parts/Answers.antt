use Rattle.fair_parts.proofs.Joined.{is_more}
use Rattle.fair_parts.proofs.folder.append_parts.Goals as goal

pub loop-actor-preserved : goal.loop-actor-preserved
loop-actor-preserved g c =
    let read = c.in_ok-append.ensures.ok in
    is_more g.R.File.Read.remaining c.loop-actor.bytes.items c.append.new.bytes.items read.1 read.0 c.loop-actor.invariant read.2 read.3
