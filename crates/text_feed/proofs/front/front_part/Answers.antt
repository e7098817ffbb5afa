use Rattle.text_parts.specs.Parts.{part_seen}
use Rattle.text_feed.proofs.FrontLemmas.{stands_in_front}
use Rattle.text_feed.proofs.front.front_part.Goals as goal

pub returns-in-Ok-clause-ok : goal.returns-in-Ok-clause-ok
returns-in-Ok-clause-ok c = stands_in_front (part_seen c.in-Ok.part) c.args.bytes.now c.in-Ok.rest.now c.in-Ok.ensures.exact c.in-Ok.ensures.found
