use Rattle.text_parts.specs.Parts.{part_seen}
use Rattle.text_feed.proofs.TakeLemmas.{takes_part}
use Rattle.text_feed.proofs.turn.next_part.Goals as goal

pub returns-clause-takes : goal.returns-clause-takes
returns-clause-takes g c =
    takes_part g.S.Source.remaining c.args.actor c.args.before c.args.intake.now c.find_part.new.intake c.skip.new.self (part_seen c.in-Some.part) c.in-Some.size
    c.find_part.ensures.reads (rw c.in-Some.is at c.in_ok-part.ensures.ok) c.in_ok-judge_part.ensures.ok c.skip.ensures
