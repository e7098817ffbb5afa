use Rattle.base_words.proofs.WaitingLaw.{waiting_is_line}
use Rattle.note_stats.proofs.laws.waiting_is_line.Goals as goal

pub returns : goal.returns
returns c = waiting_is_line
