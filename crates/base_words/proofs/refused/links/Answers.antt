use Rattle.base_words.proofs.LinksRefused.{links_refused}
use Rattle.base_words.proofs.refused.links.Goals as goal

pub returns : goal.returns
returns c = links_refused
