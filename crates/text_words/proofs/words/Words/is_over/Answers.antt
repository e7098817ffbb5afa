use Rattle.text_words.proofs.WordLemmas.{over_shown}
use Rattle.text_words.proofs.words.Words.is_over.Goals as goal

pub returns : goal.returns
returns c = over_shown c.self.inside.rest c.args.self.now c.is_none.result c.self.view_is c.is_none.ensures
