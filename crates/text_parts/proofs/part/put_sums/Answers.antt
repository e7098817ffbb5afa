use Rattle.base_words.proofs.Prefixes.{IsPrefix-along}
use Rattle.text_parts.proofs.part.put_sums.Goals as goal

pub returns-clause-front : goal.returns-clause-front
returns-clause-front c = IsPrefix-along _ _ _ c.put_wide.ensures.front c.put_wide-2.ensures.front
