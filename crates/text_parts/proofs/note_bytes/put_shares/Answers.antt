use Rattle.base_words.proofs.Prefixes.{IsPrefix-along}
use Rattle.text_parts.proofs.note_bytes.put_shares.Goals as goal

pub returns-clause-front : goal.returns-clause-front
returns-clause-front c = IsPrefix-along _ _ _ c.put_bytes.ensures.front c.put_short.ensures.front
