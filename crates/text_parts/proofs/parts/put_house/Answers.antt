use Rattle.base_words.proofs.Prefixes.{IsPrefix-along}
use Rattle.text_parts.proofs.parts.put_house.Goals as goal

pub returns-in_err-put_bytes-2-clause-front : goal.returns-in_err-put_bytes-2-clause-front
returns-in_err-put_bytes-2-clause-front c = IsPrefix-along _ _ _ c.put_bytes.ensures.front c.put_bytes-2.ensures.front

pub returns-clause-front : goal.returns-clause-front
returns-clause-front c = IsPrefix-along _ _ _ (IsPrefix-along _ _ _ c.put_bytes.ensures.front c.put_bytes-2.ensures.front) c.put_short.ensures.front
