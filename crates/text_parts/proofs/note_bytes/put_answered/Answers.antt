use Rattle.base_words.proofs.Prefixes.{IsPrefix-along}
use Rattle.text_parts.proofs.note_bytes.put_answered.Goals as goal

pub returns-clause-front : goal.returns-clause-front
returns-clause-front c = IsPrefix-along _ _ _ c.put_name.ensures.front c.put_answer.ensures.front
