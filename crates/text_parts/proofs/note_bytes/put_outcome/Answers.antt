use Rattle.base_words.proofs.Prefixes.{IsPrefix-along}
use Rattle.text_parts.proofs.note_bytes.put_outcome.Goals as goal

pub returns-in_err-put_byte-in-Finished-clause-front : goal.returns-in_err-put_byte-in-Finished-clause-front
returns-in_err-put_byte-in-Finished-clause-front c = IsPrefix-along _ _ _ c.put_name.ensures.front c.put_byte.ensures.front

pub returns-in_err-put_byte-in-Answered-clause-front : goal.returns-in_err-put_byte-in-Answered-clause-front
returns-in_err-put_byte-in-Answered-clause-front c = IsPrefix-along _ _ _ c.put_name.ensures.front c.put_byte-in-Answered.ensures.front

pub returns-in-Returned-clause-front : goal.returns-in-Returned-clause-front
returns-in-Returned-clause-front c = IsPrefix-along _ _ _ c.put_name.ensures.front c.put_bytes.ensures.front

pub returns-in_ok-put_byte-in-Finished-clause-front : goal.returns-in_ok-put_byte-in-Finished-clause-front
returns-in_ok-put_byte-in-Finished-clause-front c = IsPrefix-along _ _ _ (IsPrefix-along _ _ _ c.put_name.ensures.front c.put_byte.ensures.front) c.put_wide.ensures.front

pub returns-in_ok-put_byte-in-Answered-clause-front : goal.returns-in_ok-put_byte-in-Answered-clause-front
returns-in_ok-put_byte-in-Answered-clause-front c = IsPrefix-along _ _ _ (IsPrefix-along _ _ _ c.put_name.ensures.front c.put_byte-in-Answered.ensures.front) c.put_answer.ensures.front
