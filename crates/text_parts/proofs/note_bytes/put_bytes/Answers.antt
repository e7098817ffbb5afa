use Rattle.std.specs.Result.{is_ok}
use Rattle.text_parts.proofs.Fronts.{put_or_not}
use Rattle.text_parts.proofs.note_bytes.put_bytes.Goals as goal

pub returns-clause-front : goal.returns-clause-front
returns-clause-front c = put_or_not (is_ok c.extend_from_slice.result) _ _ _ c.extend_from_slice.ensures.items
