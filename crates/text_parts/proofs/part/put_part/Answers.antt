use Rattle.std.proofs.Common.{arith}
use Rattle.std.proofs.lemmas.Result.{on_ok_weaker}
use Rattle.base_words.proofs.Prefixes.{IsPrefix-along}
use Rattle.text_parts.proofs.Puts.{part_put}
use Rattle.text_parts.proofs.part.put_part.Goals as goal

pub returns-in_err-put_notes-clause-front : goal.returns-in_err-put_notes-clause-front
returns-in_err-put_notes-clause-front c = IsPrefix-along _ _ _ c.put_head.ensures.front c.put_notes.ensures.front

pub returns-clause-front : goal.returns-clause-front
returns-clause-front c = IsPrefix-along _ _ _ (IsPrefix-along _ _ _ c.put_head.ensures.front c.put_notes.ensures.front) c.put_sums.ensures.front

pub returns-clause-bytes : goal.returns-clause-bytes
returns-clause-bytes c =
    on_ok_weaker c.put_sums.result
    (
    λ put.
    part_put (record { actor = c.args.actor; before = c.args.before; notes = c.args.notes.now }) c.size_of.result c.len-start.result c.args.out.now.items c.put_head.new.out.items
    c.put_notes.new.out.items c.put_sums.new.out.items c.size_of.ensures (omega arith) c.in_ok-put_head.ensures.bytes c.in_ok-put_notes.ensures.bytes put
    )
    c.put_sums.ensures.bytes
