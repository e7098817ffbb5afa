use Rattle.std.proofs.Common.{◌++◌, ap, ◌∙◌}
use Rattle.std.proofs.lemmas.Result.{on_ok_weaker}
use Rattle.base_words.proofs.Prefixes.{IsPrefix-along}
use Rattle.text_parts.specs.declared.part.Head.{Head}
use Rattle.text_parts.specs.Parts.{head_bytes, mark}
use Rattle.text_parts.proofs.Fronts.{four_put}
use Rattle.text_parts.proofs.part.put_head.Goals as goal

pub returns-in_err-put_wide-clause-front : goal.returns-in_err-put_wide-clause-front
returns-in_err-put_wide-clause-front c = IsPrefix-along _ _ _ c.put_bytes.ensures.front c.put_wide.ensures.front

pub returns-in_err-put_wide-2-clause-front : goal.returns-in_err-put_wide-2-clause-front
returns-in_err-put_wide-2-clause-front c = IsPrefix-along _ _ _ (IsPrefix-along _ _ _ c.put_bytes.ensures.front c.put_wide.ensures.front) c.put_wide-2.ensures.front

pub returns-clause-front : goal.returns-clause-front
returns-clause-front c = IsPrefix-along _ _ _ (IsPrefix-along _ _ _ (IsPrefix-along _ _ _ c.put_bytes.ensures.front c.put_wide.ensures.front) c.put_wide-2.ensures.front) c.put_wide-3.ensures.front

pub returns-clause-bytes : goal.returns-clause-bytes
returns-clause-bytes c =
    on_ok_weaker c.put_wide-3.result
    (
    λ put.
    four_put _ _ _ _ _ _ _ _ _ c.in_ok-put_bytes.ensures.bytes c.in_ok-put_wide.ensures.bytes c.in_ok-put_wide-2.ensures.bytes put
    ∙ ap (λ (head : Head). c.args.out.now.items ++ (mark ++ head_bytes head)) c.head.view_is
    )
    c.put_wide-3.ensures.bytes
