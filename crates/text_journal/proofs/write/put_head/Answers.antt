use Rattle.std.proofs.Common.{◌≡◌, ◌++◌, false, ap, ◌∙◌, arith}
use Rattle.std.specs.Prelude.{string_bytes}
use Rattle.std.proofs.lemmas.Bool.Decides.{nat_tests}
use Rattle.std.proofs.lemmas.Result.{on_ok_weaker}
use Rattle.base_words.specs.Bursts.{has_bursts}
use Rattle.text_journal.proofs.LineLemmas.{single_head_text}
use Rattle.text_journal.proofs.write.put_head.Goals as goal

pub returns-else-burst-gt1 : goal.returns-else-burst-gt1
returns-else-burst-gt1 c =
    let single : has_bursts c.burst-burst.result ≡ false = grind (arith, nat_tests, c.if-burst-gt1.false) in
    on_ok_weaker c.put_single_head.result
    (λ put. put
    ∙ ap (λ text. string_bytes c.args.page.now ++ text)
    (single_head_text c.args.assembly.now c.cores-cores.result c.cap-cap.result c.burst-burst.result c.cores-cores.ensures.value c.cap-cap.ensures c.burst-burst.ensures single))
    c.put_single_head.ensures
