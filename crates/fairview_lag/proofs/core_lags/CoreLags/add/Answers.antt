use Rattle.std.proofs.Common.{◌≡◌, ◌∷◌, length, take, max, ap, sym, ◌∙◌, arith}
use Rattle.std.proofs.Math.Seq.{take-append_seam}
use Rattle.fairview_lag.specs.Pairs.{queue_count}
use Rattle.fairview_lag.specs.PairWalks.{pairs_known}
use Rattle.fairview_lag.proofs.core_lags.CoreLags.add.Goals as goal

pub returns-in-Ok-clause-knows : goal.returns-in-Ok-clause-knows
returns-in-Ok-clause-knows c =
    λ burst before short knows.
    let note = c.args.note.now in
    let old = c.args.self.now in
    let standing = c.in-Ok.ensures.knows burst before short knows.standing in
    let count : max old.count c.queues_told-told.result ≡ queue_count (note ∷ before) = λ i. max (knows.count i) (c.queues_told-told.ensures.value i) in
    let were = knows.pairs ∙ ap (λ many. pairs_known burst many before) (sym knows.count) in
    let pushed = c.in-Ok.ensures.all burst before knows.count were ∙ ap (λ many. pairs_known burst many before) count in
    record { standing = standing; count = c.max-self.ensures ∙ ap (λ had. max had c.queues_told-told.result) c.add_to_queues.ensures.count ∙ count; pairs = c.add_to_all.ensures burst (queue_count (note ∷ before)) before standing pushed }

pub returns-in-Err-clause-refused : goal.returns-in-Err-clause-refused
returns-in-Err-clause-refused c =
    let old = c.args.self.now.pairs.items in
    let known : c.len-known.result ≡ length old = omega (arith, c.len-known.ensures, c.args.self.now.pairs.ok.0) in
    record {
      standing = c.in-Err.ensures.refused;
      count = c.add_to_queues.ensures.count;
      pairs = c.truncate.ensures.items ∙ (λ i. take (known i) (c.add_to_queues.ensures.front.1 i)) ∙ take-append_seam old c.add_to_queues.ensures.front.0;
    }
