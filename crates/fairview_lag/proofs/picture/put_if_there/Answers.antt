use Rattle.std.proofs.Common.{◌≡◌, List, ℕ, ◌<◌, ◌≤◌, ◌++◌, append-nil, sym, ap, ◌∙◌, arith, string_bytes}
use Rattle.std.proofs.lemmas.Result.{on_ok_weaker}
use Rattle.base_words.specs.Assembly.{journal_of}
use Rattle.fairview_lag.specs.declared.pairs.PairLag.{PairLag}
use Rattle.fairview_lag.proofs.PanelSteps.{panel_there, panel_nowhere}
use Rattle.fairview_lag.proofs.picture.put_if_there.Goals as goal

pub returns-then-pair-cores : goal.returns-then-pair-cores
returns-then-pair-cores c =
    let core : c.pair.inside.0.0.0 ≡ c.args.pair.now.core = ap (λ (pair : PairLag). pair.core) c.pair.view_is in
    let there : c.args.pair.now.core < c.args.assembly.now.cores = omega (arith, c.cores.ensures.value, c.if-pair-cores.true, core) in
    let told = panel_there c.burst.result c.args.index c.args.pair.now c.args.assembly.now c.journal-journal.result.now.notes c.burst.ensures there
    (c.journal-journal.ensures ∙ ap (λ (number : ℕ). journal_of number c.args.assembly.now) core) in
    on_ok_weaker c.put_panel.result (λ put. put ∙ ap (λ (text : List ℕ). string_bytes c.args.page.now ++ text) told) c.put_panel.ensures

pub returns-else-pair-cores : goal.returns-else-pair-cores
returns-else-pair-cores c =
    let core : c.pair.inside.0.0.0 ≡ c.args.pair.now.core = ap (λ (pair : PairLag). pair.core) c.pair.view_is in
    let past : c.args.assembly.now.cores ≤ c.args.pair.now.core = omega (arith, c.cores.ensures.value, c.if-pair-cores.false, core) in
    sym (ap (λ (text : List ℕ). string_bytes c.args.page.now ++ text) (panel_nowhere c.args.index c.args.pair.now c.args.assembly.now past) ∙ append-nil (string_bytes c.args.page.now))
