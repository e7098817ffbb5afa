use Rattle.std.proofs.Common.{rules, ℕ, [], ◌∷◌, ◌∙◌, List, ap, sym, subst}
use Rattle.atomic_table.specs.Table.{opening}
use Rattle.run_watch.specs.Rule.{IsBoard}
use Rattle.run_watch.specs.Views.{first_view}
use Rattle.run_watch.proofs.Beginning.{starts}
use Rattle.run_watch.proofs.WatcherSteps.{parts}
use Rattle.run_watch.proofs.start.lay.Goals as goal

pub of_words-requires : goal.of_words-requires
of_words-requires c =
    let e = c.as_slice.ensures.value ∙ (c.in_ok-words.ensures ∙ ap (λ (l : List ℕ). 0 ∷ 0 ∷ l) c.requires) in
    subst (λ (words : List ℕ). IsBoard c.args.terms.now (opening words [] (first_view c.args.terms.now))) (sym e) (starts c.args.terms.now)

pub split_seat-other-requires : goal.split_seat-other-requires
split_seat-other-requires c = (search rules, search rules, parts _ 0 _ c.in_ok-table.seat.me)
