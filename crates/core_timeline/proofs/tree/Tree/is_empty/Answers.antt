use Rattle.std.proofs.Common.{true, false, ap, sym, ◌∙◌, refl}
use Rattle.std.proofs.lemmas.Bool.{both_ways}
use Rattle.core_timeline.specs.Nodes.{seen}
use Rattle.core_timeline.proofs.Lifts.{top_some, top_not_empty}
use Rattle.core_timeline.proofs.tree.Tree.is_empty.Goals as goal

pub returns-in-Empty : goal.returns-in-Empty
returns-in-Empty g c = record {
  empty = (λ _. sym c.self.view_is ∙ ap seen c.in-Empty.is, λ _. refl);
  some = λ e. absurd (both_ways true e refl);
}

pub returns-in-Top : goal.returns-in-Top
returns-in-Top g c =
    let some = top_some c.self.inside.root c.in-Top.field-0 c.in-Top.field-1 c.args.self.now c.self.view_is c.in-Top.is in
    record {
      empty = (λ e. absurd (both_ways false refl e), λ none. absurd (top_not_empty c.args.self.now some none));
      some = λ _. some;
    }
