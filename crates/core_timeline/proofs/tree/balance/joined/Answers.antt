use Rattle.std.proofs.Common.{◌≡◌, false, ◌∷◌, refl, sym, ap, ◌∙◌, subst}
use Rattle.std.proofs.lemmas.Bool.{both_ways}
use Rattle.core_timeline.specs.declared.tree.Node.{Node}
use Rattle.core_timeline.specs.Tree.{KeyTree}
use Rattle.core_timeline.specs.Nodes.{key_of, IsLoose, IsTiltHeight}
use Rattle.core_timeline.proofs.Joins.{IsInBalance-joined, tilts-joined, keys-joined, height-joined, falls-joined}
use Rattle.core_timeline.proofs.tree.balance.joined.Given.{Over}
use Rattle.core_timeline.proofs.tree.balance.joined.Goals as goal
use Rattle.core_timeline.proofs.tree.balance.joined.Goals.{After-deref_mut}

-- the first key of the right tree is that of the node
first_is : (g : Over) (c : After-deref_mut g) → c.args.right.keys ≡ key_of c.take_first-next.new.vr c.deref_mut.result.now ∷ c.take_first-next.new.self.keys
first_is g c =
    c.take_first-next.ensures.first ∙ ap (λ (node : Node g.row.A.Denot). key_of c.take_first-next.new.vr node ∷ c.take_first-next.new.self.keys) (sym c.deref_mut.ensures.value)

pub take_sides-requires : goal.take_sides-requires
take_sides-requires g c = subst (λ (node : Node g.row.A.Denot). IsLoose node) (sym c.deref_mut.ensures.value) c.take_first-next.ensures.loose

pub close-requires : goal.close-requires
close-requires g c =
    IsInBalance-joined c.take_sides.new.node c.args.lean c.args.left c.args.right c.take_first-next.new.self c.deref_mut.result.now.queue c.take_sides.ensures c.requires.balanced c.know_filled.ensures
    (c.take_first-next.ensures.as_high c.if-not-lower.true)

pub tilt-lower-requires : goal.tilt-lower-requires
tilt-lower-requires g c =
    tilts-joined c.take_sides.new.node c.args.lean c.args.left c.args.right c.take_first-next.new.self c.deref_mut.result.now.queue c.take_sides.ensures c.requires.balanced
    (c.take_first-next.ensures.lower c.if-not-lower.false)

pub close-requires-2 : goal.close-requires-2
close-requires-2 g c = c.tilt-lower.ensures.0

pub returns-then-not-lower : goal.returns-then-not-lower
returns-then-not-lower g c =
    let node = c.take_sides.new.node in
    let same = c.take_first-next.ensures.as_high c.if-not-lower.true in
    let at = (goal.at.returns-then-not-lower g c).After-deref_mut in
    record {
      keys = ap (λ (tree : KeyTree). tree.keys) c.close.ensures.same_view
          ∙ keys-joined node c.args.lean c.args.left c.args.right c.take_first-next.new.self c.deref_mut.result.now.queue c.take_first-next.new.vr c.take_sides.ensures (first_is g at);
      lower = λ e. absurd (both_ways false refl e);
      as_high = λ _. height-joined node c.args.lean c.args.left c.args.right c.take_first-next.new.self c.deref_mut.result.now.queue c.close.result.height c.take_sides.ensures same
          (ap (λ (tree : KeyTree). tree.height) c.close.ensures.same_view);
    }

pub returns : goal.returns
returns g c =
    let node = c.take_sides.new.node in
    let at = (goal.at.returns g c).After-deref_mut in
    let fell = falls-joined node c.args.lean c.args.left c.args.right c.take_first-next.new.self c.deref_mut.result.now.queue c.close-2.result.height c.tilt-lower.result c.take_sides.ensures c.requires.balanced
    (c.take_first-next.ensures.lower c.if-not-lower.false)
    (subst (λ (tree : KeyTree). IsTiltHeight c.tilt-lower.result node.right.height node.left.height tree.height) (sym c.close-2.ensures.same_view) c.tilt-lower.ensures.2) in
    record {
      keys = ap (λ (tree : KeyTree). tree.keys) c.close-2.ensures.same_view ∙ c.tilt-lower.ensures.1
          ∙ keys-joined node c.args.lean c.args.left c.args.right c.take_first-next.new.self c.deref_mut.result.now.queue c.take_first-next.new.vr c.take_sides.ensures (first_is g at);
      lower = fell.lower;
      as_high = fell.as_high;
    }
