use Rattle.core_core.proofs.Names.{ap, arith, length, [], ◌++◌, ◌∙◌, ◌∷◌}
use Rattle.core_core.proofs.notes.two_notes.Goals as goal

pub new-notes-requires : goal.new-notes-requires
new-notes-requires g c = assumption

pub push-requires : goal.push-requires
push-requires g c = (assumption, omega (arith, ap length c.new-notes.ensures))

pub push-requires-2 : goal.push-requires-2
push-requires-2 g c =
    let one = c.push.ensures.items ∙ ap (λ items. items ++ c.args.first ∷ []) c.new-notes.ensures in
    (assumption, omega (arith, ap length one))

pub returns : goal.returns
returns g c =
    let one = c.push.ensures.items ∙ ap (λ items. items ++ c.args.first ∷ []) c.new-notes.ensures in
    c.push-2.ensures.items ∙ ap (λ items. items ++ c.args.second ∷ []) one
