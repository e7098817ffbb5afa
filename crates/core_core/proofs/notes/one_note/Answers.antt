use Rattle.core_core.proofs.Names.{ap, arith, length, [], ◌++◌, ◌∙◌, ◌∷◌}
use Rattle.core_core.proofs.notes.one_note.Goals as goal

pub new-notes-requires : goal.new-notes-requires
new-notes-requires g c = assumption

pub push-requires : goal.push-requires
push-requires g c = (assumption, omega (arith, ap length c.new-notes.ensures))

pub returns : goal.returns
returns g c = c.push.ensures.items ∙ ap (λ items. items ++ c.args.note ∷ []) c.new-notes.ensures
