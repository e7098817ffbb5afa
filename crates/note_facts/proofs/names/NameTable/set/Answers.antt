use Rattle.std.proofs.Common.{◌∙◌, ap}
use Rattle.std.specs.Prelude.{cond, Some}
use Rattle.base_words.specs.Names.{same_name}
use Rattle.note_facts.specs.Names.{known}
use Rattle.note_facts.proofs.NameLookups.{same_parts}
use Rattle.note_facts.proofs.names.NameTable.set.Goals as goal
use Rattle.note_facts.proofs.names.NameTable.set.Goals.{in-Ok, in-Err}

pub returns-clause-set : goal.returns-clause-set
returns-clause-set g c =
    elim c.match-insert.branch [
      | in-Ok w ↦
          rw w.result-is
          (
          λ other.
          rw c.parts.ensures at (w.in-Ok.ensures.updates.0 (other.from, other.to, other.number)) ∙
          ap (λ test. cond test (Some c.args.value) (known c.self.inside.values.entries other)) (same_parts c.args.name other) ∙
          ap (λ entries. cond (same_name other c.args.name) (Some c.args.value) (known entries other)) c.self.view_is
          )
      | in-Err w ↦ rw w.result-is tt
    ]
