use Rattle.std.proofs.Common.{◌∙◌, ap}
use Rattle.std.specs.Prelude.{cond, None}
use Rattle.base_words.specs.Names.{same_name}
use Rattle.note_facts.specs.Names.{known}
use Rattle.note_facts.proofs.NameLookups.{same_parts}
use Rattle.note_sinks.proofs.places.Places.forget.Goals as goal

pub returns : goal.returns
returns g c =
    λ other.
    rw c.parts.ensures at (c.remove-value.ensures.updates.0 (other.from, other.to, other.number)) ∙
    ap (λ test. cond test None (known c.self.inside.values.entries other)) (same_parts c.args.name.now other) ∙
    ap (λ entries. cond (same_name other c.args.name.now) None (known entries other)) c.self.view_is
