use Rattle.std.proofs.Common.{◌≡◌, ℕ, [], sym, ap, ◌∙◌, rules}
use Rattle.std.proofs.lemmas.Option.{unwrap_or-slice_get}
use Rattle.base_words.specs.Assembly.{journal_of}
use Rattle.model_world.specs.State.{assembly_of}
use Rattle.fairexec_run.proofs.journal.ModelHasCores.notes_of.Goals as goal

pub returns : goal.returns
returns c =
    let same : c.core.inside.0 ≡ c.args.core = search rules in
    c.journal.ensures.notes ∙ (sym (unwrap_or-slice_get c.args.self.now.journals c.core.inside.0 []) ∙ ap (λ (core : ℕ). journal_of core (assembly_of c.args.self.now)) same)
