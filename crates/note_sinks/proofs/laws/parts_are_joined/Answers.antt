use Rattle.std.proofs.Common.{◌++◌, ap, codes, ◌∙◌}
use Rattle.text_journal.specs.Texts.{end_line, head_text}
use Rattle.text_journal.proofs.LineLemmas.{journal_text-parts}
use Rattle.note_sinks.proofs.JoinLemmas.{joined}
use Rattle.note_sinks.proofs.laws.parts_are_joined.Goals as goal

pub returns : goal.returns
returns c =
    λ assembly. journal_text-parts assembly ∙ ap (λ text. head_text assembly ++ (text ++ (end_line ++ codes "\n"))) (joined 0 assembly.journals)
