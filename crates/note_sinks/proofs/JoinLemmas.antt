-- The lines of all actors, part after part.
use Rattle.std.proofs.Common.{◌≡◌, ℕ, ◌+◌, List, [], ◌∷◌, ◌++◌, ap, refl, ◌∙◌}
use Rattle.base_words.specs.Journal.{Journal}
use Rattle.text_journal.specs.Texts.{actor_lines, journal_lines, text_of}
use Rattle.text_journal.proofs.LineLemmas.{text_of-append}
use Rattle.note_sinks.specs.Laws.{parts_text}

pub joined : (actor : ℕ) (journals : List (Journal ℕ)) → text_of (journal_lines actor journals) ≡ parts_text actor journals
joined actor [] = refl
joined actor (journal ∷ others) =
    text_of-append (actor_lines actor journal) (journal_lines (actor + 1) others) ∙ ap (λ rest. text_of (actor_lines actor journal) ++ rest) (joined (actor + 1) others)
