-- Small cases in which notes are not those of a text.
use Rattle.std.specs.Prelude.{◌≡◌, ℕ, List, [], codes}
use Rattle.text_journal.specs.Handed.{Handed}
use Rattle.text_journal.specs.Passing.{MakesText}

-- the text of one core without a note
abbrev pub one_core : List ℕ
one_core = codes "journal 1\ncores 1 cap 4\nend\n"

-- all notes become the number of cores
abbrev pub tells_cores : ℕ → Handed → Type 0
tells_cores cores handed = cores ≡ handed.cores

-- a text that is none of journals is refused, and so are the notes of another number of cores than the text tells, and what the notes didn't become
pub record BadPassesAreRefused : Type 0 where
  pub empty : MakesText tells_cores 1 [] → ⊥
  pub third_form : MakesText tells_cores 1 (codes "journal 3\ncores 1 cap 4\nend\n") → ⊥
  pub more_cores : MakesText tells_cores 2 one_core → ⊥
  pub unmade : MakesText (λ (cores : ℕ) handed. ⊥) 1 one_core → ⊥
