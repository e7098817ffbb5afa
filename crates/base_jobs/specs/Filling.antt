-- A script job whose polls are written one after another.
use Rattle.std.specs.Prelude.{ℕ, List, [], ◌∷◌}
use Rattle.base_jobs.specs.declared.poll.Poll.{Poll}
use Rattle.base_jobs.specs.declared.poll.Poll.TheVariants as poll

-- one more poll, before the last one
abbrev pub with_poll : Poll → List Poll → List Poll
with_poll more [] = []
with_poll more (last ∷ []) = more ∷ last ∷ []
with_poll more (first ∷ next ∷ rest) = first ∷ with_poll more (next ∷ rest)

-- one more poll that yields, before the last one
abbrev pub with_yield : ℕ → List Poll → List Poll
with_yield told polls = with_poll (poll.Yield told) polls

-- another last poll
abbrev pub with_last : Poll → List Poll → List Poll
with_last other [] = []
with_last other (last ∷ []) = other ∷ []
with_last other (first ∷ next ∷ rest) = first ∷ with_last other (next ∷ rest)
