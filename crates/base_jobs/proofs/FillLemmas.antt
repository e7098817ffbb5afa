-- The polls of a script job that are written one after another.
use Rattle.std.proofs.Common.{◌≡◌, ℕ, List, [], ◌∷◌, ◌++◌, refl, ap}
use Rattle.base_jobs.specs.declared.poll.Poll.{Poll}
use Rattle.base_jobs.specs.declared.poll.Poll.TheVariants as poll
use Rattle.base_jobs.specs.declared.poll.Early.TheVariants.{Yields}
use Rattle.base_jobs.specs.declared.poll.Yielding.{Yielding}
use Rattle.base_jobs.specs.Scripts.{script_polls, yielding_poll}
use Rattle.base_jobs.specs.Filling.{with_poll, with_yield, with_last}

-- one more poll is one more that is kept
pub with_poll-kept : (yields : List Yielding) (more : Yielding) (told value : ℕ) →
    with_poll (yielding_poll more) (script_polls yields told value) ≡ script_polls (yields ++ more ∷ []) told value
with_poll-kept [] more told value = refl
with_poll-kept (first ∷ []) more told value = refl
with_poll-kept (first ∷ next ∷ rest) more told value = ap (λ polls. yielding_poll first ∷ polls) (with_poll-kept (next ∷ rest) more told value)

pub with_yield-kept : (yields : List Yielding) (time told value : ℕ) →
    with_yield time (script_polls yields told value) ≡ script_polls (yields ++ record { told = time; does = Yields } ∷ []) told value
with_yield-kept yields time = with_poll-kept yields (record { told = time; does = Yields })

-- the last poll is kept by itself
pub with_last-kept : (yields : List Yielding) (time answer told value : ℕ) →
    with_last (poll.Done time answer) (script_polls yields told value) ≡ script_polls yields time answer
with_last-kept [] time answer told value = refl
with_last-kept (first ∷ []) time answer told value = refl
with_last-kept (first ∷ next ∷ rest) time answer told value = ap (λ polls. yielding_poll first ∷ polls) (with_last-kept (next ∷ rest) time answer told value)

-- the same, where the last poll is in sight
pub with_poll-end : (early : List Poll) (last more : Poll) → with_poll more (early ++ last ∷ []) ≡ early ++ more ∷ last ∷ []
with_poll-end [] last more = refl
with_poll-end (first ∷ []) last more = refl
with_poll-end (first ∷ next ∷ rest) last more = ap (λ polls. first ∷ polls) (with_poll-end (next ∷ rest) last more)

pub with_yield-end : (early : List Poll) (last : Poll) (time : ℕ) → with_yield time (early ++ last ∷ []) ≡ early ++ poll.Yield time ∷ last ∷ []
with_yield-end early last time = with_poll-end early last (poll.Yield time)

pub with_last-end : (early : List Poll) (last other : Poll) → with_last other (early ++ last ∷ []) ≡ early ++ other ∷ []
with_last-end [] last other = refl
with_last-end (first ∷ []) last other = refl
with_last-end (first ∷ next ∷ rest) last other = ap (λ polls. first ∷ polls) (with_last-end (next ∷ rest) last other)
