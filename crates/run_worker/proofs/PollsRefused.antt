-- A look of a small worker that notes a poll for which no gate was asked is refused.
use Rattle.run_worker.proofs.Names.{ap, arith, AsksFor, JobId, Journal, length, List, LooksAtAll, Meaning, Option, polls_of, refl, RoundView, suc, sym, ℕ, [], ◌++◌, ◌+◌, ◌∙◌, ◌∷◌, ◌≡◌}
use Rattle.std.proofs.Common.{Bool}
use Rattle.run_worker.proofs.Looked.{look_asks}

abbrev notes_in : RoundView ℕ ℕ ℕ ℕ → Journal ℕ
notes_in view = view.served.linked.recorded.journal.notes

-- a gate that is never asked
abbrev nobody : ℕ → ℕ → JobId → ℕ → Type 0
nobody before core name after = ⊥

none_asked : (core : ℕ) (polls : List JobId) (before after : ℕ) → AsksFor nobody core polls before after → polls ≡ []
none_asked core [] before after asks = refl
none_asked core (name ∷ polls) before after asks = absurd asks.2

-- a poll is noted, and nobody is asked for it
polls_unasked : (meaning : Meaning ℕ ℕ) (sleeps : ℕ → Option ℕ) (reads : ℕ → ℕ → ℕ → Type 0) (name : JobId) (old new : RoundView ℕ ℕ ℕ ℕ) (some : Bool) →
    LooksAtAll meaning sleeps reads nobody old some new → polls_of (notes_in new) ≡ name ∷ polls_of (notes_in old) → ⊥
polls_unasked meaning sleeps reads name old new some looks noted =
    let since = look_asks meaning sleeps reads nobody old new some looks in
    let none = none_asked old.served.linked.recorded.core.core since.polls old.gate new.gate since.asks in
    let longer : length (polls_of (notes_in old)) ≡ suc (length (polls_of (notes_in old))) = ap length (sym (since.told ∙ ap (λ polls. polls ++ polls_of (notes_in old)) none) ∙ noted) in
    omega (arith, longer)

abbrev job : JobId
job = record { from = 1; to = 0; number = 1 }

-- the gate of core 0, which counts how often it was asked
abbrev counts : ℕ → ℕ → JobId → ℕ → Type 0
counts gate core name after = (core ≡ 0) × (after ≡ gate + 1)

-- it isn't asked for the poll
is_not_asked : AsksFor counts 0 (job ∷ []) 0 0 → ⊥
is_not_asked asks = let first : asks.0 ≡ 0 = asks.1 in let one : 0 ≡ asks.0 + 1 = asks.2.1 in absurd (omega (arith, first, one))

-- it is asked twice
is_asked_twice : AsksFor counts 0 (job ∷ []) 0 2 → ⊥
is_asked_twice asks = let first : asks.0 ≡ 0 = asks.1 in let one : 2 ≡ asks.0 + 1 = asks.2.1 in absurd (omega (arith, first, one))

-- another core asks it
is_asked_by_another : (gate : ℕ) → AsksFor counts 1 (job ∷ []) 0 gate → ⊥
is_asked_by_another gate asks = let own : 1 ≡ 0 = asks.2.0 in absurd (omega (arith, own))

-- it is asked, and nothing is polled
is_asked_for_nothing : AsksFor counts 0 [] 0 1 → ⊥
is_asked_for_nothing asks = let same : 1 ≡ 0 = asks in absurd (omega (arith, same))
