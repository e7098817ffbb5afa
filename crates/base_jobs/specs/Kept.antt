-- What a script job keeps of its polls.
use Rattle.std.specs.Prelude.{◌≡◌, ℕ, List, [], ◌∷◌, refl}
use Rattle.std.proofs.Common.{ap, ◌∙◌}
use Rattle.base_jobs.specs.declared.poll.Poll.{Poll}
use Rattle.base_jobs.specs.declared.poll.Poll.TheVariants as poll
use Rattle.base_jobs.specs.declared.poll.Early.{Early}
use Rattle.base_jobs.specs.declared.poll.Early.TheVariants.{Yields, Submits, Parks}
use Rattle.base_jobs.specs.declared.poll.Yielding.{Yielding}
use Rattle.base_jobs.specs.Scripts.{written, script_polls}

-- the polls but the last one
abbrev pub kept_yields : List Poll → List Yielding
kept_yields [] = []
kept_yields (poll.Yield told ∷ rest) = record { told = told; does = Yields } ∷ kept_yields rest
kept_yields (poll.Submit told core queue ∷ rest) = record { told = told; does = Submits core queue } ∷ kept_yields rest
kept_yields (poll.Park told ∷ rest) = record { told = told; does = Parks } ∷ kept_yields rest
kept_yields (poll.Done told value ∷ rest) = []

-- the time that the last poll tells
abbrev pub last_time : List Poll → ℕ
last_time [] = 0
last_time (poll.Yield told ∷ rest) = last_time rest
last_time (poll.Submit told core queue ∷ rest) = last_time rest
last_time (poll.Park told ∷ rest) = last_time rest
last_time (poll.Done told value ∷ rest) = told

-- the value of the last poll
abbrev pub last_value : List Poll → ℕ
last_value [] = 0
last_value (poll.Yield told ∷ rest) = last_value rest
last_value (poll.Submit told core queue ∷ rest) = last_value rest
last_value (poll.Park told ∷ rest) = last_value rest
last_value (poll.Done told value ∷ rest) = value

-- a poll that yields comes back
kept_yields-written : (time : ℕ) (does : Early) (rest : List Poll) → kept_yields (written time does ∷ rest) ≡ record { told = time; does = does } ∷ kept_yields rest
kept_yields-written time Yields rest = refl
kept_yields-written time (Submits core queue) rest = refl
kept_yields-written time Parks rest = refl

-- a poll that yields has no part in the time and the value of the last poll
last_time-written : (time : ℕ) (does : Early) (rest : List Poll) → last_time (written time does ∷ rest) ≡ last_time rest
last_time-written time Yields rest = refl
last_time-written time (Submits core queue) rest = refl
last_time-written time Parks rest = refl

last_value-written : (time : ℕ) (does : Early) (rest : List Poll) → last_value (written time does ∷ rest) ≡ last_value rest
last_value-written time Yields rest = refl
last_value-written time (Submits core queue) rest = refl
last_value-written time Parks rest = refl

-- the polls that yield come back
pub kept_yields-script_polls : (yields : List Yielding) (told value : ℕ) → kept_yields (script_polls yields told value) ≡ yields
kept_yields-script_polls [] told value = refl
kept_yields-script_polls (first ∷ rest) told value =
    kept_yields-written first.told first.does (script_polls rest told value) ∙ ap (λ others. first ∷ others) (kept_yields-script_polls rest told value)

-- the time of the last poll comes back
pub last_time-script_polls : (yields : List Yielding) (told value : ℕ) → last_time (script_polls yields told value) ≡ told
last_time-script_polls [] told value = refl
last_time-script_polls (first ∷ rest) told value = last_time-written first.told first.does (script_polls rest told value) ∙ last_time-script_polls rest told value

-- the value of the last poll comes back
pub last_value-script_polls : (yields : List Yielding) (told value : ℕ) → last_value (script_polls yields told value) ≡ value
last_value-script_polls [] told value = refl
last_value-script_polls (first ∷ rest) told value = last_value-written first.told first.does (script_polls rest told value) ∙ last_value-script_polls rest told value
