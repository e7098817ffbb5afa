-- What an actor hands on while the house runs, and what the host is told of it.
use Rattle.std.specs.Prelude.{◌≡◌, ℕ, List, Result, Ok, Err}
use Rattle.host_core.specs.Passing as core
use Rattle.host_house.specs.Passing as outside
use Rattle.host_text.specs.declared.part.PassError.{PassError}
use Rattle.host_text.specs.declared.part.PassError.TheVariants.{Short, Memory}
use Rattle.host_calls.specs.declared.code.Code.{Code}
use Rattle.host_calls.specs.declared.code.Code.TheVariants as code
use Rattle.host_calls.specs.declared.member.Member.{Member}
use Rattle.host_calls.specs.declared.member.Member.TheVariants as member
use Rattle.host_calls.specs.Members.{IsActor}
use Rattle.host_calls.specs.Submissions.{OnActor}

-- an actor hands on the text of the notes that its journal keeps, or nothing changes
abbrev pub PassesOn : Member → List ℕ → Result ℕ PassError → Member → List ℕ → Type 0
PassesOn (member.Core old) before answer (member.Core new) after = core.HandsOn old before answer after new
PassesOn (member.Outside old) before answer (member.Outside new) after = outside.HandsOn old before answer after new
PassesOn old before answer new after = (IsActor old → ⊥) × (new ≡ old) × (after ≡ before)

-- the code of it
abbrev pub code_of_passed : {A : Type 0} → Result A PassError → Code
code_of_passed (Ok copied) = code.Ok
code_of_passed (Err (Short count)) = code.Short
code_of_passed (Err Memory) = code.NoMemory

-- how many bytes the text has, also if there is room for fewer; else what stood there stays
abbrev pub count_passed : Result ℕ PassError → ℕ → ℕ
count_passed (Ok count) before = count
count_passed (Err (Short count)) before = count
count_passed (Err Memory) before = before

-- the text is copied and told
abbrev pub PassesTold : Member → List ℕ → ℕ → Code → Member → List ℕ → ℕ → Type 0
PassesTold old before count told new after counted =
    OnActor old ((after ≡ before) × (counted ≡ count)) told new
    ((answer : Result ℕ PassError) × PassesOn old before answer new after × (told ≡ code_of_passed answer) × (counted ≡ count_passed answer count))
