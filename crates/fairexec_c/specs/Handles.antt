-- What a handle holds, and what a call does to the core that it holds.
use Rattle.std.specs.Prelude.{◌≡◌, ℕ, Option, Some, None}
use base.Fml.{Fml, ftrue, fex}
use denote.RattleType.{RattleType}
use denote.RawPtr.{Ptr, null_ptr}
use Rattle.std.specs.Box.Ownership.{box_owns}
use Rattle.std.specs.declared.alloc.Global.{Global}
use Rattle.std.specs.contracts.impls.GlobalAllocator.TheImpl.{ghosts}
use Rattle.host_calls.specs.declared.code.Code.{Code}
use Rattle.host_calls.specs.declared.code.Code.TheVariants as code
use Rattle.host_calls.specs.Codes.{number_of}

-- nothing at null, else a box of this value
abbrev pub held : (R : RattleType) → Global → Ptr → Option R.Denot → Fml
held R alloc at None = fex (at ≡ null_ptr) (λ _. ftrue)
held R alloc at (Some value) = box_owns (ghosts.dealloc_token alloc) R at value

-- the value inside, if there is any
abbrev pub inside : {A B : Type 0} → (A → B) → Option A → Option B
inside part None = None
inside part (Some whole) = Some (part whole)

-- the number is that of a code, of which this holds
abbrev pub Answers : ℕ → (Code → Type 0) → Type 0
Answers number holds = (told : Code) × (number ≡ number_of told) × holds told

-- a call on what a handle holds; an empty handle is told so, and stays empty
abbrev pub OnCore : {V : Type 0} → Option V → Option V → ℕ → (V → Code → V → Type 0) → Type 0
OnCore None None number does = number ≡ number_of code.Empty
OnCore (Some old) (Some new) number does = Answers number (λ told. does old told new)
OnCore None (Some new) number does = ⊥
OnCore (Some old) None number does = ⊥

-- the handle is empty, and is told so if it was before
abbrev pub Frees : {V : Type 0} → Option V → ℕ → Option V → Type 0
Frees None number new = (number ≡ number_of code.Empty) × (new ≡ None)
Frees (Some old) number new = (number ≡ number_of code.Ok) × (new ≡ None)
