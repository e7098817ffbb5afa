-- Why a line isn't taken.
use Rattle.std.specs.Prelude.{ℕ}
use Rattle.text_bytes.specs.declared.fault.Stop.{Stop}
use Rattle.text_bytes.specs.declared.fault.Stop.TheVariants as stop
use Rattle.text_words.specs.declared.fault.Fault.{Fault}
use Rattle.text_words.specs.declared.fault.Fault.TheVariants.{Text, Read, Write, Memory}

-- a fact of the cause, if the line is faulty
abbrev pub IfCause : {C : Type 0} → (C → Type 0) → Stop C → Type 0
IfCause fact (stop.Cause cause) = fact cause
IfCause fact stop.Memory = Unit {0}

-- the fault of a draft that stops at this line
abbrev pub stopped : {C : Type 0} → ℕ → Stop C → Fault C
stopped line (stop.Cause cause) = Text line cause
stopped line stop.Memory = Memory

-- a fact of the faulty line and its cause; a judge reads nothing and writes nothing
abbrev pub IfFaulty : {C : Type 0} → (ℕ × C → Type 0) → Fault C → Type 0
IfFaulty fact (Text line cause) = fact (line, cause)
IfFaulty fact Read = ⊥
IfFaulty fact Write = ⊥
IfFaulty fact Memory = Unit {0}
