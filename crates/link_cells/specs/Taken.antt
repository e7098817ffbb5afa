-- What is owned of a value that may have been taken out.
use Rattle.std.specs.Prelude.{Option, Some, None}
use base.Fml.{Fml, ftrue}

-- once it was taken out, nothing
abbrev pub if_there : {X : Type 0} → (X → Fml) → Option X → Fml
if_there own (Some x) = own x
if_there own None = ftrue
