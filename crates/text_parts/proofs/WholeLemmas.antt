-- What is said of all bytes of a source, and of a fault that isn't told.
use Rattle.std.proofs.Common.{◌≡◌, ℕ, ◌++◌, List, Option, None, Some, sym, ap, ◌∙◌, subst, append-nil, take}
use Rattle.std.specs.Io.KnownBytes.{Consumes, IsAtEnd}
use Rattle.std.proofs.KnownBytes.{Consumes-trans}
use Rattle.std.specs.Option.{IfSome}
use Rattle.text_parts.specs.declared.fault.BytesFault.{BytesFault}
use Rattle.text_parts.specs.declared.fault.BytesFault.TheVariants as fault
use Rattle.text_parts.specs.declared.parts.PartsCause.{PartsCause}
use Rattle.text_parts.specs.Faults.{IfBytes, IfRead}

-- what was read to the end is all that was left
pub all_read : (old new : Option (List ℕ)) (bytes : List ℕ) (Fact : List ℕ → Type 0) → Consumes old new bytes → IsAtEnd new → Fact bytes → IfSome old Fact
all_read None new bytes Fact took end is = tt
all_read (Some all) None bytes Fact took end is = absurd took
all_read (Some all) (Some rest) bytes Fact took end is = subst Fact (sym (took ∙ ap (λ left. bytes ++ left) end ∙ append-nil bytes)) is

-- a read of nothing gathers nothing
pub none_more : (old now new : Option (List ℕ)) (bytes page : List ℕ) (count : ℕ) → count ≡ 0 → Consumes old now bytes → Consumes now new (take count page) → Consumes old new bytes
none_more old now new bytes page count none took more =
    let same : bytes ++ take count page ≡ bytes = ap (λ (n : ℕ). bytes ++ take n page) none ∙ append-nil bytes in
    subst (Consumes old new) same (Consumes-trans old now new bytes (take count page) took more)

pub IfBytes-weaker : (told : BytesFault) (One Other : ℕ → PartsCause → Type 0) → ((place : ℕ) (why : PartsCause) → One place why → Other place why) → IfBytes One told → IfBytes Other told
IfBytes-weaker (fault.Faulty place why) One Other from is = from place why is
IfBytes-weaker fault.Read One Other from is = tt
IfBytes-weaker fault.Write One Other from is = tt
IfBytes-weaker fault.Memory One Other from is = tt

-- what never is told is told by whatever one likes
pub never_read : (told : BytesFault) (Fact : Type 0) → IfRead ⊥ told → IfRead Fact told
never_read (fault.Faulty place why) Fact never = tt
never_read fault.Read Fact never = absurd never
never_read fault.Write Fact never = tt
never_read fault.Memory Fact never = tt
