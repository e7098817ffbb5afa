use Rattle.std.proofs.Common.{inl, inr, refl, subst}
use Rattle.text_parts.specs.Faults.{IfBytes}
use Rattle.text_parts.specs.Houses.{IsFault}
use Rattle.text_parts.specs.declared.fault.BytesFault.TheVariants.{Memory}
use Rattle.fairexec.proofs.parts.judged.Goals as goal

pub returns-in-Err : goal.returns-in-Err
returns-in-Err g c =
    let faulty = subst (λ all. IfBytes (IsFault all) c.in-Err.fault) c.of.ensures c.in-Err.ensures.faulty in
    elim c.unjudged.ensures [
      | inl is ↦ inr (c.in-Err.fault, faulty, is, refl)
      | inr is ↦ inr (Memory, tt, is, refl)
    ]
