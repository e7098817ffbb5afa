-- Facts of a fault.
use Rattle.std.proofs.Common.{ℕ, Option, Result, Ok, Err, IfErr, OnOk, inl, inr}
use Rattle.std.proofs.lemmas.Result.{IfErr-weaker}
use Rattle.text_words.specs.declared.fault.Fault.{Fault}
use Rattle.text_words.specs.declared.fault.Fault.TheVariants.{Text, Read, Write, Memory}
use Rattle.text_words.specs.Faults.{IfText, IfRead, IfUnwritten}
use Rattle.text_bytes.specs.declared.fault.Stop.{Stop}
use Rattle.text_bytes.specs.declared.fault.Stop.TheVariants as stop
use Rattle.text_bytes.specs.Faults.{IfCause, IfFaulty, stopped}
use Rattle.text_bytes.specs.Tries.{AreInterrupted, HasFailed, HasFailedSince}

pub IfFaulty-weaker : {C : Type 0} (P Q : ℕ × C → Type 0) (fault : Fault C) → ((told : ℕ × C) → P told → Q told) → IfFaulty P fault → IfFaulty Q fault
IfFaulty-weaker P Q (Text line cause) each h = each (line, cause) h
IfFaulty-weaker P Q Read each h = absurd h
IfFaulty-weaker P Q Write each h = absurd h
IfFaulty-weaker P Q Memory each h = tt

pub IfErr_faulty : {T C : Type 0} (r : Result T (Fault C)) (P Q : ℕ × C → Type 0) → ((told : ℕ × C) → P told → Q told) → IfErr r (IfFaulty P) → IfErr r (IfFaulty Q)
IfErr_faulty r P Q each h = IfErr-weaker r (IfFaulty P) (IfFaulty Q) (λ fault. IfFaulty-weaker P Q fault each) h

pub IfErr_cause : {T C : Type 0} (r : Result T (Stop C)) (P Q : C → Type 0) → ((cause : C) → P cause → Q cause) → IfErr r (IfCause P) → IfErr r (IfCause Q)
IfErr_cause {T} {C} r P Q each h = IfErr-weaker r (IfCause P) (IfCause Q) each_stop h
  where
    each_stop : (why : Stop C) → IfCause P why → IfCause Q why
    each_stop (stop.Cause cause) h = each cause h
    each_stop stop.Memory h = tt

-- the fault of a draft that stops
pub stopped_faulty : {C : Type 0} (line : ℕ) (why : Stop C) (P : C → Type 0) (Q : ℕ × C → Type 0) → ((cause : C) → P cause → Q (line, cause)) → IfCause P why → IfFaulty Q (stopped line why)
stopped_faulty line (stop.Cause cause) P Q each h = each cause h
stopped_faulty line stop.Memory P Q each h = tt

pub OnOk-both : {T E : Type 0} (P Q : Type 0) (r : Result T E) → OnOk r P → OnOk r Q → OnOk r (P × Q)
OnOk-both P Q (Ok value) p q = (p, q)
OnOk-both P Q (Err error) p q = tt

-- a judge's fault, told by who reads
pub told_of : {C : Type 0} (P Q : ℕ × C → Type 0) (fault : Fault C) → ((told : ℕ × C) → P told → Q told) → IfFaulty P fault → IfText Q fault
told_of P Q (Text line cause) each h = each (line, cause) h
told_of P Q Read each h = tt
told_of P Q Write each h = tt
told_of P Q Memory each h = tt

pub not_read : {C : Type 0} (P : ℕ × C → Type 0) (Q : Type 0) (fault : Fault C) → IfFaulty P fault → IfRead Q fault
not_read P Q (Text line cause) h = tt
not_read P Q Read h = absurd h
not_read P Q Write h = tt
not_read P Q Memory h = tt

pub not_written : {C : Type 0} (P : ℕ × C → Type 0) (fault : Fault C) → IfFaulty P fault → IfUnwritten ⊥ fault
not_written P (Text line cause) h = tt
not_written P Read h = absurd h
not_written P Write h = h
not_written P Memory h = tt

-- a read that can't fail
never_interrupted : {S : Type 0} (tries : S → Option ℕ) (old new : S) → AreInterrupted tries (λ (a b : S). ⊥) 1000 old new → ⊥
never_interrupted tries old new (between, before, nothing, counted) = nothing

pub never_failed : {S : Type 0} (tries : S → Option ℕ) (old new : S) → HasFailed tries (λ (a b : S). ⊥) (λ (a b : S). ⊥) old new → ⊥
never_failed tries old new (inl failed) = failed.failed
never_failed tries old new (inr interrupted) = never_interrupted tries old new interrupted

pub never_read : {C S : Type 0} (tries : S → Option ℕ) (old new : S) (fault : Fault C) → IfRead (HasFailedSince tries (λ (a b : S). ⊥) (λ (a b : S). ⊥) old new) fault → IfRead ⊥ fault
never_read tries old new (Text line cause) h = tt
never_read tries old new Read h = never_failed tries h.0 new h.2
never_read tries old new Write h = tt
never_read tries old new Memory h = tt
