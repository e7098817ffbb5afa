use Rattle.std.proofs.Common.{◌≡◌, ℕ, Option, Some, ◌∙◌, ap, sym, subst}
use Rattle.host_calls.specs.declared.code.Code.{Code}
use Rattle.host_calls.specs.Codes.{number_of}
use Rattle.fairexec_c.specs.Handles.{OnCore}
use Rattle.fairexec_c.proofs.timers.fx_wake_due.Goals as goal

-- a call did this to the core of a handle
on_core : {V : Type 0} (old new : Option V) (number : ℕ) (before after : V) (told : Code) (does : V → Code → V → Type 0) → old ≡ Some before → new ≡ Some after
    → number ≡ number_of told → does before told after → OnCore old new number does
on_core old new number before after told does was is says done =
    subst (λ (it : Option _). OnCore it new number does) (sym was) (subst (λ (it : Option _). OnCore (Some before) it number does) (sym is) (told, says, done))

pub returns-clause-core : goal.returns-clause-core
returns-clause-core c =
    let was = c.in-Some.ensures.value ∙ ap (λ core. Some core) (sym c.deref_mut.ensures.value) in
    on_core _ _ _ c.deref_mut.result.now c.wake_alone-code.new.hosted c.wake_alone-code.result _ was c.put.ensures c.number-2.ensures c.wake_alone-code.ensures
