use Rattle.judge_audit.proofs.Names.{all_rows, arith, greatest_word, refl, slot, sym, true≢false}
use Rattle.judge_audit.proofs.NumberSteps.{zero_there}
use Rattle.judge_audit.proofs.Reached.{zeros_of}
use Rattle.judge_audit.proofs.order.Numbers.new.Goals as goal

pub returns-clause-known : goal.returns-clause-known
returns-clause-known c = λ assembly. record { started = λ name queue told asked. absurd (true≢false (sym told)); sent = λ core. zero_there 256 core }

pub returns-clause-reached : goal.returns-clause-reached
returns-clause-reached c =
    λ assembly sender queue small more within.
    let none = zeros_of _ all_rows refl (slot sender queue) greatest_word within in
    absurd (omega (arith, more, none))
