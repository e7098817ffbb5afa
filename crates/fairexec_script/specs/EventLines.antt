-- The lines of a script that let something happen, behind their first word.
use Rattle.std.specs.Prelude.{ℕ, List, Result}
use Rattle.base_words.specs.declared.names.JobId.{JobId}
use Rattle.base_words.specs.declared.order.Order.TheVariants as order
use Rattle.fairexec_script.specs.declared.event.ScriptEvent.TheVariants.{Send, Deliver, Turn, Shut, Collect, Redeem, Detach}
use Rattle.fairexec_script.specs.declared.line.Line.{Line}
use Rattle.fairexec_script.specs.declared.line.Line.TheVariants.{Step}
use Rattle.text_words.specs.declared.fault.Cause.{Cause}
use Rattle.text_words.specs.Words.{first, others, second, third, fourth}
use Rattle.text_words.specs.Fields.{both, made, core_field, actor_field, queue_field, shares_field, submission_field, mode_field}
use Rattle.fairexec_script.specs.Polls.{job_field}

-- `s d`, the sender and the receiver of an order
abbrev pub link_fields : ℕ → List (List ℕ) → Result (ℕ × ℕ) Cause
link_fields cores ws = both (actor_field cores (first ws)) (core_field cores (second ws))

-- `d s`, a core and a sender of it
abbrev pub gate_fields : ℕ → List (List ℕ) → Result (ℕ × ℕ) Cause
gate_fields cores ws = both (core_field cores (first ws)) (actor_field cores (second ws))

-- `s d n`, the name of a submission
abbrev pub name_fields : ℕ → List (List ℕ) → Result JobId Cause
name_fields cores ws = made (λ p. record { from = (p.0).0; to = (p.0).1; number = p.1 }) (both (link_fields cores ws) (submission_field (third ws)))

-- `s d q POLL ..`
abbrev pub submit_line : ℕ → List (List ℕ) → Result Line Cause
submit_line cores ws = made (λ p. Step (Send (p.0).0 (p.0).1 (order.Job (p.1).0 (p.1).1))) (both (link_fields cores ws) (both (queue_field (third ws)) (job_field cores (others (others (others ws))))))

-- `s d w`
abbrev pub create_line : ℕ → List (List ℕ) → Result Line Cause
create_line cores ws = made (λ p. Step (Send (p.0).0 (p.0).1 (order.Create p.1))) (both (link_fields cores ws) (shares_field (third ws)))

-- `s d q w`
abbrev pub shares_line : ℕ → List (List ℕ) → Result Line Cause
shares_line cores ws = made (λ p. Step (Send (p.0).0 (p.0).1 (order.SetShares (p.1).0 (p.1).1))) (both (link_fields cores ws) (both (queue_field (third ws)) (shares_field (fourth ws))))

-- `s d q MODE`
abbrev pub close_line : ℕ → List (List ℕ) → Result Line Cause
close_line cores ws = made (λ p. Step (Send (p.0).0 (p.0).1 (order.Close (p.1).0 (p.1).1))) (both (link_fields cores ws) (both (queue_field (third ws)) (mode_field (fourth ws))))

-- `s d MODE`
abbrev pub closecore_line : ℕ → List (List ℕ) → Result Line Cause
closecore_line cores ws = made (λ p. Step (Send (p.0).0 (p.0).1 (order.CloseCore p.1))) (both (link_fields cores ws) (mode_field (third ws)))

-- `s d a n`, a wake of the job that actor a sent to core d under number n
abbrev pub wake_line : ℕ → List (List ℕ) → Result Line Cause
wake_line cores ws = made (λ p. Step (Send (p.0).0 (p.0).1 (order.Wake (p.1).0 (p.1).1))) (both (link_fields cores ws) (both (actor_field cores (third ws)) (submission_field (fourth ws))))

-- `d s`
abbrev pub deliver_line : ℕ → List (List ℕ) → Result Line Cause
deliver_line cores ws = made (λ p. Step (Deliver p.0 p.1)) (gate_fields cores ws)

-- `d`
abbrev pub turn_line : ℕ → List (List ℕ) → Result Line Cause
turn_line cores ws = made (λ core. Step (Turn core)) (core_field cores (first ws))

-- `d s`
abbrev pub shut_line : ℕ → List (List ℕ) → Result Line Cause
shut_line cores ws = made (λ p. Step (Shut p.0 p.1)) (gate_fields cores ws)

-- `s d`
abbrev pub collect_line : ℕ → List (List ℕ) → Result Line Cause
collect_line cores ws = made (λ p. Step (Collect p.0 p.1)) (link_fields cores ws)

-- `s d n`
abbrev pub redeem_line : ℕ → List (List ℕ) → Result Line Cause
redeem_line cores ws = made (λ name. Step (Redeem name)) (name_fields cores ws)

-- `s d n`
abbrev pub detach_line : ℕ → List (List ℕ) → Result Line Cause
detach_line cores ws = made (λ name. Step (Detach name)) (name_fields cores ws)
