-- A line that submits a job is read in parts.
use Rattle.std.proofs.Common.{◌≡◌, ℕ, List, Result, Ok, Err, refl, ap, sym, ◌∙◌}
use Rattle.base_words.specs.declared.order.Order.TheVariants as order
use Rattle.base_jobs.specs.Scripts.{Script}
use Rattle.text_words.specs.declared.fault.Cause.{Cause}
use Rattle.text_words.specs.Fields.{both, made, queue_field}
use Rattle.text_words.specs.Words.{third, others}
use Rattle.fairexec_script.specs.declared.event.ScriptEvent.TheVariants.{Send}
use Rattle.fairexec_script.specs.declared.line.Line.TheVariants.{Step}
use Rattle.fairexec_script.specs.Polls.{job_field}
use Rattle.fairexec_script.specs.EventLines.{link_fields, submit_line}

joined : (link : Result (ℕ × ℕ) Cause) (queue : Result ℕ Cause) (polls : Result (Unit {0}) Cause) (job : Script) →
    made (λ p. Step (Send (p.0).0 (p.0).1 (order.Job (p.1).0 (p.1).1))) (both link (both queue (made (λ _. job) polls)))
    ≡ made (λ p. Step (Send (p.0).0 (p.0).1 (order.Job (p.1).0 job))) (both link (both queue polls))
joined (Ok link) (Ok queue) (Ok polls) job = refl
joined (Ok link) (Ok queue) (Err cause) job = refl
joined (Ok link) (Err cause) (Ok polls) job = refl
joined (Ok link) (Err one) (Err two) job = refl
joined (Err cause) (Ok queue) (Ok polls) job = refl
joined (Err one) (Ok queue) (Err two) job = refl
joined (Err one) (Err two) (Ok polls) job = refl
joined (Err one) (Err two) (Err three) job = refl

-- the job was read where it stands, and the rest beside it
pub submit_read : (cores : ℕ) (ws rest : List (List ℕ)) (link : Result (ℕ × ℕ) Cause) (queue : Result ℕ Cause) (polls : Result (Unit {0}) Cause) (job : Script) (inner : Result (ℕ × Unit {0}) Cause) (all : Result ((ℕ × ℕ) × (ℕ × Unit {0})) Cause) →
    link ≡ link_fields cores ws → queue ≡ queue_field (third ws) → rest ≡ others (others (others ws)) → made (λ _. job) polls ≡ job_field cores rest →
    inner ≡ both queue polls → all ≡ both link inner → submit_line cores ws ≡ made (λ p. Step (Send (p.0).0 (p.0).1 (order.Job (p.1).0 job))) all
submit_read cores ws rest link queue polls job inner all link_is queue_is rest_is job_is inner_is all_is =
    ap (λ l. made (λ p. Step (Send (p.0).0 (p.0).1 (order.Job (p.1).0 (p.1).1))) (both l (both (queue_field (third ws)) (job_field cores (others (others (others ws))))))) (sym link_is)
    ∙ ap (λ q. made (λ p. Step (Send (p.0).0 (p.0).1 (order.Job (p.1).0 (p.1).1))) (both link (both q (job_field cores (others (others (others ws))))))) (sym queue_is)
    ∙ ap (λ left. made (λ p. Step (Send (p.0).0 (p.0).1 (order.Job (p.1).0 (p.1).1))) (both link (both queue (job_field cores left)))) (sym rest_is)
    ∙ ap (λ j. made (λ p. Step (Send (p.0).0 (p.0).1 (order.Job (p.1).0 (p.1).1))) (both link (both queue j))) (sym job_is)
    ∙ joined link queue polls job
    ∙ ap (λ i. made (λ p. Step (Send (p.0).0 (p.0).1 (order.Job (p.1).0 job))) (both link i)) (sym inner_is)
    ∙ ap (made (λ p. Step (Send (p.0).0 (p.0).1 (order.Job (p.1).0 job)))) (sym all_is)
