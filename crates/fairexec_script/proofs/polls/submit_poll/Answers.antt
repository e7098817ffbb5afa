use Rattle.std.proofs.Common.{◌≡◌, ℕ, ◌==◌, List, Result, refl, ◌∙◌}
use Rattle.std.specs.List.{before_first, after_first}
use Rattle.base_jobs.specs.declared.poll.Poll.TheVariants.{Submit}
use Rattle.text_words.specs.declared.fault.Cause.{Cause}
use Rattle.text_words.specs.Fields.{both, made, core_field, queue_field, count_field}
use Rattle.fairexec_script.specs.Polls.{submit_field}
use Rattle.fairexec_script.proofs.polls.submit_poll.Goals as goal

submits_read : (cores : ℕ) (rest time place core queue : List ℕ) (told to of : Result ℕ Cause) (inner : Result (ℕ × ℕ) Cause) (all : Result (ℕ × (ℕ × ℕ)) Cause) →
    time ≡ before_first (λ byte. byte == 62) rest → place ≡ after_first (λ byte. byte == 62) rest →
    core ≡ before_first (λ byte. byte == 46) place → queue ≡ after_first (λ byte. byte == 46) place →
    told ≡ count_field time → to ≡ core_field cores core → of ≡ queue_field queue → inner ≡ both to of → all ≡ both told inner →
    made (λ p. Submit p.0 (p.1).0 (p.1).1) all ≡ submit_field cores rest
submits_read cores rest time place core queue told to of inner all time_is place_is core_is queue_is told_is to_is of_is inner_is all_is =
    rw all_is (rw (told_is, inner_is) (rw (to_is, of_is) (rw (time_is, core_is, queue_is) (rw place_is refl))))

pub returns : goal.returns
returns c =
    c.submitting.ensures
    ∙ submits_read c.args.cores c.args.rest.now _ _ _ _ _ _ _ _ _ c.cut_at.ensures.before c.cut_at.ensures.after c.cut_at-2.ensures.before c.cut_at-2.ensures.after
    c.count_field.ensures c.core_field-core.ensures c.queue_field-queue.ensures c.both.ensures c.both-2.ensures
