-- A refusal by a shut gate is right only where the gate had let through what this actor had sent.
use Rattle.actor_core.proofs.Names.{inl, ◌≡◌, ℕ, true, false, List, [], ◌∷◌, ◌++◌, length, Ok, Err, refl, sym, ◌∙◌, ap, arith, Note, Journal, Job}
use Rattle.base_words.specs.declared.note.Note.TheVariants as writes
use Rattle.base_words.specs.declared.order.SendError.TheVariants as refused
use Rattle.base_words.specs.Journal.{EachNote}
use Rattle.base_jobs.specs.Calls.Call.{Submit}
use Rattle.base_jobs.specs.ScriptMeaning.{script_meaning}
use Rattle.base_jobs.specs.Scripts.{small_job}
use Rattle.base_jobs.specs.declared.job.Step.TheVariants as steps
use Rattle.actor_core.specs.OwedPolls.{PollIsOwed}
use Rattle.actor_core.specs.BadPolls.{begun, job, ordered, sent, terms}
use Rattle.actor_core.specs.BadRefusals.{AreOwed, RefusalsAreCounted, accepted, shut_at, submits_twice}
use Rattle.actor_core.proofs.PollsRefused.{first, its_poll, owed_first, owed_so, two_notes}

-- what holds of each note of a journal holds of those before the latest ones
behind : (P : Note ℕ → Journal ℕ → Type 0) (later : List (Note ℕ)) (before : Journal ℕ) → EachNote P (later ++ before) → EachNote P before
behind P [] before each = each
behind P (note ∷ later) before each = behind P later before each.1

-- a first poll that noted nothing was refused, and only a gate that is shut before the first order refuses it
refused_first : (count : ℕ) → (0 ≡ count → ⊥) → AreOwed count (writes.Yield job 5 ∷ begun) → ⊥
refused_first count unshut owed =
    let its = its_poll (shut_at count) submits_twice 5 steps.Yield [] false (writes.Pick 0 0 ∷ first) tt owed.0 in
    let wrong : ◌≡◌ {A = ℕ} 0 2 = ap length (sym its.wrote) ∙ two_notes (shut_at count) unshut its.calls its.owed.0 its.right in
    omega arith

-- the poll that is refused behind an accepted order, and the one before it
after_the_last : AreOwed 1 (writes.Yield job 5 ∷ writes.Resume job ∷ writes.Pick 0 5 ∷ accepted ++ begun)
after_the_last = (
  owed_so submits_twice (Submit 1 (Job 0 small_job) (Err (refused.Closed (Job 0 small_job) 1)) ∷ []) true (writes.Pick 0 5 ∷ accepted ++ begun) (inl refl) refl
      ((refl, refl, refl), tt) (record { answer = Err (refused.Closed (Job 0 small_job) 1); are = refl }, refl, refl) tt,
  (tt, (tt, (owed_first submits_twice tt (record { answer = Ok (sent 1); are = refl }, refl, refl), (tt, (tt, (tt, (tt, (tt, tt)))))))),
)

pub refusals_counted : RefusalsAreCounted
refusals_counted = record {
  after_too_few = refused_first 4 (λ same. omega (arith, same));
  before_an_accepted = λ owed.
      refused_first 1 (λ same. omega (arith, same))
      (behind (PollIsOwed script_meaning terms (shut_at 1) (ordered submits_twice)) (accepted ++ writes.Resume job ∷ writes.Pick 0 5 ∷ []) (writes.Yield job 5 ∷ begun) owed);
  after_the_last = after_the_last;
}
