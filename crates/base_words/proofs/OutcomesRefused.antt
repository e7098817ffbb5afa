-- Each bad outcome breaks the fourth clause.
use Rattle.base_words.proofs.Words.{arith, delivered_names, final_count, IsDrained, Journal, OutcomesAreRefused, refl, submission, suc, zero, ℕ, ◌≡◌, ◌≤◌}
use Rattle.std.proofs.Common.{Some}
use Rattle.std.specs.Prelude.{[], ◌∷◌, length}
use Rattle.base_words.specs.declared.note.Note.TheVariants.{CoreClosed, Shut}
use Rattle.base_words.specs.declared.order.Mode.TheVariants.{Finish}

-- a core that shut both gates at 0 is drained
abbrev shut_at_0 : Journal ℕ
shut_at_0 = Shut 1 0 ∷ Shut 0 0 ∷ CoreClosed Finish ∷ []

gates : (sender : ℕ) → sender ≤ 1 → final_count sender shut_at_0 ≡ Some (length (delivered_names sender shut_at_0))
gates zero within = refl
gates (suc zero) within = refl
gates (suc (suc sender)) within = absurd (omega arith)

drained : IsDrained 1 shut_at_0
drained = record { delivered_all = gates; idle = λ queue work. cc; nobody_parked = λ queue. refl }

pub outcomes_refused : OutcomesAreRefused
outcomes_refused = record {
  twice = λ sound. let going_on = (sound.notes 0 (omega arith)).0.1 in cc;
  unstarted = λ sound. let started = (sound.notes 0 (omega arith)).0.2 in cc;
  both = λ sound. let going_on = (sound.notes 0 (omega arith)).0.1 in cc;
  unsent = λ sound. let sent = (sound.notes 0 (omega arith)).0.0.1 in cc;
  command = λ sound. let sent = (sound.notes 0 (omega arith)).0.0.1 in cc;
  job = λ sound. let sent = (sound.notes 0 (omega arith)).0.0 in cc;
  answered = λ sound. let once = (sound.notes 0 (omega arith)).0.1 in cc;
  lost_job = λ sound. let ended = (sound.all_ended 0 (omega arith) drained).jobs (submission 1) refl (0, refl) in cc;
  lost_command = λ sound. let answered = (sound.all_ended 0 (omega arith) drained).commands (submission 1) refl refl in cc;
  another = λ sound. let given = (sound.notes 1 (omega arith)).0 in cc;
  ungiven = λ sound. let given = (sound.notes 1 (omega arith)).0.1 in cc;
  uncollected = λ sound. let collected = (sound.notes 1 (omega arith)).0.0 in cc;
  redeemed = λ sound. let once = (sound.notes 1 (omega arith)).0.2 in cc;
}
