-- Journals that go on, and go on again.
use Rattle.judge_fronts.proofs.Names.{ap, append_assoc, arith, Assembly, Continues, Journal, journal_of, refl, sym, ℕ, [], ◌++◌, ◌∙◌}
use Rattle.judge_fronts.specs.Laws.{LostStaysLost, SoundIsNotLost}

pub Continues-self : (assembly : Assembly ℕ) → Continues assembly assembly
Continues-self assembly = record { cores = refl; cap = refl; burst = refl; goes_on = λ actor within. ([], refl) }

pub Continues-along : (front middle whole : Assembly ℕ) → Continues front middle → Continues middle whole → Continues front whole
Continues-along front middle whole one two = record {
  cores = two.cores ∙ one.cores;
  cap = two.cap ∙ one.cap;
  burst = two.burst ∙ one.burst;
  goes_on = λ actor within.
      let first = one.goes_on actor within in
      let then = two.goes_on actor (omega (arith, within, one.cores)) in
      (then.0 ++ first.0, then.1 ∙ (ap (λ (notes : Journal ℕ). then.0 ++ notes) first.1 ∙ sym (append_assoc then.0 first.0 (journal_of actor front))));
}

pub lost_stays : LostStaysLost
lost_stays front later goes lost = λ whole continues known sound. lost whole (Continues-along front later whole goes continues) known sound

pub sound_not_lost : SoundIsNotLost
sound_not_lost assembly known sound lost = lost assembly (Continues-self assembly) known sound
