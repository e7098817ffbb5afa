-- A core that was just opened, beside a journal without a note.
use Rattle.actor_core.proofs.Names.{◌≡◌, ℕ, zero, suc, ◌+◌, ◌*◌, ◌<◌, [], refl, sym, ap, subst, arith, None, All, length-replicate, get_or-replicate, All-nil, Meaning, waiting_of, mode_of, CoreView, runtime_of, opened, Agrees, AreMarked, no_figures}
use Rattle.actor_core.proofs.Names.{figures_of, IsRecorded, HasTask, sum_upto, given_count, opened_beside, none-some, names_of, names_parked, parked_of}
use Rattle.actor_core.proofs.AgreementNames.{has_bursts, none_either}
use Rattle.base_words.proofs.Tables.{all_alike}

module _ (J : Type 0) (core cores cap burst : ℕ) where
  abbrev new_core : CoreView J
  new_core = opened core cores ((cores + 1) * cap) 0 burst

  -- no queue has a job, a runtime, a mode or a count
  at_first : (queue : ℕ) → (waiting_of queue new_core.queues ≡ []) × (runtime_of queue new_core ≡ 0) × (mode_of queue new_core.queues ≡ None) × (figures_of queue new_core ≡ no_figures) × (parked_of queue new_core.queues ≡ [])
  at_first zero = (refl, refl, refl, refl, refl)
  at_first (suc zero) = (refl, refl, refl, refl, refl)
  at_first (suc (suc queue)) = (refl, refl, refl, refl, refl)

  -- it agrees with a journal without a note
  pub agrees-opened : (T : Type 0) → Agrees {J = J} {T = T} burst new_core []
  agrees-opened T = record {
    burst_is = refl;
    tallied = refl;
    senders = length-replicate (cores + 1) 0;
    last = refl;
    lines = λ queue. ap names_of (at_first queue).0;
    parks = λ queue. ap names_parked (at_first queue).4;
    marks = λ queue. subst (AreMarked {J = J} {T = T} []) (sym (at_first queue).0) (All-nil _);
    runtimes = λ queue. (at_first queue).1;
    weights = λ queue there. grind arith;
    the_floor = refl;
    turns = refl;
    out = refl;
    turn = none_either (has_bursts burst);
    out_exists = λ out none. absurd (none-some out none);
    delivered = λ sender known. get_or-replicate (cores + 1) sender 0 0 (omega (arith, known));
    figures = λ queue. (at_first queue).3;
    closing = record { modes = λ queue. (at_first queue).2; mode = refl; gate_places = length-replicate (cores + 1) None; gates = λ sender. all_alike (cores + 1) sender None None refl };
  }

no_sum : (T : Type 0) (last : ℕ) → sum_upto (given_count {T = T} []) last ≡ 0
no_sum T zero = refl
no_sum T (suc last) = let rest : sum_upto (given_count {T = T} []) last ≡ 0 = no_sum T last in omega (arith, rest)

-- a core that was just opened is recorded in a journal without a note
pub recorded-opened : {J T : Type 0} (meaning : Meaning J T) (core cores cap room burst : ℕ) → core < cores →
    IsRecorded meaning (opened_beside {J = J} {T = T} core cores cap room burst)
recorded-opened {J} {T} meaning core cores cap room burst there = record {
  kept = record { is_core = there; agrees = agrees-opened J core cores cap burst T; notes = tt; no_pick = refl; no_answer = refl };
  room = refl;
  held = record { each = λ sender known. omega arith; inside = omega (arith, no_sum T cores) };
  taken = λ name order at. absurd (none-some order at);
  as_sent = tt;
  tasks = record {
    waiting = λ queue. subst (All (λ entry. HasTask meaning [] [] queue entry.0 entry.2)) (sym (at_first J core cores cap burst queue).0) (All-nil _);
    parked = λ queue. subst (All (λ entry. HasTask meaning [] [] queue entry.0 entry.1)) (sym (at_first J core cores cap burst queue).4) (All-nil _);
  };
  out = λ job at. absurd (none-some job at);
}
