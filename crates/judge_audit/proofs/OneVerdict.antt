-- The journals determine the verdict.
use Rattle.judge_audit.proofs.Names.{arith, Assembly, ClosesFault, ClosesOf, fault_breaks, inl, inr, IsInOrder, IsPlaceOf, IsVerdict, journal_of, OrderFault, OutcomesFault, OutcomesOf, OutcomesRight, pick_breaks, PicksFault, PicksOf, refl}
use Rattle.judge_audit.proofs.Names.{RespectsCloses, StartsFault, StartsOf, StartsRight, subst, suc, sym, Verdict, zero, ℕ, ◌+◌, ◌∙◌, ◌≡◌, ◌≤◌}
use Rattle.judge_audit.specs.declared.judge.Verdict.TheVariants.{Sound, Fault}
use Rattle.judge_audit.proofs.FirstRules.{one_first}
use Rattle.judge_audit.proofs.LinksOff.{order_broken}
use Rattle.judge_audit.proofs.OneLine.{one_first_fault, one_pick_fault, one_place}
use Rattle.judge_audit.proofs.VerdictLaws.{says_broken, only_sound}

module _ (assembly : Assembly ℕ) where
  order_line : (actor line other : ℕ) → OrderFault assembly actor line → OrderFault assembly actor other → line ≡ other
  order_line actor line other first second =
      let above = first.1 other second.0 in
      let below = second.1 line first.0 in
      omega (arith, above, below)

  outcomes_break : (actor line : ℕ) → OutcomesFault assembly actor line → OutcomesOf assembly actor → ⊥
  outcomes_break actor line (inl lost) keeps = lost.1 keeps.all_ended
  outcomes_break actor line (inr fault) keeps = fault_breaks (OutcomesRight assembly) (journal_of actor assembly) line fault.1 keeps.notes

  outcomes_line : (actor line other : ℕ) → OutcomesFault assembly actor line → OutcomesFault assembly actor other → line ≡ other
  outcomes_line actor line other (inl lost) (inl second) = lost.0 ∙ sym second.0
  outcomes_line actor line other (inl lost) (inr fault) = absurd (lost.1 fault.0)
  outcomes_line actor line other (inr fault) (inl lost) = absurd (lost.1 fault.0)
  outcomes_line actor line other (inr fault) (inr second) =
      one_first_fault (OutcomesRight assembly) (journal_of actor assembly) line other fault.1 second.1

  -- a rule is first broken at one place
  same_place : (rule actor line other second : ℕ) → 1 ≤ rule → rule ≤ 5 → IsPlaceOf assembly rule actor line → IsPlaceOf assembly rule other second →
      (actor ≡ other) × (line ≡ second)
  same_place zero actor line other second some few here there = absurd (omega (arith, some))
  same_place (suc zero) actor line other second some few here there =
      one_place (assembly.cores + 1) (StartsOf assembly) (StartsFault assembly)
      (λ actor line. fault_breaks (StartsRight assembly) (journal_of actor assembly) line)
      (λ actor. one_first_fault (StartsRight assembly) (journal_of actor assembly)) actor line other second (here.starts refl) (there.starts refl)
  same_place (suc (suc zero)) actor line other second some few here there =
      one_place (assembly.cores + 1) (IsInOrder assembly) (OrderFault assembly) (λ actor line fault. order_broken assembly actor line fault.0) order_line actor line
      other second (here.order refl) (there.order refl)
  same_place (suc (suc (suc zero))) actor line other second some few here there =
      one_place assembly.cores (ClosesOf assembly) (ClosesFault assembly)
      (λ core line. fault_breaks (RespectsCloses assembly core) (journal_of core assembly) line)
      (λ core. one_first_fault (RespectsCloses assembly core) (journal_of core assembly)) actor line other second (here.closes refl) (there.closes refl)
  same_place (suc (suc (suc (suc zero)))) actor line other second some few here there =
      one_place (assembly.cores + 1) (OutcomesOf assembly) (OutcomesFault assembly) outcomes_break outcomes_line actor line other second (here.outcomes refl)
      (there.outcomes refl)
  same_place (suc (suc (suc (suc (suc zero))))) actor line other second some few here there =
      one_place assembly.cores (PicksOf assembly) (PicksFault assembly)
      (λ core line fault keeps. pick_breaks assembly.burst (journal_of core assembly) line fault keeps.notes keeps.last_followed)
      (λ core. one_pick_fault assembly.burst (journal_of core assembly)) actor line other second (here.picks refl) (there.picks refl)
  same_place (suc (suc (suc (suc (suc (suc rule)))))) actor line other second some few here there = absurd (omega (arith, few))

  -- the journals determine the verdict
  pub one_verdict : (one other : Verdict) → IsVerdict assembly one → IsVerdict assembly other → one ≡ other
  one_verdict Sound other holds second = sym (only_sound assembly other second holds)
  one_verdict (Fault actor line rule) Sound holds second = only_sound assembly (Fault actor line rule) holds second
  one_verdict (Fault actor line rule) (Fault other place named) holds second =
      let same : rule ≡ named = one_first assembly rule named (says_broken assembly (Fault actor line rule) holds) (says_broken assembly (Fault other place named) second) in
      let at = subst (λ (it : ℕ). IsPlaceOf assembly it other place) (sym same) second.place in
      let both = same_place rule actor line other place holds.some holds.few holds.place at in
      rw (both.0, both.1, same) refl
