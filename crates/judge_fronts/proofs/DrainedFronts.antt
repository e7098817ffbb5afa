-- A core that is drained in the front of sound journals has ended there all that was accepted for it.
use Rattle.judge_fronts.proofs.Names.{accepted_orders, AllEnded, among, ap, arith, Assembly, Bool, cond, Continues, count_told, delivered_names, EachNote, eqb-true, false, final_count, first_under, first_under-among, inl, inr}
use Rattle.judge_fronts.proofs.Names.{is_command, is_some, is_told, IsAcceptedCommand, IsAcceptedJob, IsDrained, IsPrefix-along, IsPrefix-same, IsSound, IsSpelled, JobId, Journal, journal_of, length, length-map, List, lt-ltb, name_delivered}
use Rattle.judge_fronts.proofs.Names.{name_ended, names_of, None, Note, Option, or_else, Order, order_of, OutcomesRight, queue_of, refl, RespectsCloses, Some, StandsInOrder, subst, sym, true, true≢false, ℕ, [], ◌<◌, ◌==◌, ◌∙◌, ◌∷◌, ◌≡◌, ◌≤◌}
use Rattle.base_words.proofs.Ended.{IsMet, delivered_met, ended_job, answered_command, not_both}
use Rattle.base_words.proofs.StartsOnce.{is_some-some, sent_there}
use Rattle.base_words.specs.declared.note.Note.TheVariants.{Shut}
use Rattle.judge_fronts.proofs.Inside.{inside, is_inside, counted}
use Rattle.judge_fronts.proofs.Whole.{each_front, has_journal, same_order, told_grows}

-- a gate is shut at the count of what was accepted in all
gate_counts : (assembly : Assembly ℕ) (core sender count : ℕ) (journal : Journal ℕ) → EachNote (RespectsCloses assembly core) journal → final_count sender journal ≡ Some count →
    count ≡ length (accepted_orders core (journal_of sender assembly))
gate_counts assembly core sender count [] right shut = cc
gate_counts assembly core sender count (note ∷ before) right shut = by_note note right.0 (gate_counts assembly core sender count before right.1) shut
  where
    by_note : (note : Note ℕ) → RespectsCloses assembly core note before →
        (final_count sender before ≡ Some count → count ≡ length (accepted_orders core (journal_of sender assembly))) →
        or_else (count_told sender note) (final_count sender before) ≡ Some count → count ≡ length (accepted_orders core (journal_of sender assembly))
    by_note (Shut other told) law rest shut = by_test (sender == other) refl shut
      where
        by_test : (test : Bool) → (sender == other) ≡ test → or_else (cond test (Some told) None) (final_count sender before) ≡ Some count →
            count ≡ length (accepted_orders core (journal_of sender assembly))
        by_test false apart shut = rest shut
        by_test true same shut =
            let one : told ≡ count = cc in
            sym one ∙ (law.2 ∙ ap (λ (actor : ℕ). length (accepted_orders core (journal_of actor assembly))) (sym (eqb-true sender other same)))
    by_note _ law rest shut = rest shut

-- where one is there, there are some
some_there : (name : JobId) (names : List JobId) → among name names ≡ true → 1 ≤ length names
some_there name [] there = absurd (true≢false (sym there))
some_there name (first ∷ names) there = omega arith

module _ (front whole : Assembly ℕ) (continues : Continues front whole) (spelled : IsSpelled front) (sound : IsSound whole)
    (core : ℕ) (within : core < front.cores) (drained : IsDrained front.cores (journal_of core front)) where
  outcomes : EachNote (OutcomesRight whole) (journal_of core front)
  outcomes = each_front front whole continues (OutcomesRight whole) core (omega (arith, within)) (sound.outcomes.notes core (omega (arith, within, continues.cores)))

  order : EachNote (StandsInOrder whole) (journal_of core front)
  order = each_front front whole continues (StandsInOrder whole) core (omega (arith, within)) (sound.order.notes core (omega (arith, within, continues.cores)))

  closes : EachNote (RespectsCloses whole core) (journal_of core front)
  closes = each_front front whole continues (RespectsCloses whole core) core (omega (arith, within)) (sound.closes.notes core (omega (arith, within, continues.cores)))

  -- all that an actor was ever accepted was delivered by then
  all_delivered : (sender : ℕ) → sender ≤ front.cores → delivered_names sender (journal_of core front) ≡ names_of (accepted_orders core (journal_of sender whole))
  all_delivered sender known =
      let sent = accepted_orders core (journal_of sender whole) in
      let count = gate_counts whole core sender _ (journal_of core front) closes (drained.delivered_all sender known) in
      let grown = told_grows front whole continues (name_delivered sender) core (omega (arith, within)) in
      let begins = sound.order.deliveries sender core (omega (arith, known, continues.cores)) (omega (arith, within, continues.cores)) in
      sym (IsPrefix-same _ _ (IsPrefix-along _ _ _ grown begins) (length-map sent (λ (entry : JobId × Order (Unit {0})). entry.0) ∙ sym count))

  -- so each order is met
  met : (name : JobId) (sent : Order (Unit {0})) → name.to ≡ core → name.from ≤ front.cores → order_of name whole ≡ Some sent → IsMet name (journal_of core front)
  met name sent to known is =
      let there = first_under-among name (accepted_orders name.to (journal_of name.from whole)) sent is in
      let at_core = subst (λ (receiver : ℕ). among name (names_of (accepted_orders receiver (journal_of name.from whole))) ≡ true) to there in
      delivered_met name (journal_of core front) (ap (among name) (all_delivered name.from known) ∙ at_core)

  -- and what entered has ended
  entered_ended : (name : JobId) → is_some (queue_of name (journal_of core front)) ≡ true → is_told name_ended name (journal_of core front) ≡ true
  entered_ended name entered = by_test (is_told name_ended name (journal_of core front)) refl
    where
      by_test : (test : Bool) → is_told name_ended name (journal_of core front) ≡ test → test ≡ true
      by_test true ended = refl
      by_test false going_on =
          let journal = journal_of core front in
          let its = is_some-some (queue_of name journal) entered in
          let few = counted whole its.0 journal outcomes in
          let some = some_there name (inside its.0 journal) (is_inside its.0 name journal its.1 going_on) in
          let nobody = ap (λ (names : List JobId). length names) (drained.nobody_parked its.0) in
          absurd (drained.idle its.0 (lt-ltb _ _ (omega (arith, few, some, nobody))))

  accepted : (name : JobId) → is_some (order_of name front) ≡ true → (name.from ≤ front.cores) × (order_of name whole ≡ order_of name front)
  accepted name has = (
    has_journal front spelled (λ journal. is_some (first_under name (accepted_orders name.to journal)) ≡ true) (λ there. true≢false (sym there)) name.from has,
    same_order front whole continues spelled name has,
  )

  ended_or_job : (name : JobId) → is_some (queue_of name (journal_of core front)) ≡ true → IsAcceptedJob name whole
  ended_or_job name entered =
      let its = is_some-some (queue_of name (journal_of core front)) entered in
      (its.0, sent_there whole name its.0 (journal_of core front) order its.1)

  pub drained_ended : AllEnded front core
  drained_ended = record {
    jobs = λ name to job.
        let is = accepted name (ap is_some job.1) in
        elim (met name _ to is.0 (is.1 ∙ job.1)) [
          | inl entered ↦ entered_ended name entered
          | inr (inl ended) ↦ ended
          | inr (inr answered) ↦ absurd (not_both whole name (job.0, is.1 ∙ job.1) (answered_command whole name _ outcomes answered))
        ];
    commands = λ name to command.
        let sent = some_order name command in
        let is = accepted name (ap is_some sent.1) in
        let as_command : IsAcceptedCommand name whole = ap is_command is.1 ∙ command in
        elim (met name sent.0 to is.0 (is.1 ∙ sent.1)) [
          | inl entered ↦ absurd (not_both whole name (ended_or_job name entered) as_command)
          | inr (inl ended) ↦ absurd (not_both whole name (ended_job whole name _ outcomes ended) as_command)
          | inr (inr answered) ↦ answered
        ];
  }
    where
      some_order : (name : JobId) → IsAcceptedCommand name front → (sent : Order (Unit {0})) × (order_of name front ≡ Some sent)
      some_order name command = by_order (order_of name front) refl command
        where
          by_order : (found : Option (Order (Unit {0}))) → order_of name front ≡ found → is_command found ≡ true → (sent : Order (Unit {0})) × (order_of name front ≡ Some sent)
          by_order None is command = cc
          by_order (Some sent) is command = (sent, is)
