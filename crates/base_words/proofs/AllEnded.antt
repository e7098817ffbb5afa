-- If a core is drained among joined journals, all that was accepted for it has ended.
use Rattle.base_words.proofs.Words.{accepted_orders, AllEnded, ap, AreJoined, arith, Assembly, Bool, delivered_names, EachNote, false, inl, inr, is_command, is_some, is_told, IsAcceptedCommand, IsAcceptedJob, IsDrained, JobId, journal_of}
use Rattle.base_words.proofs.Words.{leb-false, leb-true, length-map, line, List, name_ended, names_of, nat_le, None, Option, Order, order_of, OutcomesRight, queue_of, refl, slice_get, slice_get_past, Some, StandsInOrder, subst, sym}
use Rattle.base_words.proofs.Words.{terms_of, true, true≢false, ℕ, [], ◌<◌, ◌∙◌, ◌∷◌, ◌≡◌, ◌≤◌}
use Rattle.base_words.proofs.Ended.{IsMet, delivered_met, ended_job, answered_command, not_both, entered_somewhere}
use Rattle.base_words.proofs.NameLemmas.{among}
use Rattle.base_words.proofs.Prefixes.{IsPrefix-same}
use Rattle.base_words.proofs.StartsOnce.{is_some-some, sent_there}
use Rattle.base_words.proofs.Under.{first_under-among}
use Rattle.base_words.proofs.WorkOfLines.{work_of_line}

module _ {T : Type 0} (assembly : Assembly T) (joined : AreJoined assembly) where
  -- an order was accepted of an actor that there is
  accepted_sender : (name : JobId) (order : Order (Unit {0})) → order_of name assembly ≡ Some order → name.from ≤ assembly.cores
  accepted_sender name order sent = by_test (nat_le name.from assembly.cores) refl
    where
      by_test : (test : Bool) → nat_le name.from assembly.cores ≡ test → name.from ≤ assembly.cores
      by_test true within = leb-true name.from assembly.cores within
      by_test false past =
          let beyond : assembly.cores < name.from = leb-false name.from assembly.cores past in
          let nobody : slice_get assembly.journals name.from ≡ None = slice_get_past assembly.journals name.from (omega (arith, joined.journals)) in
          let nothing : order_of name assembly ≡ None = rw nobody in
          cc

  module _ (core : ℕ) (within : core < assembly.cores) (drained : IsDrained assembly.cores (journal_of core assembly)) where
    -- all that an actor was accepted was delivered
    all_delivered : (sender : ℕ) → sender ≤ assembly.cores → delivered_names sender (journal_of core assembly) ≡ names_of (accepted_orders core (journal_of sender assembly))
    all_delivered sender known =
        let count = joined.links.gates sender core known within _ (drained.delivered_all sender known) in
        sym (IsPrefix-same _ _ (joined.links.deliveries sender core known within) (length-map _ _ ∙ sym count))

    -- so it is met
    met : (name : JobId) (order : Order (Unit {0})) → name.to ≡ core → order_of name assembly ≡ Some order → IsMet name (journal_of core assembly)
    met name order to sent =
        let there = first_under-among name (accepted_orders name.to (journal_of name.from assembly)) order sent in
        let at_core = subst (λ receiver. among name (names_of (accepted_orders receiver (journal_of name.from assembly))) ≡ true) to there in
        delivered_met name (journal_of core assembly) (ap (among name) (all_delivered name.from (accepted_sender name order sent)) ∙ at_core)

    -- nobody waits in a line
    no_line : (queue : ℕ) (name : JobId) → among name (line queue (journal_of core assembly)) ≡ true → ⊥
    no_line queue name there = by_line (line queue (journal_of core assembly)) refl there
      where
        by_line : (names : List JobId) → line queue (journal_of core assembly) ≡ names → among name names ≡ true → ⊥
        by_line [] is there = true≢false (sym there)
        by_line (first ∷ others) is there =
            drained.idle queue (work_of_line (terms_of core assembly) queue (journal_of core assembly) (joined.lawful core (omega arith)).notes first others is)

    -- what entered has ended
    entered_ended : (name : JobId) → is_some (queue_of name (journal_of core assembly)) ≡ true → is_told name_ended name (journal_of core assembly) ≡ true
    entered_ended name entered =
        let its = is_some-some (queue_of name (journal_of core assembly)) entered in
        elim (entered_somewhere name its.0 (journal_of core assembly) its.1) [
          | inl waits ↦ absurd (no_line its.0 name waits)
          | inr (inl outside) ↦ absurd (true≢false (sym outside ∙ ap (among name) (joined.lawful core (omega arith)).nobody_out))
          | inr (inr (inl ended)) ↦ ended
          | inr (inr (inr parks)) ↦ absurd (true≢false (sym parks ∙ ap (among name) (drained.nobody_parked its.0)))
        ]

    -- all that was accepted has ended
    pub all_ended : EachNote (OutcomesRight assembly) (journal_of core assembly) → EachNote (StandsInOrder assembly) (journal_of core assembly) → AllEnded assembly core
    all_ended outcomes order = record {
      jobs = λ name to accepted.
          elim (met name _ to accepted.1) [
            | inl entered ↦ entered_ended name entered
            | inr (inl ended) ↦ ended
            | inr (inr answered) ↦ absurd (not_both assembly name accepted (answered_command assembly name _ outcomes answered))
          ];
      commands = λ name to accepted.
          elim (met name (some_order name accepted).0 to (some_order name accepted).1) [
            | inl entered ↦ absurd (not_both assembly name (entered_job name entered) accepted)
            | inr (inl ended) ↦ absurd (not_both assembly name (ended_job assembly name _ outcomes ended) accepted)
            | inr (inr answered) ↦ answered
          ];
    }
      where
        some_order : (name : JobId) → IsAcceptedCommand name assembly → (sent : Order (Unit {0})) × (order_of name assembly ≡ Some sent)
        some_order name accepted = by_order (order_of name assembly) refl accepted
          where
            by_order : (found : Option (Order (Unit {0}))) → order_of name assembly ≡ found → is_command found ≡ true → (sent : Order (Unit {0})) × (order_of name assembly ≡ Some sent)
            by_order None is command = cc
            by_order (Some sent) is command = (sent, is)

        entered_job : (name : JobId) → is_some (queue_of name (journal_of core assembly)) ≡ true → IsAcceptedJob name assembly
        entered_job name entered =
            let its = is_some-some (queue_of name (journal_of core assembly)) entered in
            (its.0, sent_there assembly name its.0 (journal_of core assembly) order its.1)
