-- A core that closes in mode `Return` hands back what is inside, and is drained: its journals are lawful and joined.
use Rattle.base_words.proofs.Words.{accepted_orders, AreJoined, arith, Bool, both_returned, both_taken, collected_outcomes, core_terms, delivered_names, DeliversAsSent, detached_one, EachNote, false, final_count, given_outcomes, has_work}
use Rattle.base_words.proofs.Words.{inl, IsLawful, IsPrefix, IsRightPick, IsServed, journal_of, length, names_of, one_returned, outside_terms, refl, returning, returning_core, same_Some, Some, submission, suc, sym, terms_of, true}
use Rattle.base_words.proofs.Words.{true≢false, zero, ℕ, [], ◌<◌, ◌==◌, ◌∙◌, ◌∷◌, ◌≡◌, ◌≤◌}
use Rattle.base_words.specs.declared.order.Order.TheVariants.{Job}
use Rattle.base_words.proofs.Joining.{joining_is_sound}
use Rattle.base_words.proofs.FinishingCore.{only_queue}
use Rattle.base_words.proofs.Both.{◌&◌}

-- the three picks are right, and a hand-back costs nothing
poll_pick : IsRightPick 1 0 0 both_taken
poll_pick = only_queue 0 both_taken refl refl refl (λ other apart. rw apart)

return_pick : IsRightPick 1 0 10 returning
return_pick = only_queue 10 returning refl refl refl (λ other apart. rw apart)

last_pick : IsRightPick 1 0 10 one_returned
last_pick = only_queue 10 one_returned refl refl refl (λ other apart. rw apart)

-- each note may stand where it stands
returning_core_lawful : IsLawful core_terms both_returned
returning_core_lawful = record {
  notes =
      record { may_follow = record { closed = refl; not_shut = refl; known = omega arith; delivered = omega arith; in_range = omega arith }; turn = refl; effect = tt; writer = omega arith }
      & record { may_follow = record { closed = refl; not_shut = refl; known = omega arith; delivered = omega arith; in_range = omega arith }; turn = refl; effect = tt; writer = omega arith }
      & record { may_follow = (0, record { due = inl refl; others = []; first = refl }, refl); turn = refl; effect = tt; writer = omega arith }
      & record { may_follow = record { right = last_pick; turn_left = omega arith }; turn = refl; effect = tt; writer = omega arith }
      & record { may_follow = (0, record { due = inl refl; others = (submission 1 ∷ []); first = refl }, refl); turn = refl; effect = tt; writer = omega arith }
      & record { may_follow = record { right = return_pick; turn_left = omega arith }; turn = refl; effect = tt; writer = omega arith }
      & record { may_follow = refl; turn = refl; effect = tt; writer = omega arith }
      & record { may_follow = refl; turn = refl; effect = tt; writer = omega arith }
      & record { may_follow = refl; turn = refl; effect = tt; writer = omega arith }
      & record { may_follow = (0, record { due = inl refl; others = (submission 2 ∷ []); first = refl }, refl, refl); turn = refl; effect = tt; writer = omega arith }
      & record { may_follow = record { right = poll_pick; turn_left = omega arith }; turn = refl; effect = tt; writer = omega arith }
      & record { may_follow = (record { sender = omega arith; receiver = refl; next = refl; in_range = omega arith; gate = tt }, refl); turn = refl; effect = tt; writer = omega arith }
      & record { may_follow = (record { sender = omega arith; receiver = refl; next = refl; in_range = omega arith; gate = tt }, refl); turn = refl; effect = tt; writer = omega arith }
      & tt;
  no_pick = refl;
  no_answer = refl;
  nobody_out = refl;
  no_turn = refl;
}

returning_outside_lawful : IsLawful outside_terms detached_one
returning_outside_lawful = record {
  notes =
      record { may_follow = record { collected = refl; kept = refl }; turn = refl; effect = tt; writer = tt }
      & record { may_follow = record { order = Job 0 tt; accepted = refl; fits = tt; new = refl }; turn = refl; effect = tt; writer = tt }
      & record { may_follow = record { order = Job 0 tt; accepted = refl; fits = tt; new = refl }; turn = refl; effect = tt; writer = tt }
      & record { may_follow = record { order = Job 0 tt; accepted = refl; kept = refl }; turn = refl; effect = tt; writer = tt }
      & record { may_follow = record { sender = refl; receiver = omega arith; next = refl; in_range = omega arith; credit = omega arith; spelled = omega arith }; turn = refl; effect = tt; writer = tt }
      & record { may_follow = record { sender = refl; receiver = omega arith; next = refl; in_range = omega arith; credit = omega arith; spelled = omega arith }; turn = refl; effect = tt; writer = tt }
      & tt;
  no_pick = refl;
  no_answer = refl;
  nobody_out = refl;
  no_turn = refl;
}

-- and the links agree
returning_lawful : (actor : ℕ) → actor ≤ 1 → IsLawful (terms_of actor returning_core) (journal_of actor returning_core)
returning_lawful zero within = returning_core_lawful
returning_lawful (suc zero) within = returning_outside_lawful
returning_lawful (suc (suc actor)) within = absurd (omega arith)

returning_deliveries : (sender core : ℕ) → sender ≤ 1 → core < 1 →
    IsPrefix (delivered_names sender (journal_of core returning_core)) (names_of (accepted_orders core (journal_of sender returning_core)))
returning_deliveries zero zero s c = ([], refl)
returning_deliveries (suc zero) zero s c = ([], refl)
returning_deliveries (suc (suc sender)) zero s c = absurd (omega arith)
returning_deliveries sender (suc core) s c = absurd (omega arith)

returning_collections : (sender core : ℕ) → sender ≤ 1 → core < 1 →
    IsPrefix (collected_outcomes core (journal_of sender returning_core)) (given_outcomes sender (journal_of core returning_core))
returning_collections zero zero s c = ([], refl)
returning_collections (suc zero) zero s c = ([], refl)
returning_collections (suc (suc sender)) zero s c = absurd (omega arith)
returning_collections sender (suc core) s c = absurd (omega arith)

returning_gates : (sender core : ℕ) → sender ≤ 1 → core < 1 → (count : ℕ) → final_count sender (journal_of core returning_core) ≡ Some count →
    count ≡ length (accepted_orders core (journal_of sender returning_core))
returning_gates zero zero s c count shut = sym (same_Some _ count shut)
returning_gates (suc zero) zero s c count shut = sym (same_Some _ count shut)
returning_gates (suc (suc sender)) zero s c count shut = absurd (omega arith)
returning_gates sender (suc core) s c count shut = absurd (omega arith)

returning_as_sent : (actor : ℕ) → actor ≤ 1 → EachNote (DeliversAsSent returning_core) (journal_of actor returning_core)
returning_as_sent zero within = (tt, (tt, (tt, (tt, (tt, (tt, (tt, (tt, (tt, (tt, (tt, (refl, (refl, tt)))))))))))))
returning_as_sent (suc zero) within = (tt, (tt, (tt, (tt, (tt, (tt, tt))))))
returning_as_sent (suc (suc actor)) within = absurd (omega arith)

returning_joined : AreJoined returning_core
returning_joined = record {
  journals = refl;
  lawful = returning_lawful;
  links = record { deliveries = returning_deliveries; collections = returning_collections; gates = returning_gates; as_sent = returning_as_sent };
}

-- each gate is shut at what was delivered
returning_delivered : (sender : ℕ) → sender ≤ 1 → final_count sender both_returned ≡ Some (length (delivered_names sender both_returned))
returning_delivered zero within = refl
returning_delivered (suc zero) within = refl
returning_delivered (suc (suc sender)) within = absurd (omega arith)

-- no queue has work at the end
returning_idle : (queue : ℕ) → has_work queue both_returned ≡ true → ⊥
returning_idle queue work = by_test (queue == 0) refl
  where
    by_test : (test : Bool) → (queue == 0) ≡ test → ⊥
    by_test true same = let none : has_work queue both_returned ≡ false = rw same in true≢false (sym work ∙ none)
    by_test false same = let none : has_work queue both_returned ≡ false = rw same in true≢false (sym work ∙ none)

-- so it is drained, joined and sound
pub returning_served : IsServed returning_core
returning_served = record {
  drained = record { delivered_all = returning_delivered; idle = returning_idle; nobody_parked = λ queue. refl };
  joined = returning_joined;
  sound = joining_is_sound returning_core returning_joined;
  nothing_outstanding = refl;
}
