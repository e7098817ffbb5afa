-- A core whose queue and which itself are closed by commands hands back what is inside, and is drained: its journals are lawful and joined.
use Rattle.base_words.proofs.Words.{accepted_orders, answered_all, AreJoined, arith, Bool, collected_outcomes, commanded, commanded_core, cond, core_terms, delivered_names, DeliversAsSent, EachNote, emptied, false, final_count}
use Rattle.base_words.proofs.Words.{given_outcomes, has_work, inl, IsLawful, IsPrefix, IsRightPick, IsServed, JobId, journal_of, length, List, names_of, outside_terms, parked, refl, same_Some, Some, suc, sym, terms_of, true, true≢false}
use Rattle.base_words.proofs.Words.{zero, ℕ, [], ◌&&◌, ◌<◌, ◌==◌, ◌∙◌, ◌≡◌, ◌≤◌}
use Rattle.base_words.specs.declared.order.Mode.TheVariants.{Finish, Return}
use Rattle.base_words.specs.declared.order.Order.TheVariants.{Job, Close, CloseCore}
use Rattle.base_words.proofs.Joining.{joining_is_sound}
use Rattle.base_words.proofs.FinishingCore.{only_queue}
use Rattle.base_words.proofs.Both.{◌&◌}

-- the only pick is right
only_pick : IsRightPick 1 0 0 commanded
only_pick = only_queue 0 commanded refl refl refl (λ other apart. rw apart)

-- each note may stand where it stands
commanded_core_lawful : IsLawful core_terms emptied
commanded_core_lawful = record {
  notes =
      record { may_follow = record { closed = refl; not_shut = refl; known = omega arith; delivered = omega arith; in_range = omega arith }; turn = refl; effect = tt; writer = omega arith }
      & record { may_follow = record { closed = refl; not_shut = refl; known = omega arith; delivered = omega arith; in_range = omega arith }; turn = refl; effect = tt; writer = omega arith }
      & record { may_follow = (0, record { due = inl refl; others = []; first = refl }, refl); turn = refl; effect = tt; writer = omega arith }
      & record { may_follow = record { right = only_pick; turn_left = omega arith }; turn = refl; effect = tt; writer = omega arith }
      & record { may_follow = refl; turn = refl; effect = refl; writer = omega arith }
      & record { may_follow = (record { sender = omega arith; receiver = refl; next = refl; in_range = omega arith; gate = tt }, (CloseCore Finish, refl)); turn = refl; effect = tt; writer = omega arith }
      & record { may_follow = (record { sender = omega arith; receiver = refl; next = refl; in_range = omega arith; gate = tt }, (Close 0 Finish, refl)); turn = refl; effect = tt; writer = omega arith }
      & record { may_follow = (omega arith, refl); turn = refl; effect = refl; writer = omega arith }
      & record { may_follow = (record { sender = omega arith; receiver = refl; next = refl; in_range = omega arith; gate = tt }, (Close 0 Return, refl)); turn = refl; effect = tt; writer = omega arith }
      & record { may_follow = (record { sender = omega arith; receiver = refl; next = refl; in_range = omega arith; gate = tt }, refl); turn = refl; effect = tt; writer = omega arith }
      & tt;
  no_pick = refl;
  no_answer = refl;
  nobody_out = refl;
  no_turn = refl;
}

commanded_outside_lawful : IsLawful outside_terms answered_all
commanded_outside_lawful = record {
  notes =
      record { may_follow = record { order = Job 0 tt; accepted = refl; kept = refl }; turn = refl; effect = tt; writer = tt }
      & record { may_follow = record { order = Job 0 tt; accepted = refl; fits = tt; new = refl }; turn = refl; effect = tt; writer = tt }
      & record { may_follow = record { collected = refl; kept = refl }; turn = refl; effect = tt; writer = tt }
      & record { may_follow = record { order = CloseCore Finish; accepted = refl; fits = tt; new = refl }; turn = refl; effect = tt; writer = tt }
      & record { may_follow = record { order = Close 0 Finish; accepted = refl; fits = tt; new = refl }; turn = refl; effect = tt; writer = tt }
      & record { may_follow = record { order = Close 0 Finish; accepted = refl; kept = refl }; turn = refl; effect = tt; writer = tt }
      & record { may_follow = record { collected = refl; kept = refl }; turn = refl; effect = tt; writer = tt }
      & record { may_follow = record { order = Close 0 Return; accepted = refl; fits = tt; new = refl }; turn = refl; effect = tt; writer = tt }
      & record { may_follow = record { sender = refl; receiver = omega arith; next = refl; in_range = omega arith; credit = omega arith; spelled = tt }; turn = refl; effect = tt; writer = tt }
      & record { may_follow = record { sender = refl; receiver = omega arith; next = refl; in_range = omega arith; credit = omega arith; spelled = omega arith }; turn = refl; effect = tt; writer = tt }
      & record { may_follow = record { sender = refl; receiver = omega arith; next = refl; in_range = omega arith; credit = omega arith; spelled = omega arith }; turn = refl; effect = tt; writer = tt }
      & record { may_follow = record { sender = refl; receiver = omega arith; next = refl; in_range = omega arith; credit = omega arith; spelled = omega arith }; turn = refl; effect = tt; writer = tt }
      & tt;
  no_pick = refl;
  no_answer = refl;
  nobody_out = refl;
  no_turn = refl;
}

-- and the links agree
commanded_lawful : (actor : ℕ) → actor ≤ 1 → IsLawful (terms_of actor commanded_core) (journal_of actor commanded_core)
commanded_lawful zero within = commanded_core_lawful
commanded_lawful (suc zero) within = commanded_outside_lawful
commanded_lawful (suc (suc actor)) within = absurd (omega arith)

commanded_deliveries : (sender core : ℕ) → sender ≤ 1 → core < 1 →
    IsPrefix (delivered_names sender (journal_of core commanded_core)) (names_of (accepted_orders core (journal_of sender commanded_core)))
commanded_deliveries zero zero s c = ([], refl)
commanded_deliveries (suc zero) zero s c = ([], refl)
commanded_deliveries (suc (suc sender)) zero s c = absurd (omega arith)
commanded_deliveries sender (suc core) s c = absurd (omega arith)

commanded_collections : (sender core : ℕ) → sender ≤ 1 → core < 1 →
    IsPrefix (collected_outcomes core (journal_of sender commanded_core)) (given_outcomes sender (journal_of core commanded_core))
commanded_collections zero zero s c = ([], refl)
commanded_collections (suc zero) zero s c = ([], refl)
commanded_collections (suc (suc sender)) zero s c = absurd (omega arith)
commanded_collections sender (suc core) s c = absurd (omega arith)

commanded_gates : (sender core : ℕ) → sender ≤ 1 → core < 1 → (count : ℕ) → final_count sender (journal_of core commanded_core) ≡ Some count →
    count ≡ length (accepted_orders core (journal_of sender commanded_core))
commanded_gates zero zero s c count shut = sym (same_Some _ count shut)
commanded_gates (suc zero) zero s c count shut = sym (same_Some _ count shut)
commanded_gates (suc (suc sender)) zero s c count shut = absurd (omega arith)
commanded_gates sender (suc core) s c count shut = absurd (omega arith)

commanded_as_sent : (actor : ℕ) → actor ≤ 1 → EachNote (DeliversAsSent commanded_core) (journal_of actor commanded_core)
commanded_as_sent zero within = (tt, (tt, (tt, (tt, ((λ effect. (CloseCore Finish, refl, refl)), ((CloseCore Finish, refl, refl), ((Close 0 Finish, refl, refl), ((λ effect. (Close 0 Return, refl, refl)), ((Close 0 Return, refl, refl), (refl, tt))))))))))
commanded_as_sent (suc zero) within = (tt, (tt, (tt, (tt, (tt, (tt, (tt, (tt, (tt, (tt, (tt, (tt, tt))))))))))))
commanded_as_sent (suc (suc actor)) within = absurd (omega arith)

commanded_joined : AreJoined commanded_core
commanded_joined = record {
  journals = refl;
  lawful = commanded_lawful;
  links = record { deliveries = commanded_deliveries; collections = commanded_collections; gates = commanded_gates; as_sent = commanded_as_sent };
}

-- each gate is shut at what was delivered
commanded_delivered : (sender : ℕ) → sender ≤ 1 → final_count sender emptied ≡ Some (length (delivered_names sender emptied))
commanded_delivered zero within = refl
commanded_delivered (suc zero) within = refl
commanded_delivered (suc (suc sender)) within = absurd (omega arith)

-- no queue has work at the end
commanded_idle : (queue : ℕ) → has_work queue emptied ≡ true → ⊥
commanded_idle queue work = by_test (queue == 0) refl
  where
    by_test : (test : Bool) → (queue == 0) ≡ test → ⊥
    by_test true same = let none : has_work queue emptied ≡ false = rw same in true≢false (sym work ∙ none)
    by_test false same = let none : has_work queue emptied ≡ false = rw same in true≢false (sym work ∙ none)

-- and nobody is parked
commanded_awake : (queue : ℕ) → parked queue emptied ≡ []
commanded_awake queue = by_test (queue == 0)
  where
    by_test : (test : Bool) → cond {A = List JobId} (test && true) [] [] ≡ []
    by_test true = refl
    by_test false = refl

-- so it is drained, joined and sound
pub commanded_served : IsServed commanded_core
commanded_served = record {
  drained = record { delivered_all = commanded_delivered; idle = commanded_idle; nobody_parked = commanded_awake };
  joined = commanded_joined;
  sound = joining_is_sound commanded_core commanded_joined;
  nothing_outstanding = refl;
}
