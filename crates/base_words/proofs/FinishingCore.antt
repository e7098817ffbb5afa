-- A core that closes in mode `Finish` runs its job on, and is drained: its journals are lawful and joined.
use Rattle.base_words.proofs.Words.{accepted_orders, AreJoined, arith, Bool, closing, collected_outcomes, core_terms, delivered_names, DeliversAsSent, drained_core, EachNote, ended, false, final_count, given_outcomes, going_on, has_work}
use Rattle.base_words.proofs.Words.{inl, inr, IsLawful, IsPrefix, IsRightPick, IsServed, jobs_out, Journal, journal_of, KeyAtMost, length, names_of, outside_terms, refl, same_Some, served, Some, suc, sym, terms_of, true, true≢false}
use Rattle.base_words.proofs.Words.{virtual_runtime, zero, ℕ, [], ◌<◌, ◌==◌, ◌∙◌, ◌≡◌, ◌≤◌}
use Rattle.std.proofs.Common.{eqb-true}
use Rattle.base_words.specs.declared.order.Order.TheVariants.{Job}
use Rattle.base_words.proofs.Joining.{joining_is_sound}
use Rattle.base_words.proofs.Both.{◌&◌}

-- where queue 0 alone has work, its pick is right
pub only_queue : (runtime : ℕ) (before : Journal ℕ) → runtime ≡ virtual_runtime 1 0 before → has_work 0 before ≡ true → jobs_out before ≡ [] →
    ((other : ℕ) → (other == 0) ≡ false → has_work other before ≡ false) → IsRightPick 1 0 runtime before
only_queue runtime before at work nobody idle = record { at = at; eligible = record { work = work; nobody_out = nobody; no_turn = refl }; least = λ other ready. by_test other (other == 0) refl ready.work }
  where
    by_test : (other : ℕ) (test : Bool) → (other == 0) ≡ test → has_work other before ≡ true → KeyAtMost runtime 0 (virtual_runtime 1 other before) other
    by_test other true same work = rw (eqb-true other 0 same) (inr (at, omega arith))
    by_test other false apart work = absurd (true≢false (sym work ∙ idle other apart))

-- both picks are right
first_pick : IsRightPick 1 0 0 closing
first_pick = only_queue 0 closing refl refl refl (λ other apart. rw apart)

second_pick : IsRightPick 1 0 10 going_on
second_pick = only_queue 10 going_on refl refl refl (λ other apart. rw apart)

-- each note may stand where it stands
finishing_core_lawful : IsLawful core_terms ended
finishing_core_lawful = record {
  notes =
      record { may_follow = refl; turn = refl; effect = tt; writer = omega arith }
      & record { may_follow = (0, record { due = inl refl; others = []; first = refl }, refl, refl); turn = refl; effect = tt; writer = omega arith }
      & record { may_follow = record { right = second_pick; turn_left = omega arith }; turn = refl; effect = tt; writer = omega arith }
      & record { may_follow = refl; turn = refl; effect = tt; writer = omega arith }
      & record { may_follow = (0, record { due = inl refl; others = []; first = refl }, refl, refl); turn = refl; effect = tt; writer = omega arith }
      & record { may_follow = record { right = first_pick; turn_left = omega arith }; turn = refl; effect = tt; writer = omega arith }
      & record { may_follow = record { closed = refl; not_shut = refl; known = omega arith; delivered = omega arith; in_range = omega arith }; turn = refl; effect = tt; writer = omega arith }
      & record { may_follow = record { closed = refl; not_shut = refl; known = omega arith; delivered = omega arith; in_range = omega arith }; turn = refl; effect = tt; writer = omega arith }
      & record { may_follow = refl; turn = refl; effect = tt; writer = omega arith }
      & record { may_follow = (record { sender = omega arith; receiver = refl; next = refl; in_range = omega arith; gate = tt }, refl); turn = refl; effect = tt; writer = omega arith }
      & tt;
  no_pick = refl;
  no_answer = refl;
  nobody_out = refl;
  no_turn = refl;
}

finishing_outside_lawful : IsLawful outside_terms served
finishing_outside_lawful = record {
  notes =
      record { may_follow = record { collected = refl; kept = refl }; turn = refl; effect = tt; writer = tt }
      & record { may_follow = record { order = Job 0 tt; accepted = refl; fits = tt; new = refl }; turn = refl; effect = tt; writer = tt }
      & record { may_follow = record { sender = refl; receiver = omega arith; next = refl; in_range = omega arith; credit = omega arith; spelled = omega arith }; turn = refl; effect = tt; writer = tt }
      & tt;
  no_pick = refl;
  no_answer = refl;
  nobody_out = refl;
  no_turn = refl;
}

-- and the links agree
finishing_lawful : (actor : ℕ) → actor ≤ 1 → IsLawful (terms_of actor drained_core) (journal_of actor drained_core)
finishing_lawful zero within = finishing_core_lawful
finishing_lawful (suc zero) within = finishing_outside_lawful
finishing_lawful (suc (suc actor)) within = absurd (omega arith)

finishing_deliveries : (sender core : ℕ) → sender ≤ 1 → core < 1 →
    IsPrefix (delivered_names sender (journal_of core drained_core)) (names_of (accepted_orders core (journal_of sender drained_core)))
finishing_deliveries zero zero s c = ([], refl)
finishing_deliveries (suc zero) zero s c = ([], refl)
finishing_deliveries (suc (suc sender)) zero s c = absurd (omega arith)
finishing_deliveries sender (suc core) s c = absurd (omega arith)

finishing_collections : (sender core : ℕ) → sender ≤ 1 → core < 1 →
    IsPrefix (collected_outcomes core (journal_of sender drained_core)) (given_outcomes sender (journal_of core drained_core))
finishing_collections zero zero s c = ([], refl)
finishing_collections (suc zero) zero s c = ([], refl)
finishing_collections (suc (suc sender)) zero s c = absurd (omega arith)
finishing_collections sender (suc core) s c = absurd (omega arith)

finishing_gates : (sender core : ℕ) → sender ≤ 1 → core < 1 → (count : ℕ) → final_count sender (journal_of core drained_core) ≡ Some count →
    count ≡ length (accepted_orders core (journal_of sender drained_core))
finishing_gates zero zero s c count shut = sym (same_Some _ count shut)
finishing_gates (suc zero) zero s c count shut = sym (same_Some _ count shut)
finishing_gates (suc (suc sender)) zero s c count shut = absurd (omega arith)
finishing_gates sender (suc core) s c count shut = absurd (omega arith)

finishing_as_sent : (actor : ℕ) → actor ≤ 1 → EachNote (DeliversAsSent drained_core) (journal_of actor drained_core)
finishing_as_sent zero within = (tt, (tt, (tt, (tt, (tt, (tt, (tt, (tt, (tt, (refl, tt))))))))))
finishing_as_sent (suc zero) within = (tt, (tt, (tt, tt)))
finishing_as_sent (suc (suc actor)) within = absurd (omega arith)

finishing_joined : AreJoined drained_core
finishing_joined = record {
  journals = refl;
  lawful = finishing_lawful;
  links = record { deliveries = finishing_deliveries; collections = finishing_collections; gates = finishing_gates; as_sent = finishing_as_sent };
}

-- each gate is shut at what was delivered
finishing_delivered : (sender : ℕ) → sender ≤ 1 → final_count sender ended ≡ Some (length (delivered_names sender ended))
finishing_delivered zero within = refl
finishing_delivered (suc zero) within = refl
finishing_delivered (suc (suc sender)) within = absurd (omega arith)

-- no queue has work at the end
finishing_idle : (queue : ℕ) → has_work queue ended ≡ true → ⊥
finishing_idle queue work = by_test (queue == 0) refl
  where
    by_test : (test : Bool) → (queue == 0) ≡ test → ⊥
    by_test true same = let none : has_work queue ended ≡ false = rw same in true≢false (sym work ∙ none)
    by_test false same = let none : has_work queue ended ≡ false = rw same in true≢false (sym work ∙ none)

-- so it is drained, joined and sound
pub finishing_served : IsServed drained_core
finishing_served = record {
  drained = record { delivered_all = finishing_delivered; idle = finishing_idle; nobody_parked = λ queue. refl };
  joined = finishing_joined;
  sound = joining_is_sound drained_core finishing_joined;
  nothing_outstanding = refl;
}
