-- Each note of the three journals may stand where it stands, their links agree, and so they are sound.
use Rattle.base_words.proofs.Words.{accepted_orders, alone, AreJoined, arith, Bool, closed_over, collected_outcomes, delivered_names, DeliversAsSent, EachNote, false, final_count, first_parked, first_woken, given_outcomes, handed_back}
use Rattle.base_words.proofs.Words.{has_work, inl, inr, IsLawful, IsPrefix, IsRightPick, jobs_out, Journal, journal_of, KeyAtMost, length, names_of, None, own, ParkingIsSound, refl, Some, stayed, suc, sym, taken_beside, terms_of, true}
use Rattle.base_words.proofs.Words.{true≢false, two_taken, virtual_runtime, wake_kept, woken_early, woken_later, zero, ℕ, [], ◌<◌, ◌==◌, ◌∙◌, ◌∷◌, ◌≡◌, ◌≤◌}
use Rattle.std.proofs.Common.{eqb-true}
use Rattle.base_words.specs.declared.order.Mode.TheVariants.{Return}
use Rattle.base_words.specs.declared.order.Order.TheVariants.{Close, Wake}
use Rattle.base_words.proofs.FinishingCore.{only_queue}
use Rattle.base_words.proofs.Joining.{joining_is_sound}
use Rattle.base_words.proofs.Both.{◌&◌}

-- no gate is shut
open_gates : (journal : Journal ℕ) → ((sender : ℕ) → final_count sender journal ≡ None) → (sender core : ℕ) → sender ≤ 1 → core < 1 → (count : ℕ) →
    final_count sender (journal_of core (alone journal)) ≡ Some count → count ≡ length (accepted_orders core (journal_of sender (alone journal)))
open_gates journal open_all sender zero s c count shut = absurd (none_shut (sym (open_all sender) ∙ shut))
  where
    none_shut : None ≡ Some count → ⊥
    none_shut same = cc
open_gates journal open_all sender (suc core) s c count shut = absurd (omega arith)

-- where queue 1 alone has work, its pick is right
second_queue : (runtime : ℕ) (before : Journal ℕ) → runtime ≡ virtual_runtime 1 1 before → has_work 1 before ≡ true → jobs_out before ≡ [] →
    ((other : ℕ) → (other == 1) ≡ false → has_work other before ≡ false) → IsRightPick 1 1 runtime before
second_queue runtime before at work nobody idle = record { at = at; eligible = record { work = work; nobody_out = nobody; no_turn = refl }; least = λ other ready. by_test other (other == 1) refl ready.work }
  where
    by_test : (other : ℕ) (test : Bool) → (other == 1) ≡ test → has_work other before ≡ true → KeyAtMost runtime 1 (virtual_runtime 1 other before) other
    by_test other true same work = rw (eqb-true other 1 same) (inr (at, omega arith))
    by_test other false apart work = absurd (true≢false (sym work ∙ idle other apart))

-- the picks are right
pick_first : IsRightPick 1 0 0 two_taken
pick_first = only_queue 0 two_taken refl refl refl (λ other apart. rw apart)

pick_second : IsRightPick 1 0 10 first_parked
pick_second = only_queue 10 first_parked refl refl refl (λ other apart. rw apart)

pick_later : IsRightPick 1 0 30 first_woken
pick_later = only_queue 30 first_woken refl refl refl (λ other apart. rw apart)

pick_kept : IsRightPick 1 0 0 wake_kept
pick_kept = only_queue 0 wake_kept refl refl refl (λ other apart. rw apart)

pick_stayed : IsRightPick 1 0 10 stayed
pick_stayed = only_queue 10 stayed refl refl refl (λ other apart. rw apart)

pick_beside : IsRightPick 1 1 0 taken_beside
pick_beside = second_queue 0 taken_beside refl refl refl (λ other apart. rw apart)

pick_closed : IsRightPick 1 1 20 closed_over
pick_closed = second_queue 20 closed_over refl refl refl (λ other apart. rw apart)

-- each note may stand where it stands
woken_later_lawful : (actor : ℕ) → actor ≤ 1 → IsLawful (terms_of actor (alone woken_later)) (journal_of actor (alone woken_later))
woken_later_lawful zero within = record {
  notes =
      record { may_follow = refl; turn = refl; effect = tt; writer = omega arith }
      & record { may_follow = (0, record { due = inl refl; others = []; first = refl }, refl, refl); turn = refl; effect = tt; writer = omega arith }
      & record { may_follow = record { right = pick_later; turn_left = omega arith }; turn = refl; effect = tt; writer = omega arith }
      & record { may_follow = refl; turn = refl; effect = refl; writer = omega arith }
      & record { may_follow = (record { sender = omega arith; receiver = refl; next = refl; in_range = omega arith; gate = tt }, (Wake 0 1, refl)); turn = refl; effect = tt; writer = omega arith }
      & record { may_follow = record { sender = refl; receiver = omega arith; next = refl; in_range = omega arith; credit = omega arith; spelled = tt }; turn = refl; effect = tt; writer = tt }
      & record { may_follow = refl; turn = refl; effect = tt; writer = omega arith }
      & record { may_follow = (0, record { due = inl refl; others = []; first = refl }, refl, refl); turn = refl; effect = tt; writer = omega arith }
      & record { may_follow = record { right = pick_second; turn_left = omega arith }; turn = refl; effect = tt; writer = omega arith }
      & record { may_follow = (refl, refl); turn = refl; effect = tt; writer = omega arith }
      & record { may_follow = (0, record { due = inl refl; others = own 2 ∷ []; first = refl }, refl, refl); turn = refl; effect = tt; writer = omega arith }
      & record { may_follow = record { right = pick_first; turn_left = omega arith }; turn = refl; effect = tt; writer = omega arith }
      & record { may_follow = (record { sender = omega arith; receiver = refl; next = refl; in_range = omega arith; gate = tt }, refl); turn = refl; effect = tt; writer = omega arith }
      & record { may_follow = (record { sender = omega arith; receiver = refl; next = refl; in_range = omega arith; gate = tt }, refl); turn = refl; effect = tt; writer = omega arith }
      & record { may_follow = record { sender = refl; receiver = omega arith; next = refl; in_range = omega arith; credit = omega arith; spelled = omega arith }; turn = refl; effect = tt; writer = tt }
      & record { may_follow = record { sender = refl; receiver = omega arith; next = refl; in_range = omega arith; credit = omega arith; spelled = omega arith }; turn = refl; effect = tt; writer = tt }
      & tt;
  no_pick = refl;
  no_answer = refl;
  nobody_out = refl;
  no_turn = refl;
}
woken_later_lawful (suc zero) within = record { notes = tt; no_pick = refl; no_answer = refl; nobody_out = refl; no_turn = refl }
woken_later_lawful (suc (suc actor)) within = absurd (omega arith)

woken_later_deliveries : (sender core : ℕ) → sender ≤ 1 → core < 1 →
    IsPrefix (delivered_names sender (journal_of core (alone woken_later))) (names_of (accepted_orders core (journal_of sender (alone woken_later))))
woken_later_deliveries zero zero s c = ([], refl)
woken_later_deliveries (suc zero) zero s c = ([], refl)
woken_later_deliveries (suc (suc sender)) zero s c = absurd (omega arith)
woken_later_deliveries sender (suc core) s c = absurd (omega arith)

woken_later_collections : (sender core : ℕ) → sender ≤ 1 → core < 1 →
    IsPrefix (collected_outcomes core (journal_of sender (alone woken_later))) (given_outcomes sender (journal_of core (alone woken_later)))
woken_later_collections zero zero s c = (given_outcomes 0 woken_later, refl)
woken_later_collections (suc zero) zero s c = ([], refl)
woken_later_collections (suc (suc sender)) zero s c = absurd (omega arith)
woken_later_collections sender (suc core) s c = absurd (omega arith)

woken_later_as_sent : (actor : ℕ) → actor ≤ 1 → EachNote (DeliversAsSent (alone woken_later)) (journal_of actor (alone woken_later))
woken_later_as_sent zero within = (tt, (tt, (tt, ((λ effect. (Wake 0 1, refl, refl)), ((Wake 0 1, refl, refl), (tt, (tt, (tt, (tt, (tt, (tt, (tt, (refl, (refl, (tt, (tt, tt))))))))))))))))
woken_later_as_sent (suc zero) within = tt
woken_later_as_sent (suc (suc actor)) within = absurd (omega arith)

woken_later_joined : AreJoined (alone woken_later)
woken_later_joined = record {
  journals = refl;
  lawful = woken_later_lawful;
  links = record { deliveries = woken_later_deliveries; collections = woken_later_collections; gates = open_gates woken_later (λ sender. refl); as_sent = woken_later_as_sent };
}

-- each note may stand where it stands
woken_early_lawful : (actor : ℕ) → actor ≤ 1 → IsLawful (terms_of actor (alone woken_early)) (journal_of actor (alone woken_early))
woken_early_lawful zero within = record {
  notes =
      record { may_follow = (record { sender = omega arith; receiver = refl; next = refl; in_range = omega arith; gate = tt }, (Wake 0 1, refl)); turn = refl; effect = tt; writer = omega arith }
      & record { may_follow = record { sender = refl; receiver = omega arith; next = refl; in_range = omega arith; credit = omega arith; spelled = tt }; turn = refl; effect = tt; writer = tt }
      & record { may_follow = refl; turn = refl; effect = tt; writer = omega arith }
      & record { may_follow = (0, record { due = inl refl; others = []; first = refl }, refl, refl); turn = refl; effect = tt; writer = omega arith }
      & record { may_follow = record { right = pick_stayed; turn_left = omega arith }; turn = refl; effect = tt; writer = omega arith }
      & record { may_follow = (refl, refl); turn = refl; effect = tt; writer = omega arith }
      & record { may_follow = (0, record { due = inl refl; others = []; first = refl }, refl, refl); turn = refl; effect = tt; writer = omega arith }
      & record { may_follow = record { right = pick_kept; turn_left = omega arith }; turn = refl; effect = tt; writer = omega arith }
      & record { may_follow = refl; turn = refl; effect = refl; writer = omega arith }
      & record { may_follow = (record { sender = omega arith; receiver = refl; next = refl; in_range = omega arith; gate = tt }, (Wake 0 1, refl)); turn = refl; effect = tt; writer = omega arith }
      & record { may_follow = record { sender = refl; receiver = omega arith; next = refl; in_range = omega arith; credit = omega arith; spelled = tt }; turn = refl; effect = tt; writer = tt }
      & record { may_follow = (record { sender = omega arith; receiver = refl; next = refl; in_range = omega arith; gate = tt }, refl); turn = refl; effect = tt; writer = omega arith }
      & record { may_follow = record { sender = refl; receiver = omega arith; next = refl; in_range = omega arith; credit = omega arith; spelled = omega arith }; turn = refl; effect = tt; writer = tt }
      & tt;
  no_pick = refl;
  no_answer = refl;
  nobody_out = refl;
  no_turn = refl;
}
woken_early_lawful (suc zero) within = record { notes = tt; no_pick = refl; no_answer = refl; nobody_out = refl; no_turn = refl }
woken_early_lawful (suc (suc actor)) within = absurd (omega arith)

woken_early_deliveries : (sender core : ℕ) → sender ≤ 1 → core < 1 →
    IsPrefix (delivered_names sender (journal_of core (alone woken_early))) (names_of (accepted_orders core (journal_of sender (alone woken_early))))
woken_early_deliveries zero zero s c = ([], refl)
woken_early_deliveries (suc zero) zero s c = ([], refl)
woken_early_deliveries (suc (suc sender)) zero s c = absurd (omega arith)
woken_early_deliveries sender (suc core) s c = absurd (omega arith)

woken_early_collections : (sender core : ℕ) → sender ≤ 1 → core < 1 →
    IsPrefix (collected_outcomes core (journal_of sender (alone woken_early))) (given_outcomes sender (journal_of core (alone woken_early)))
woken_early_collections zero zero s c = (given_outcomes 0 woken_early, refl)
woken_early_collections (suc zero) zero s c = ([], refl)
woken_early_collections (suc (suc sender)) zero s c = absurd (omega arith)
woken_early_collections sender (suc core) s c = absurd (omega arith)

woken_early_as_sent : (actor : ℕ) → actor ≤ 1 → EachNote (DeliversAsSent (alone woken_early)) (journal_of actor (alone woken_early))
woken_early_as_sent zero within = ((Wake 0 1, refl, refl), (tt, (tt, (tt, (tt, (tt, (tt, (tt, ((λ effect. (Wake 0 1, refl, refl)), ((Wake 0 1, refl, refl), (tt, (refl, (tt, tt)))))))))))))
woken_early_as_sent (suc zero) within = tt
woken_early_as_sent (suc (suc actor)) within = absurd (omega arith)

woken_early_joined : AreJoined (alone woken_early)
woken_early_joined = record {
  journals = refl;
  lawful = woken_early_lawful;
  links = record { deliveries = woken_early_deliveries; collections = woken_early_collections; gates = open_gates woken_early (λ sender. refl); as_sent = woken_early_as_sent };
}

-- each note may stand where it stands
handed_back_lawful : (actor : ℕ) → actor ≤ 1 → IsLawful (terms_of actor (alone handed_back)) (journal_of actor (alone handed_back))
handed_back_lawful zero within = record {
  notes =
      record { may_follow = (1, record { due = inl refl; others = []; first = refl }, refl); turn = refl; effect = tt; writer = omega arith }
      & record { may_follow = record { right = pick_closed; turn_left = omega arith }; turn = refl; effect = tt; writer = omega arith }
      & record { may_follow = (omega arith, refl); turn = refl; effect = refl; writer = omega arith }
      & record { may_follow = (record { sender = omega arith; receiver = refl; next = refl; in_range = omega arith; gate = tt }, (Close 1 Return, refl)); turn = refl; effect = tt; writer = omega arith }
      & record { may_follow = record { sender = refl; receiver = omega arith; next = refl; in_range = omega arith; credit = omega arith; spelled = omega arith }; turn = refl; effect = tt; writer = tt }
      & record { may_follow = (refl, refl); turn = refl; effect = tt; writer = omega arith }
      & record { may_follow = (1, record { due = inl refl; others = []; first = refl }, refl, refl); turn = refl; effect = tt; writer = omega arith }
      & record { may_follow = record { right = pick_beside; turn_left = omega arith }; turn = refl; effect = tt; writer = omega arith }
      & record { may_follow = (record { sender = omega arith; receiver = refl; next = refl; in_range = omega arith; gate = tt }, refl); turn = refl; effect = tt; writer = omega arith }
      & record { may_follow = record { sender = refl; receiver = omega arith; next = refl; in_range = omega arith; credit = omega arith; spelled = omega arith }; turn = refl; effect = tt; writer = tt }
      & record { may_follow = record { next = refl; in_range = omega arith; shares = record { positive = omega arith; bounded = omega arith } }; turn = refl; effect = tt; writer = omega arith }
      & tt;
  no_pick = refl;
  no_answer = refl;
  nobody_out = refl;
  no_turn = refl;
}
handed_back_lawful (suc zero) within = record { notes = tt; no_pick = refl; no_answer = refl; nobody_out = refl; no_turn = refl }
handed_back_lawful (suc (suc actor)) within = absurd (omega arith)

handed_back_deliveries : (sender core : ℕ) → sender ≤ 1 → core < 1 →
    IsPrefix (delivered_names sender (journal_of core (alone handed_back))) (names_of (accepted_orders core (journal_of sender (alone handed_back))))
handed_back_deliveries zero zero s c = ([], refl)
handed_back_deliveries (suc zero) zero s c = ([], refl)
handed_back_deliveries (suc (suc sender)) zero s c = absurd (omega arith)
handed_back_deliveries sender (suc core) s c = absurd (omega arith)

handed_back_collections : (sender core : ℕ) → sender ≤ 1 → core < 1 →
    IsPrefix (collected_outcomes core (journal_of sender (alone handed_back))) (given_outcomes sender (journal_of core (alone handed_back)))
handed_back_collections zero zero s c = (given_outcomes 0 handed_back, refl)
handed_back_collections (suc zero) zero s c = ([], refl)
handed_back_collections (suc (suc sender)) zero s c = absurd (omega arith)
handed_back_collections sender (suc core) s c = absurd (omega arith)

handed_back_as_sent : (actor : ℕ) → actor ≤ 1 → EachNote (DeliversAsSent (alone handed_back)) (journal_of actor (alone handed_back))
handed_back_as_sent zero within = (tt, (tt, ((λ effect. (Close 1 Return, refl, refl)), ((Close 1 Return, refl, refl), (tt, (tt, (tt, (tt, (refl, (tt, (tt, tt)))))))))))
handed_back_as_sent (suc zero) within = tt
handed_back_as_sent (suc (suc actor)) within = absurd (omega arith)

handed_back_joined : AreJoined (alone handed_back)
handed_back_joined = record {
  journals = refl;
  lawful = handed_back_lawful;
  links = record { deliveries = handed_back_deliveries; collections = handed_back_collections; gates = open_gates handed_back (λ sender. refl); as_sent = handed_back_as_sent };
}

-- all three are joined and sound
pub parking_is_sound : ParkingIsSound
parking_is_sound = record {
  later = record { joined = woken_later_joined; sound = joining_is_sound (alone woken_later) woken_later_joined };
  early = record { joined = woken_early_joined; sound = joining_is_sound (alone woken_early) woken_early_joined };
  returned = record { joined = handed_back_joined; sound = joining_is_sound (alone handed_back) handed_back_joined };
}
