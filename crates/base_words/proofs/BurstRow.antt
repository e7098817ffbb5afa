-- Cores whose turns have several polls are lawful and sound: two queues whose turns have two polls each, and a job that is done in one turn of three polls.
use Rattle.base_words.proofs.Words.{accepted_orders, arith, Assembly, Bool, collected_outcomes, delivered_names, DeliversAsSent, EachNote, false, final_count, floor, given_outcomes, has_bursts, has_work, inl, inr, IsLawful, IsPrefix}
use Rattle.base_words.proofs.Words.{IsRightPick, IsSound, JobId, jobs_out, Journal, journal_of, KeyAtMost, names_of, None, queue_in_turn, refl, Some, suc, sym, Terms, terms_of, true, true≢false, virtual_runtime, zero, ℕ, [], ◌<◌, ◌==◌, ◌∙◌}
use Rattle.base_words.proofs.Words.{◌∷◌, ◌≡◌, ◌≤◌, ◌⊎◌}
use Rattle.std.proofs.Common.{eqb-true}
use Rattle.std.specs.Prelude.{length}
use Rattle.base_words.specs.declared.note.Note.TheVariants.{Sent, Created, Took, Pick, Start, Yield, Resume, Done, Turned}
use Rattle.base_words.specs.declared.order.Order.TheVariants.{Job}
use Rattle.base_words.proofs.Joining.{joining_is_sound}
use Rattle.base_words.proofs.OpenTurns.{none_either}
use Rattle.base_words.proofs.Both.{◌&◌}

-- the core sends to itself
abbrev job : ℕ → JobId
job number = record { from = 0; to = 0; number = number }

-- of two queues at most, the next one is picked
two_queues : (burst queue runtime : ℕ) (before : Journal ℕ) → runtime ≡ virtual_runtime burst queue before → has_work queue before ≡ true →
    jobs_out before ≡ [] → queue_in_turn burst before ≡ None →
    (has_work 0 before ≡ false) ⊎ KeyAtMost runtime queue (virtual_runtime burst 0 before) 0 →
    (has_work 1 before ≡ false) ⊎ KeyAtMost runtime queue (virtual_runtime burst 1 before) 1 →
    ((other : ℕ) → (other == 0) ≡ false → (other == 1) ≡ false → has_work other before ≡ false) → IsRightPick burst queue runtime before
two_queues burst queue runtime before at work nobody closed first second idle = record {
  at = at;
  eligible = record { work = work; nobody_out = nobody; no_turn = closed };
  least = λ other ready. by_first other (other == 0) refl ready.work;
}
  where
    known : (other : ℕ) → (has_work other before ≡ false) ⊎ KeyAtMost runtime queue (virtual_runtime burst other before) other → has_work other before ≡ true →
        KeyAtMost runtime queue (virtual_runtime burst other before) other
    known other (inl none) work = absurd (true≢false (sym work ∙ none))
    known other (inr least) work = least

    by_second : (other : ℕ) → (other == 0) ≡ false → (test : Bool) → (other == 1) ≡ test → has_work other before ≡ true → KeyAtMost runtime queue (virtual_runtime burst other before) other
    by_second other apart true same work = rw (eqb-true other 1 same) (known 1 second (rw (eqb-true other 1 same) at work))
    by_second other apart false same work = absurd (true≢false (sym work ∙ idle other apart same))

    by_first : (other : ℕ) (test : Bool) → (other == 0) ≡ test → has_work other before ≡ true → KeyAtMost runtime queue (virtual_runtime burst other before) other
    by_first other true same work = rw (eqb-true other 0 same) (known 0 first (rw (eqb-true other 0 same) at work))
    by_first other false same work = by_second other same (other == 1) refl work

-- a job for each of two queues, of 1000 and 500 shares
abbrev taken : Journal ℕ
taken = Took (job 2) 1 ∷ Took (job 1) 0 ∷ Sent (job 2) (Job 1 tt) ∷ Sent (job 1) (Job 0 tt) ∷ Created 1 500 ∷ []

-- two polls of 30 ns in the first turn
abbrev first_turn : Journal ℕ
first_turn = Turned 0 60 ∷ Yield (job 1) 30 ∷ Resume (job 1) ∷ Yield (job 1) 30 ∷ Start (job 1) ∷ Pick 0 0 ∷ taken

abbrev second_turn : Journal ℕ
second_turn = Turned 1 60 ∷ Yield (job 2) 30 ∷ Resume (job 2) ∷ Yield (job 2) 30 ∷ Start (job 2) ∷ Pick 1 0 ∷ first_turn

-- the last poll of each job is a turn of its own
abbrev third_turn : Journal ℕ
third_turn = Turned 0 30 ∷ Done (job 1) 30 0 ∷ Resume (job 1) ∷ Pick 0 60 ∷ second_turn

abbrev fourth_turn : Journal ℕ
fourth_turn = Turned 1 30 ∷ Done (job 2) 30 0 ∷ Resume (job 2) ∷ Pick 1 120 ∷ third_turn

-- at the end the virtual runtimes are 90 and 180, and the floor is 120
fourth_turn-end : (virtual_runtime 2 0 fourth_turn ≡ 90) × (virtual_runtime 2 1 fourth_turn ≡ 180) × (floor fourth_turn ≡ 120)
fourth_turn-end = (refl, refl, refl)

-- a turn of three polls, the second of no time, costs its queue of 3 shares 1000
abbrev small_queue : Journal ℕ
small_queue = Took (job 1) 1 ∷ Sent (job 1) (Job 1 tt) ∷ Created 1 3 ∷ []

abbrev one_turn : Journal ℕ
one_turn =
    Turned 1 3 ∷ Done (job 1) 1 0 ∷ Resume (job 1) ∷ Yield (job 1) 0 ∷ Resume (job 1) ∷ Yield (job 1) 1 ∷ Start (job 1) ∷ Pick 1 0 ∷ small_queue

one_turn-end : (virtual_runtime 64 1 one_turn ≡ 1000) × (floor one_turn ≡ 0)
one_turn-end = (refl, refl)

-- the terms of a core that is alone
abbrev alone : ℕ → Terms
alone burst = record { actor = 0; cores = 1; cap = 4; burst = burst }

first_pick : IsRightPick 2 0 0 taken
first_pick = two_queues 2 0 0 taken refl refl refl refl (inr (inr (refl, omega arith))) (inr (inr (refl, omega arith))) (λ other zero one. rw (zero, one))

second_pick : IsRightPick 2 1 0 first_turn
second_pick = two_queues 2 1 0 first_turn refl refl refl refl (inr (inl (omega arith))) (inr (inr (refl, omega arith))) (λ other zero one. rw (zero, one))

third_pick : IsRightPick 2 0 60 second_turn
third_pick = two_queues 2 0 60 second_turn refl refl refl refl (inr (inr (refl, omega arith))) (inr (inl (omega arith))) (λ other zero one. rw (zero, one))

fourth_pick : IsRightPick 2 1 120 third_turn
fourth_pick = two_queues 2 1 120 third_turn refl refl refl refl (inl refl) (inr (inr (refl, omega arith))) (λ other zero one. rw (zero, one))

only_pick : IsRightPick 64 1 0 small_queue
only_pick = two_queues 64 1 0 small_queue refl refl refl refl (inl refl) (inr (inr (refl, omega arith))) (λ other zero one. rw one)

-- each note may stand where it stands
two_queues_lawful : IsLawful (alone 2) fourth_turn
two_queues_lawful = record {
  notes =
      record { may_follow = record { in_turn = refl; nobody_out = refl; its_time = refl; over = refl }; turn = refl; effect = tt; writer = omega arith }
      & record { may_follow = refl; turn = refl; effect = tt; writer = omega arith }
      & record { may_follow = (1, record { due = inl refl; others = []; first = refl }, refl, refl); turn = refl; effect = tt; writer = omega arith }
      & record { may_follow = record { right = fourth_pick; turn_left = omega arith }; turn = refl; effect = tt; writer = omega arith }
      & record { may_follow = record { in_turn = refl; nobody_out = refl; its_time = refl; over = refl }; turn = refl; effect = tt; writer = omega arith }
      & record { may_follow = refl; turn = refl; effect = tt; writer = omega arith }
      & record { may_follow = (0, record { due = inl refl; others = []; first = refl }, refl, refl); turn = refl; effect = tt; writer = omega arith }
      & record { may_follow = record { right = third_pick; turn_left = omega arith }; turn = refl; effect = tt; writer = omega arith }
      & record { may_follow = record { in_turn = refl; nobody_out = refl; its_time = refl; over = refl }; turn = refl; effect = tt; writer = omega arith }
      & record { may_follow = refl; turn = refl; effect = tt; writer = omega arith }
      & record { may_follow = (1, record { due = inr (record { in_turn = refl; nobody_out = refl; poll_left = omega arith }); others = []; first = refl }, refl, refl); turn = refl; effect = tt; writer = omega arith }
      & record { may_follow = refl; turn = refl; effect = tt; writer = omega arith }
      & record { may_follow = (1, record { due = inl refl; others = []; first = refl }, refl, refl); turn = refl; effect = tt; writer = omega arith }
      & record { may_follow = record { right = second_pick; turn_left = omega arith }; turn = refl; effect = tt; writer = omega arith }
      & record { may_follow = record { in_turn = refl; nobody_out = refl; its_time = refl; over = refl }; turn = refl; effect = tt; writer = omega arith }
      & record { may_follow = refl; turn = refl; effect = tt; writer = omega arith }
      & record { may_follow = (0, record { due = inr (record { in_turn = refl; nobody_out = refl; poll_left = omega arith }); others = []; first = refl }, refl, refl); turn = refl; effect = tt; writer = omega arith }
      & record { may_follow = refl; turn = refl; effect = tt; writer = omega arith }
      & record { may_follow = (0, record { due = inl refl; others = []; first = refl }, refl, refl); turn = refl; effect = tt; writer = omega arith }
      & record { may_follow = record { right = first_pick; turn_left = omega arith }; turn = refl; effect = tt; writer = omega arith }
      & record { may_follow = (record { sender = omega arith; receiver = refl; next = refl; in_range = omega arith; gate = tt }, refl); turn = refl; effect = tt; writer = omega arith }
      & record { may_follow = (record { sender = omega arith; receiver = refl; next = refl; in_range = omega arith; gate = tt }, refl); turn = refl; effect = tt; writer = omega arith }
      & record { may_follow = record { sender = refl; receiver = omega arith; next = refl; in_range = omega arith; credit = omega arith; spelled = omega arith }; turn = refl; effect = tt; writer = tt }
      & record { may_follow = record { sender = refl; receiver = omega arith; next = refl; in_range = omega arith; credit = omega arith; spelled = omega arith }; turn = refl; effect = tt; writer = tt }
      & record { may_follow = record { next = refl; in_range = omega arith; shares = record { positive = omega arith; bounded = omega arith } }; turn = refl; effect = tt; writer = omega arith }
      & tt;
  no_pick = refl;
  no_answer = refl;
  nobody_out = refl;
  no_turn = refl;
}

one_turn_lawful : IsLawful (alone 64) one_turn
one_turn_lawful = record {
  notes =
      record { may_follow = record { in_turn = refl; nobody_out = refl; its_time = refl; over = refl }; turn = refl; effect = tt; writer = omega arith }
      & record { may_follow = refl; turn = refl; effect = tt; writer = omega arith }
      & record { may_follow = (1, record { due = inr (record { in_turn = refl; nobody_out = refl; poll_left = omega arith }); others = []; first = refl }, refl, refl); turn = refl; effect = tt; writer = omega arith }
      & record { may_follow = refl; turn = refl; effect = tt; writer = omega arith }
      & record { may_follow = (1, record { due = inr (record { in_turn = refl; nobody_out = refl; poll_left = omega arith }); others = []; first = refl }, refl, refl); turn = refl; effect = tt; writer = omega arith }
      & record { may_follow = refl; turn = refl; effect = tt; writer = omega arith }
      & record { may_follow = (1, record { due = inl refl; others = []; first = refl }, refl, refl); turn = refl; effect = tt; writer = omega arith }
      & record { may_follow = record { right = only_pick; turn_left = omega arith }; turn = refl; effect = tt; writer = omega arith }
      & record { may_follow = (record { sender = omega arith; receiver = refl; next = refl; in_range = omega arith; gate = tt }, refl); turn = refl; effect = tt; writer = omega arith }
      & record { may_follow = record { sender = refl; receiver = omega arith; next = refl; in_range = omega arith; credit = omega arith; spelled = omega arith }; turn = refl; effect = tt; writer = tt }
      & record { may_follow = record { next = refl; in_range = omega arith; shares = record { positive = omega arith; bounded = omega arith } }; turn = refl; effect = tt; writer = omega arith }
      & tt;
  no_pick = refl;
  no_answer = refl;
  nobody_out = refl;
  no_turn = refl;
}

-- such a core and an outside actor that does nothing
abbrev assembly : ℕ → Journal ℕ → Assembly ℕ
assembly burst core = record { cores = 1; cap = 4; burst = burst; journals = core ∷ [] ∷ [] }

-- they are joined where the core's journal is lawful, what it took is what it sent, and it collected nothing and shut no gate
joined_sound : (burst : ℕ) (core : Journal ℕ) → IsLawful (alone burst) core →
    IsPrefix (delivered_names 0 core) (names_of (accepted_orders 0 core)) → delivered_names 1 core ≡ [] → collected_outcomes 0 core ≡ [] →
    ((sender : ℕ) → final_count sender core ≡ None) → EachNote (DeliversAsSent (assembly burst core)) core → IsSound (assembly burst core)
joined_sound burst core lawful delivered nothing uncollected not_shut sent =
    joining_is_sound (assembly burst core)
    (
    record {
      journals = refl;
      lawful = each_lawful;
      links = record { deliveries = deliveries; collections = collections; gates = gates; as_sent = as_sent };
    }
    )
  where
    each_lawful : (actor : ℕ) → actor ≤ 1 → IsLawful (terms_of actor (assembly burst core)) (journal_of actor (assembly burst core))
    each_lawful zero within = lawful
    each_lawful (suc zero) within = record { notes = tt; no_pick = refl; no_answer = refl; nobody_out = refl; no_turn = none_either (has_bursts burst) }
    each_lawful (suc (suc actor)) within = absurd (omega arith)

    deliveries : (sender to : ℕ) → sender ≤ 1 → to < 1 →
        IsPrefix (delivered_names sender (journal_of to (assembly burst core))) (names_of (accepted_orders to (journal_of sender (assembly burst core))))
    deliveries zero zero s c = delivered
    deliveries (suc zero) zero s c = rw nothing ([], refl)
    deliveries (suc (suc sender)) zero s c = absurd (omega arith)
    deliveries sender (suc to) s c = absurd (omega arith)

    collections : (sender to : ℕ) → sender ≤ 1 → to < 1 →
        IsPrefix (collected_outcomes to (journal_of sender (assembly burst core))) (given_outcomes sender (journal_of to (assembly burst core)))
    collections zero zero s c = rw uncollected (given_outcomes 0 core, refl)
    collections (suc zero) zero s c = (given_outcomes 1 core, refl)
    collections (suc (suc sender)) zero s c = absurd (omega arith)
    collections sender (suc to) s c = absurd (omega arith)

    gates : (sender to : ℕ) → sender ≤ 1 → to < 1 → (count : ℕ) → final_count sender (journal_of to (assembly burst core)) ≡ Some count →
        count ≡ length (accepted_orders to (journal_of sender (assembly burst core)))
    gates sender zero s c count shut = let none : None ≡ Some count = sym (not_shut sender) ∙ shut in cc
    gates sender (suc to) s c count shut = absurd (omega arith)

    as_sent : (actor : ℕ) → actor ≤ 1 → EachNote (DeliversAsSent (assembly burst core)) (journal_of actor (assembly burst core))
    as_sent zero within = sent
    as_sent (suc zero) within = tt
    as_sent (suc (suc actor)) within = absurd (omega arith)

-- so both are sound
two_queues_sound : IsSound (assembly 2 fourth_turn)
two_queues_sound =
    joined_sound 2 fourth_turn two_queues_lawful ([], refl) refl refl (λ sender. refl)
    (tt, (tt, (tt, (tt, (tt, (tt, (tt, (tt, (tt, (tt, (tt, (tt, (tt, (tt, (tt, (tt, (tt, (tt, (tt, (tt, (refl, (refl, (tt, (tt, (tt, tt)))))))))))))))))))))))))

one_turn_sound : IsSound (assembly 64 one_turn)
one_turn_sound =
    joined_sound 64 one_turn one_turn_lawful ([], refl) refl refl (λ sender. refl)
    (tt, (tt, (tt, (tt, (tt, (tt, (tt, (tt, (refl, (tt, (tt, tt)))))))))))
