-- A core that creates a queue on command and runs a job in it is lawful, its links agree, and so it is sound: the law of joining is about something.
use Rattle.base_words.proofs.Words.{accepted_orders, arith, Assembly, Bool, collected_outcomes, delivered_names, DeliversAsSent, EachNote, false, final_count, given_outcomes, has_work, inl, inr, IsLawful, IsPrefix, IsRightPick, IsSound}
use Rattle.base_words.proofs.Words.{JobId, Journal, journal_of, KeyAtMost, LinksAgree, map, refl, Some, suc, sym, terms_of, true, true≢false, virtual_runtime, zero, ℕ, [], ◌<◌, ◌==◌, ◌∙◌, ◌∷◌, ◌≡◌, ◌≤◌}
use Rattle.std.proofs.Common.{eqb-true}
use Rattle.std.specs.Prelude.{length}
use Rattle.base_words.specs.declared.note.Note.TheVariants.{Sent, Answered, Created, Took, Pick, Start, Yield, Resume, Done}
use Rattle.base_words.specs.declared.order.Answer.TheVariants as answers
use Rattle.base_words.specs.declared.order.Order.TheVariants.{Job, Create}
use Rattle.base_words.proofs.Joining.{joining_is_sound}

-- the first that the outside actor sends to core 0
abbrev command : JobId
command = record { from = 1; to = 0; number = 1 }

-- the second
abbrev job : JobId
job = record { from = 1; to = 0; number = 2 }

-- the outside actor sends a creation, and a job for the queue that it creates
abbrev outside : Journal ℕ
outside = Sent job (Job 1 tt) ∷ Sent command (Create 500) ∷ []

-- queue 1 was created, and the job waits in it
abbrev waiting : Journal ℕ
waiting = Took job 1 ∷ Created 1 500 ∷ Answered command (answers.Created 1) ∷ []

-- one poll of 30 ns costs 60 under 500 shares
abbrev yielded : Journal ℕ
yielded = Yield job 30 ∷ Start job ∷ Pick 1 0 ∷ waiting

-- the second poll ends the job
abbrev whole : Journal ℕ
whole = Done job 30 7 ∷ Resume job ∷ Pick 1 60 ∷ yielded

-- queue 1 alone has work
first_pick : IsRightPick 1 1 0 waiting
first_pick = record { at = refl; eligible = record { work = refl; nobody_out = refl; no_turn = refl }; least = λ other ready. by_test other (other == 1) refl ready.work }
  where
    by_test : (other : ℕ) (test : Bool) → (other == 1) ≡ test → has_work other waiting ≡ true → KeyAtMost 0 1 (virtual_runtime 1 other waiting) other
    by_test other true same work = rw (eqb-true other 1 same) (inr (refl, omega arith))
    by_test other false same work = let none : has_work other waiting ≡ false = rw same in absurd (true≢false (sym work ∙ none))

-- it still does, 60 further on
second_pick : IsRightPick 1 1 60 yielded
second_pick = record { at = refl; eligible = record { work = refl; nobody_out = refl; no_turn = refl }; least = λ other ready. by_test other (other == 1) refl ready.work }
  where
    by_test : (other : ℕ) (test : Bool) → (other == 1) ≡ test → has_work other yielded ≡ true → KeyAtMost 60 1 (virtual_runtime 1 other yielded) other
    by_test other true same work = rw (eqb-true other 1 same) (inr (refl, omega arith))
    by_test other false same work = let none : has_work other yielded ≡ false = rw same in absurd (true≢false (sym work ∙ none))

-- the names are the next of their link
outside_lawful : IsLawful (record { actor = 1; cores = 1; cap = 4; burst = 1 }) outside
outside_lawful = record {
  notes = (
    record { may_follow = record { sender = refl; receiver = omega arith; next = refl; in_range = omega arith; credit = omega arith; spelled = omega arith }; turn = refl; effect = tt; writer = tt },
    (record { may_follow = record { sender = refl; receiver = omega arith; next = refl; in_range = omega arith; credit = omega arith; spelled = record { positive = omega arith; bounded = omega arith } }; turn = refl; effect = tt; writer = tt }, tt),
  );
  no_pick = refl;
  no_answer = refl;
  nobody_out = refl;
  no_turn = refl;
}

-- each note may stand where it stands
core_lawful : IsLawful (record { actor = 0; cores = 1; cap = 4; burst = 1 }) whole
core_lawful = record {
  notes = (
    record { may_follow = refl; turn = refl; effect = tt; writer = omega arith },
    (
      record { may_follow = (1, record { due = inl refl; others = []; first = refl }, refl, refl); turn = refl; effect = tt; writer = omega arith },
      (
        record { may_follow = record { right = second_pick; turn_left = omega arith }; turn = refl; effect = tt; writer = omega arith },
        (
          record { may_follow = refl; turn = refl; effect = tt; writer = omega arith },
          (
            record { may_follow = (1, record { due = inl refl; others = []; first = refl }, refl, refl); turn = refl; effect = tt; writer = omega arith },
            (
              record { may_follow = record { right = first_pick; turn_left = omega arith }; turn = refl; effect = tt; writer = omega arith },
              (
                record { may_follow = (record { sender = omega arith; receiver = refl; next = refl; in_range = omega arith; gate = tt }, refl); turn = refl; effect = tt; writer = omega arith },
                (
                  record { may_follow = record { next = refl; in_range = omega arith; shares = record { positive = omega arith; bounded = omega arith } }; turn = refl; effect = refl; writer = omega arith },
                  (
                    record { may_follow = (record { sender = omega arith; receiver = refl; next = refl; in_range = omega arith; gate = tt }, (Create 500, inr refl)); turn = refl; effect = tt; writer = omega arith },
                    tt,
                  ),
                ),
              ),
            ),
          ),
        ),
      ),
    ),
  );
  no_pick = refl;
  no_answer = refl;
  nobody_out = refl;
  no_turn = refl;
}

-- one core and the outside actor
abbrev assembly : Assembly ℕ
assembly = record { cores = 1; cap = 4; burst = 1; journals = whole ∷ outside ∷ [] }

-- both journals are lawful
lawful : (actor : ℕ) → actor ≤ 1 → IsLawful (terms_of actor assembly) (journal_of actor assembly)
lawful zero within = core_lawful
lawful (suc zero) within = outside_lawful
lawful (suc (suc actor)) within = absurd (omega arith)

-- all that was sent was delivered, and nothing was collected
agree : LinksAgree assembly
agree = record { deliveries = deliveries; collections = collections; gates = gates; as_sent = as_sent }
  where
    deliveries : (sender core : ℕ) → sender ≤ 1 → core < 1 →
        IsPrefix (delivered_names sender (journal_of core assembly)) (map (λ sent. sent.0) (accepted_orders core (journal_of sender assembly)))
    deliveries zero zero s c = ([], refl)
    deliveries (suc zero) zero s c = ([], refl)
    deliveries (suc (suc sender)) zero s c = absurd (omega arith)
    deliveries sender (suc core) s c = absurd (omega arith)

    collections : (sender core : ℕ) → sender ≤ 1 → core < 1 →
        IsPrefix (collected_outcomes core (journal_of sender assembly)) (given_outcomes sender (journal_of core assembly))
    collections zero zero s c = ([], refl)
    collections (suc zero) zero s c = (given_outcomes 1 whole, refl)
    collections (suc (suc sender)) zero s c = absurd (omega arith)
    collections sender (suc core) s c = absurd (omega arith)

    gates : (sender core : ℕ) → sender ≤ 1 → core < 1 → (count : ℕ) → final_count sender (journal_of core assembly) ≡ Some count →
        count ≡ length (accepted_orders core (journal_of sender assembly))
    gates sender zero s c count shut = cc
    gates sender (suc core) s c count shut = absurd (omega arith)

    as_sent : (actor : ℕ) → actor ≤ 1 → EachNote (DeliversAsSent assembly) (journal_of actor assembly)
    as_sent zero within = (tt, (tt, (tt, (tt, (tt, (tt, (refl, ((λ effect. (Create 500, refl, refl)), ((Create 500, refl, inr refl), tt)))))))))
    as_sent (suc zero) within = (tt, (tt, tt))
    as_sent (suc (suc actor)) within = absurd (omega arith)

-- so they are sound together
sound : IsSound assembly
sound = joining_is_sound assembly (record { journals = refl; lawful = lawful; links = agree })
