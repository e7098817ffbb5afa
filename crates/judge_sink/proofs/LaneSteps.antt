-- What a lane knows after a note on one of its submissions.
use Rattle.actor_desk.proofs.Names.{List, None, Option, Some, [], ap, arith, count_by, eqb_tells, false, inl, inr, is_some, length, length-append, refl, subst, sym, true, ℕ, ◌+◌, ◌++◌, ◌<◌, ◌∙◌, ◌∷◌, ◌≡◌, ◌≢◌, ◌≤◌}
use Rattle.actor_desk.proofs.Names.{JobId, Order, at, count_of, name_of, numbered_orders, without_job}
use Rattle.actor_desk.proofs.NumberedOrders.{counted, counted-less, counted-more, counted-same, numbered-append}
use Rattle.base_words.specs.Filters.{Orders}
use Rattle.base_words.specs.declared.order.Order.TheVariants.{Job}
use Rattle.judge_sink.specs.declared.table.Known.{Known}
use Rattle.judge_sink.specs.declared.table.Known.TheVariants as known
use Rattle.judge_sink.specs.declared.table.Lane.{Lane}
use Rattle.judge_sink.specs.Lanes.{IsInStep, Puts, Sends}
use Rattle.judge_sink.specs.Tables.{Facts, KnowsLane, Tells, is_open}
use Rattle.judge_sink.proofs.Facts.{open_entry}
use Rattle.std.proofs.lemmas.Bool.{true≢false}
use Rattle.std.proofs.lemmas.Bool.Decides.{leb_tells}

-- an order of a note has no job
pub plain : (order : Order (Unit {0})) → without_job order ≡ order
plain (Job queue task) = refl
plain order = refl

module _ (core to cap : ℕ) (old : Lane) (accepted : Orders) (told : ℕ → Facts) (knows : KnowsLane core to cap old accepted told) where
  -- a number that has an entry was sent
  unsent_none : (number : ℕ) → is_some (at old.known.entries number) ≡ true → told number ≡ record { order = None; outcome = None; redeemed = false; detached = false } → ⊥
  unsent_none number there none = true≢false (sym there ∙ sym (open_entry (at old.known.entries number) (told number) (knows.tells number)) ∙ ap is_open none)

  lane_above : (number : ℕ) → is_some (at old.known.entries number) ≡ true → number ≤ old.sent
  lane_above number there = elim (leb_tells number old.sent) [
    | inl high ↦ high.1
    | inr past ↦ absurd (unsent_none number there (knows.unsent number (λ low. past.1)))
  ]

  lane_low : (number : ℕ) → is_some (at old.known.entries number) ≡ true → 0 < number
  lane_low number there = elim (leb_tells number 0) [
    | inl none ↦ absurd (unsent_none number there (knows.unsent number (λ low. omega (arith, low, none.1))))
    | inr low ↦ low.1
  ]

  pub lane_in_step : IsInStep cap old
  lane_in_step = record { above = lane_above; room = knows.room; out = knows.out }

  -- how many of the orders have an entry
  filled : (entries : List (ℕ × Known)) → count_by (λ sent. is_some (at entries sent.0.number)) accepted ≡ counted core to (λ name. is_some (at entries name.number)) 0 knows.orders
  filled entries = ap (count_by (λ sent. is_some (at entries sent.0.number))) knows.numbered

  -- of the others as many are filled where the same have entries
  filled_same : (entries : List (ℕ × Known)) → ((n : ℕ) → n ≤ length knows.orders → is_some (at entries n) ≡ is_some (at old.known.entries n)) →
      count_by (λ sent. is_some (at entries sent.0.number)) accepted ≡ count_by (λ sent. is_some (at old.known.entries sent.0.number)) accepted
  filled_same entries same =
      filled entries
      ∙ counted-same core to (λ name. is_some (at entries name.number)) (λ name. is_some (at old.known.entries name.number)) 0 knows.orders (λ n low high. same n (omega (arith, high)))
      ∙ sym (filled old.known.entries)

  module _ (number : ℕ) (new : Lane) (now : ℕ → Facts) (others : (n : ℕ) → n ≢ number → now n ≡ told n) where
    tells_all : ((n : ℕ) → n ≢ number → at new.known.entries n ≡ at old.known.entries n) → Tells (at new.known.entries number) (now number) → (n : ℕ) → Tells (at new.known.entries n) (now n)
    tells_all same here n = elim (eqb_tells n number) [
      | inl is ↦ subst (λ n. Tells (at new.known.entries n) (now n)) (sym is.1) here
      | inr away ↦ subst (λ facts. Tells (at new.known.entries n) facts) (sym (others n away.1)) (subst (λ entry. Tells entry (told n)) (sym (same n away.1)) (knows.tells n))
    ]

    -- a submission that had an entry has another, or none
    changed : is_some (at old.known.entries number) ≡ true → new.known.room ≡ old.known.room → new.sent ≡ old.sent →
        ((n : ℕ) → n ≢ number → at new.known.entries n ≡ at old.known.entries n) → Tells (at new.known.entries number) (now number) → new.out ≡ count_of new.known.entries →
        count_of new.known.entries ≡ count_by (λ sent. is_some (at new.known.entries sent.0.number)) accepted → KnowsLane core to cap new accepted now
    changed was room sent same here out count = record {
      room = room ∙ knows.room;
      orders = knows.orders;
      numbered = knows.numbered;
      sent = sent ∙ knows.sent;
      tells = tells_all same here;
      unsent = λ n past. others n (λ is. omega (arith, is, past (omega (arith, is, lane_low number was)), sent, lane_above number was)) ∙ knows.unsent n (λ low. omega (arith, sent, past low));
      out = out;
      count = count;
    }

    pub lane_puts : (was : Known) (after : Option Known) → Puts number was after old new → Tells after (now number) → KnowsLane core to cap new accepted now
    lane_puts was (Some is) puts tells =
        let becomes = puts.replaces.0 in
        let as_many = filled_same new.known.entries (λ n high. elim (eqb_tells n number) [
          | inl here ↦ ap (λ n. is_some (at new.known.entries n)) here.1 ∙ ap is_some becomes.here ∙ sym (ap is_some becomes.was) ∙ sym (ap (λ n. is_some (at old.known.entries n)) here.1)
          | inr away ↦ ap is_some (becomes.others n away.1)
        ]) in
        changed (ap is_some becomes.was) puts.room puts.sent becomes.others (subst (λ entry. Tells entry (now number)) (sym becomes.here) tells)
        (omega (arith, becomes.tallies (λ value. true), puts.replaces.1, knows.out)) (omega (arith, as_many, becomes.tallies (λ value. true), knows.count))
    lane_puts was None puts tells =
        let removes = puts.replaces.0 in
        let there = ap is_some removes.was in
        let fewer = counted-less core to (λ name. is_some (at old.known.entries name.number)) (λ name. is_some (at new.known.entries name.number)) 0 knows.orders number
        (lane_low number there) (omega (arith, lane_above number there, knows.sent)) there (ap is_some removes.gone) (λ n away low high. sym (ap is_some (removes.others n away))) in
        changed there puts.room puts.sent removes.others (subst (λ entry. Tells entry (now number)) (sym removes.gone) tells)
        (omega (arith, removes.tallies (λ value. true), puts.replaces.1, knows.out))
        (omega (arith, fewer, filled new.known.entries, filled old.known.entries, removes.tallies (λ value. true), knows.count))

    -- one more was sent
    pub lane_adds : (order : Order (Unit {0})) → Sends cap number order old new → now number ≡ record { order = Some order; outcome = None; redeemed = false; detached = false } →
        KnowsLane core to cap new (accepted ++ (name_of core to number, order) ∷ []) now
    lane_adds order sends tells =
        let as_many = filled_same new.known.entries (λ n high. ap is_some (sends.adds.others n (λ is. omega (arith, is, high, sends.next, knows.sent)))) in
        let more = counted-more (λ (sent : JobId × Order (Unit {0})). is_some (at new.known.entries sent.0.number)) accepted (name_of core to number, order) (ap is_some sends.adds.here) in
        let next : number ≡ 0 + length knows.orders + 1 = omega (arith, sends.next, knows.sent) in
        record {
          room = sends.room ∙ knows.room;
          orders = knows.orders ++ order ∷ [];
          numbered =
              ap (λ orders. orders ++ (name_of core to number, order) ∷ []) knows.numbered
              ∙ (λ i. numbered_orders core to 0 knows.orders ++ (name_of core to (next i), sym (plain order) i) ∷ [])
              ∙ sym (numbered-append core to 0 knows.orders order);
          sent = omega (arith, sends.sent, next, length-append knows.orders (order ∷ []));
          tells = tells_all sends.adds.others (subst (λ entry. Tells entry (now number)) (sym sends.adds.here) tells);
          unsent = λ n past. others n (λ is. omega (arith, is, past (omega (arith, is, sends.next)), sends.sent)) ∙ knows.unsent n (λ low. omega (arith, sends.sent, sends.next, past low));
          out = omega (arith, sends.out, knows.out, sends.adds.tallies (λ value. true));
          count = omega (arith, as_many, more, sends.adds.tallies (λ value. true), knows.count);
        }
