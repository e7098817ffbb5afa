-- What a table knows after one more note.
use Rattle.actor_desk.proofs.Names.{None, Option, Some, ap, arith, changed, cond, count_by, eq-eqb, eqb_tells, false, inl, inr, is_some, length, ne_eqb, refl, same_as_itself, set, slice_get, slice_get_within, subst, sym, true, unchanged, with_last}
use Rattle.actor_desk.proofs.Names.{JobId, Journal, Note, Order, Terms, accepted_orders, at, count_of, first_under, is_name, is_outstanding, name_of, numbered_orders, outstanding_count, without_job}
use Rattle.actor_desk.proofs.Names.{ℕ, ◌+◌, ◌-◌, ◌<◌, ◌∙◌, ◌∷◌, ◌≡◌, ◌≢◌, ◌≤◌}
use Rattle.actor_desk.proofs.NumberedOrders.{counted-same, first_under-numbered, length-numbered, order_at, other_name}
use Rattle.base_words.specs.declared.note.Note.TheVariants.{Sent, Collected, Redeemed, Detached}
use Rattle.base_words.specs.Journal.{or_else}
use Rattle.judge_sink.specs.declared.table.Known.{Known}
use Rattle.judge_sink.specs.declared.table.Known.TheVariants as known
use Rattle.judge_sink.specs.declared.table.Lane.{Lane}
use Rattle.judge_sink.specs.declared.table.Table.{Table}
use Rattle.judge_sink.specs.Lanes.{Keeps, Puts, Sends, Turns}
use Rattle.judge_sink.specs.Tables.{FollowsSent, KnowsLane, KnowsTable, Tells, facts, submission}
use Rattle.judge_sink.proofs.Facts.{facts_next, facts_same, goes, open_entry, outstanding_open}
use Rattle.judge_sink.proofs.LaneSteps.{lane_adds, lane_puts}
use Rattle.std.proofs.lemmas.List.{length-set}

-- what a note tells of a lane to which it tells of no submission
lane_same : (core to cap : ℕ) (lane : Lane) (note : Note ℕ) (before : Journal ℕ) → ((name : JobId) → submission note ≡ Some name → name.to ≢ to) →
    KnowsLane core to cap lane (accepted_orders to before) (λ number. facts (name_of core to number) before) →
    KnowsLane core to cap lane (accepted_orders to (note ∷ before)) (λ number. facts (name_of core to number) (note ∷ before))
lane_same core to cap lane note before away knows =
    subst (λ orders. KnowsLane core to cap lane orders (λ number. facts (name_of core to number) (note ∷ before))) (sym (orders_same note away))
    (subst (λ told. KnowsLane core to cap lane (accepted_orders to before) told) (λ i number. sym (facts_same (name_of core to number) note before (apart number (submission note) away)) i) knows)
  where
    orders_same : (note : Note ℕ) → ((name : JobId) → submission note ≡ Some name → name.to ≢ to) → accepted_orders to (note ∷ before) ≡ accepted_orders to before
    orders_same (Sent name order) away = ap (λ test. with_last (accepted_orders to before) (cond test (Some (name, order)) None)) (ne_eqb name.to to (away name refl))
    orders_same note away = refl

    apart : (number : ℕ) (told : Option JobId) → ((name : JobId) → told ≡ Some name → name.to ≢ to) → is_name (name_of core to number) told ≡ false
    apart number None away = refl
    apart number (Some name) away = other_name (name_of core to number) name (λ same. away name refl (sym (ap (λ id. id.to) same)))

module _ (terms : Terms) (name : JobId) (lane new : Lane) (before : Journal ℕ) (knows : KnowsLane name.from name.to terms.cap lane (accepted_orders name.to before) (λ number. facts (name_of name.from name.to number) before)) where
  -- each order that was sent stands under its name
  sent_order : (n : ℕ) → 0 < n → n ≤ length knows.orders → is_some (first_under (name_of name.from name.to n) (accepted_orders name.to before)) ≡ true
  sent_order n low high =
      let found = order_at knows.orders n low high in
      let place : 0 + (n - 1) + 1 ≡ n = omega (arith, low) in
      ap (λ orders. is_some (first_under (name_of name.from name.to n) orders)) knows.numbered
      ∙ ap is_some (subst (λ at. first_under (name_of name.from name.to at) (numbered_orders name.from name.to 0 knows.orders) ≡ Some (without_job found.0)) place (first_under-numbered name.from name.to 0 knows.orders (n - 1) found.0 found.1))

  -- as many entries are there as submissions are outstanding
  as_many : count_of lane.known.entries ≡ outstanding_count name.to before
  as_many =
      knows.count
      ∙ ap (count_by (λ sent. is_some (at lane.known.entries sent.0.number))) knows.numbered
      ∙ counted-same name.from name.to (λ id. is_some (at lane.known.entries id.number)) (λ id. is_outstanding id before) 0 knows.orders
      (λ n low high. sym (open_entry (at lane.known.entries n) (facts (name_of name.from name.to n) before) (knows.tells n)) ∙ sym (outstanding_open (name_of name.from name.to n) before (sent_order n low (omega (arith, high)))))
      ∙ sym (ap (count_by (λ sent. is_outstanding sent.0 before)) knows.numbered)

  -- what a note tells of its own submission, and of the others to the core
  its : (note : Note ℕ) → submission note ≡ Some name → (n : ℕ) → n ≢ name.number → facts (name_of name.from name.to n) (note ∷ before) ≡ facts (name_of name.from name.to n) before
  its note is n away =
      facts_same (name_of name.from name.to n) note before
      (ap (is_name (name_of name.from name.to n)) is ∙ other_name (name_of name.from name.to n) name (λ same. away (ap (λ id. id.number) same)))

  module _ (actor : name.from ≡ terms.actor) (there : name.to < terms.cores) where
    -- the note may follow, and the lane knows it
    abbrev Goes : Note ℕ → Type 0
    Goes note = FollowsSent terms note before × KnowsLane name.from name.to terms.cap new (accepted_orders name.to (note ∷ before)) (λ number. facts (name_of name.from name.to number) (note ∷ before))

    pub goes_sent : (order : Order (Unit {0})) → Sends terms.cap name.number order lane new → Goes (Sent name order)
    goes_sent order sends =
        let none = knows.unsent name.number (λ low. omega (arith, sends.next)) in
        let now : facts name (Sent name order ∷ before) ≡ record { order = Some order; outcome = None; redeemed = false; detached = false } =
        facts_next name (Sent name order) before ∙ (λ i. record (none i) { order = or_else (none i).order (cond (same_as_itself name i) (Some order) None) }) in
        let all : length (accepted_orders name.to before) ≡ lane.sent = ap length knows.numbered ∙ length-numbered name.from name.to 0 knows.orders ∙ sym knows.sent in (
          record { sender = actor; receiver = there; next = omega (arith, sends.next, all); in_range = sends.in_range; credit = omega (arith, sends.credit, as_many, knows.out); spelled = sends.spelled },
          subst (λ orders. KnowsLane name.from name.to terms.cap new orders (λ number. facts (name_of name.from name.to number) (Sent name order ∷ before)))
              (sym (ap (λ test. with_last (accepted_orders name.to before) (cond test (Some (name, order)) None)) (eq-eqb name.to name.to refl)))
              (lane_adds name.from name.to terms.cap lane (accepted_orders name.to before) (λ number. facts (name_of name.from name.to number) before) knows name.number new
              (λ number. facts (name_of name.from name.to number) (Sent name order ∷ before)) (its (Sent name order) refl) order sends now),
        )

    pub goes_put : (note : Note ℕ) → submission note ≡ Some name → (was : Known) → at lane.known.entries name.number ≡ Some was → (after : Option Known) → Turns was note after → Puts name.number was after lane new → Goes note
    goes_put note is was stands after turns puts =
        let gone = goes terms before was note after name is turns (subst (λ entry. Tells entry (facts name before)) stands (knows.tells name.number)) in (
          gone.0,
          subst (λ orders. KnowsLane name.from name.to terms.cap new orders (λ number. facts (name_of name.from name.to number) (note ∷ before))) (sym gone.2)
              (lane_puts name.from name.to terms.cap lane (accepted_orders name.to before) (λ number. facts (name_of name.from name.to number) before) knows name.number new
              (λ number. facts (name_of name.from name.to number) (note ∷ before)) (its note is) was after puts gone.1),
        )

module _ (terms : Terms) (lane new : Lane) (before : Journal ℕ) where
  -- a lane goes on with a note of its core
  abbrev Steps : Note ℕ → JobId → Type 0
  Steps note name =
      KnowsLane name.from name.to terms.cap lane (accepted_orders name.to before) (λ number. facts (name_of name.from name.to number) before) →
      name.from ≡ terms.actor → name.to < terms.cores → Keeps terms.cap name.number note lane new →
      FollowsSent terms note before × KnowsLane name.from name.to terms.cap new (accepted_orders name.to (note ∷ before)) (λ number. facts (name_of name.from name.to number) (note ∷ before))

  lane_steps : (note : Note ℕ) (name : JobId) → submission note ≡ Some name → Steps note name
  lane_steps (Sent own order) name is = subst (Steps (Sent own order)) (cc is) (λ knows actor there. goes_sent terms own lane new before knows actor there order)
  lane_steps note name is = λ knows actor there keeps. goes_put terms name lane new before knows actor there note is keeps.0 keeps.1 keeps.2.0 keeps.2.1 keeps.2.2

-- so the table goes on with it
pub table_steps : (terms : Terms) (old new : Table) (note : Note ℕ) (name : JobId) (lane later : Lane) (before : Journal ℕ) → KnowsTable terms old before → submission note ≡ Some name → name.from ≡ old.core →
    slice_get old.lanes.items name.to ≡ Some lane → new.core ≡ old.core → new.cap ≡ old.cap → new.lanes.items ≡ set old.lanes.items name.to later →
    Keeps old.cap name.number note lane later → FollowsSent terms note before × KnowsTable terms new (note ∷ before)
table_steps terms old new note name lane later before knows is from stands core cap_is lanes keeps =
    let actor : name.from ≡ terms.actor = from ∙ knows.core in
    let stepped = lane_steps terms lane later before note name is
    (subst (λ actor. KnowsLane actor name.to terms.cap lane (accepted_orders name.to before) (λ number. facts (name_of actor name.to number) before)) (sym actor) (knows.each name.to lane stands)) actor
    (omega (arith, slice_get_within old.lanes.items name.to lane stands, knows.cores)) (subst (λ cap. Keeps cap name.number note lane later) knows.cap keeps) in (
      stepped.0,
      record {
        core = core ∙ knows.core;
        cap = cap_is ∙ knows.cap;
        cores = ap length lanes ∙ length-set old.lanes.items name.to later ∙ knows.cores;
        each = λ to its there.
            let there = subst (λ items. slice_get items to ≡ Some its) lanes there in
            elim (eqb_tells to name.to) [
              | inl here ↦
                  subst (λ lane. KnowsLane terms.actor to terms.cap lane (accepted_orders to (note ∷ before)) (λ number. facts (name_of terms.actor to number) (note ∷ before))) (sym (changed old.lanes.items name.to to later its there here.1))
                  (subst (λ actor. KnowsLane actor to terms.cap later (accepted_orders to (note ∷ before)) (λ number. facts (name_of actor to number) (note ∷ before))) actor
                  (subst (λ to. KnowsLane name.from to terms.cap later (accepted_orders to (note ∷ before)) (λ number. facts (name_of name.from to number) (note ∷ before))) (sym here.1) stepped.1))
              | inr away ↦
                  lane_same terms.actor to terms.cap its note before (λ other told same. let one : other ≡ name = cc (told, is) in away.1 (sym same ∙ ap (λ id. id.to) one)) (knows.each to its (unchanged old.lanes.items name.to to later its there away.1))
            ];
      },
    )

-- and with any other note as it is
pub table_same : (terms : Terms) (table : Table) (note : Note ℕ) (before : Journal ℕ) → submission note ≡ None → KnowsTable terms table before → FollowsSent terms note before × KnowsTable terms table (note ∷ before)
table_same terms table note before none knows = (
  follows note none,
  record { core = knows.core; cap = knows.cap; cores = knows.cores; each = λ to lane there. lane_same terms.actor to terms.cap lane note before (λ name told. cc (none, told)) (knows.each to lane there) },
)
  where
    follows : (note : Note ℕ) → submission note ≡ None → FollowsSent terms note before
    follows (Sent name order) none = cc none
    follows (Collected name outcome) none = cc none
    follows (Redeemed name outcome) none = cc none
    follows (Detached name) none = cc none
    follows note none = tt
