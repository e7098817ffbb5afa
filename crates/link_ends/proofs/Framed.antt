-- A plain link is changed by a call through a trait as by the call itself: what the trait leaves open, its `untouched` tells.
use Rattle.std.proofs.Common.{◌≡◌, ℕ, ◌+◌, Bool, true, false, [], ◌∷◌, ◌++◌, length, Option, Some, None, Ok, Err, refl, sym, ap, ◌∙◌, arith}
use Rattle.std.specs.Prelude.{slice_get}
use Rattle.std.proofs.lemmas.Option.{slice_get_past}
use Rattle.base_words.specs.declared.order.Envelope.{Envelope}
use Rattle.base_words.specs.declared.order.Order.{Order}
use Rattle.base_words.specs.declared.order.Outcome.{Outcome}
use Rattle.base_words.specs.declared.order.SendError.{SendError}
use Rattle.base_words.specs.declared.order.SendError.TheVariants.{Closed, Full, Spent, NoCore}
use Rattle.link_ends.specs.declared.ends.Inward.{Inward}
use Rattle.link_ends.specs.declared.ends.Outward.{Outward}
use Rattle.link_ends.specs.declared.plain.Whole.{Whole}
use Rattle.link_ends.specs.Calls.{Sends, Collects, Takes, Shuts}
use Rattle.link_ends.specs.Whole.{out_of, inward_of, gate_number, kept_by_sender, kept_by_receiver}
use Rattle.base_words.proofs.Prefixes.{IsPrefix-same}

gate_number-same : (a b : Bool) → gate_number a ≡ gate_number b → a ≡ b
gate_number-same true true e = refl
gate_number-same true false e = absurd (omega arith)
gate_number-same false true e = absurd (omega arith)
gate_number-same false false e = refl

module _ {J T : Type 0} where
  -- a link by its sender's end
  by_out : Outward J T → ℕ → ℕ → Whole J T
  by_out out credited taken = record {
    from = out.from;
    to = out.to;
    base = out.base;
    capacity = out.capacity;
    sent = out.sent;
    taken = taken;
    given = out.seen;
    got = out.got;
    credited = credited;
    shut = out.closed;
  }

  -- a link by its receiver's end
  by_inward : Inward J T → ℕ → ℕ → Whole J T
  by_inward inward got credited = record {
    from = inward.from;
    to = inward.to;
    base = inward.base;
    capacity = inward.capacity;
    sent = inward.seen;
    taken = inward.taken;
    given = inward.given;
    got = got;
    credited = credited;
    shut = inward.shut;
  }

  same_by_out : (a b : Whole J T) → out_of a ≡ out_of b → a.credited ≡ b.credited → a.taken ≡ b.taken → a ≡ b
  unfolding by_out
  same_by_out a b out credited taken =
      ap (λ (o : Outward J T). by_out o a.credited a.taken) out ∙ (ap (λ r. by_out (out_of b) r a.taken) credited ∙ ap (by_out (out_of b) b.credited) taken)

  same_by_inward : (a b : Whole J T) → inward_of a ≡ inward_of b → a.got ≡ b.got → a.credited ≡ b.credited → a ≡ b
  unfolding by_inward
  same_by_inward a b inward got credited =
      ap (λ (i : Inward J T). by_inward i a.got a.credited) inward ∙ (ap (λ g. by_inward (inward_of b) g a.credited) got ∙ ap (by_inward (inward_of b) b.got) credited)

  module _ (old new : Whole J T) (credits : new.credited ≡ old.credited) (kept : kept_by_sender new ≡ kept_by_sender old) where
    taken : new.taken ≡ old.taken
    taken = cc

    shut : new.shut ≡ old.shut
    shut = let e : gate_number new.shut ≡ gate_number old.shut = cc in gate_number-same new.shut old.shut e

    -- an accepted order is sent, and nothing else changes
    pub Sends-accepted : (order : Order J) (number : ℕ) → Sends (out_of old) old.credited order (out_of new) (Ok number) → new ≡ record old { sent = old.sent ++ order ∷ [] }
    Sends-accepted order number sends = same_by_out new (record old { sent = old.sent ++ order ∷ [] }) sends.4 credits taken

    -- only where the gate is shut is an order refused as closed
    pub Sends-closed : (order back : Order J) (final : ℕ) → Sends (out_of old) old.credited order (out_of new) (Err (Closed back final)) → old.shut ≡ true
    Sends-closed order back final sends = sym shut ∙ ap (λ (o : Outward J T). o.closed) sends.2

    -- a refused order changes nothing
    pub Sends-refused : (order : Order J) (error : SendError J) → Sends (out_of old) old.credited order (out_of new) (Err error) → new ≡ old
    Sends-refused order (Closed back final) sends =
        same_by_out new old (sends.2 ∙ ap (λ b. record (out_of old) { closed = b }) (sym (Sends-closed order back final sends))) credits taken
    Sends-refused order (Full back) sends = same_by_out new old sends.3 credits taken
    Sends-refused order (Spent back) sends = same_by_out new old sends.4 credits taken
    Sends-refused order (NoCore back) sends = absurd sends

    -- a collection gets the next outcome, and nothing else changes
    pub Collects-whole : (result : Option (ℕ × Outcome J T)) → Collects (out_of old) (out_of new) result
        → (new ≡ record old { got = new.got }) × (result ≡ slice_get old.given old.got)
    Collects-whole None collects =
        let given : new.given ≡ old.given = IsPrefix-same new.given old.given collects.1 cc in
        let end : length new.given ≡ old.got = collects.2 in
        let got : new.got ≡ old.got = ap (λ (o : Outward J T). o.got) collects.0 in (
          same_by_out new (record old { got = new.got })
              (collects.0 ∙ (ap (λ l. record (out_of old) { seen = l }) given ∙ ap (λ g. record (out_of old) { got = g }) (sym got))) credits taken,
          sym (slice_get_past old.given old.got (omega (arith, ap length given))),
        )
    Collects-whole (Some outcome) collects =
        let given : new.given ≡ old.given = IsPrefix-same new.given old.given collects.1 cc in
        let got : new.got ≡ old.got + 1 = ap (λ (o : Outward J T). o.got) collects.0 in (
          same_by_out new (record old { got = new.got })
              (collects.0 ∙ (ap (λ l. record (out_of old) { seen = l; got = old.got + 1 }) given ∙ ap (λ g. record (out_of old) { got = g }) (sym got))) credits taken,
          sym collects.2 ∙ ap (λ l. slice_get l old.got) given,
        )

  module _ (old new : Whole J T) (kept : kept_by_receiver new ≡ kept_by_receiver old) where
    got_same : new.got ≡ old.got
    got_same = cc

    redeemed_same : new.credited ≡ old.credited
    redeemed_same = cc

    -- a take takes the next order, and nothing else changes
    pub Takes-some : (envelope : Envelope J) → Takes (inward_of old) (inward_of new) (Some envelope)
        → (new ≡ record old { taken = old.taken + 1 }) × (slice_get old.sent old.taken ≡ Some envelope.order)
    Takes-some envelope takes =
        let sent : new.sent ≡ old.sent = IsPrefix-same new.sent old.sent takes.1.0 cc in (
          same_by_inward new (record old { taken = old.taken + 1 })
              (takes.0 ∙ ap (λ l. record (inward_of old) { seen = l; taken = old.taken + 1 }) sent) got_same redeemed_same,
          ap (λ l. slice_get l old.taken) (sym sent) ∙ takes.3,
        )

    -- only where all that was sent is taken is nothing found
    pub Takes-nothing : Takes (inward_of old) (inward_of new) None → (new ≡ old) × (length old.sent ≡ old.taken)
    Takes-nothing takes =
        let sent : new.sent ≡ old.sent = IsPrefix-same new.sent old.sent takes.1.0 cc in (
          same_by_inward new old (takes.0 ∙ ap (λ l. record (inward_of old) { seen = l }) sent) got_same redeemed_same,
          ap length (sym sent) ∙ takes.2,
        )

    -- an outcome that is given stands last, and nothing else changes
    pub gives-whole : (number : ℕ) (outcome : Outcome J T) → inward_of new ≡ record (inward_of old) { given = old.given ++ (number, outcome) ∷ [] }
        → new ≡ record old { given = old.given ++ (number, outcome) ∷ [] }
    gives-whole number outcome gives = same_by_inward new (record old { given = old.given ++ (number, outcome) ∷ [] }) gives got_same redeemed_same

    -- the gate is shut behind all that was sent, and nothing else changes
    pub Shuts-whole : (final : ℕ) → Shuts (inward_of old) (inward_of new) final → (new ≡ record old { shut = true }) × (final ≡ old.base + length old.sent)
    Shuts-whole final shuts =
        let sent : new.sent ≡ old.sent = IsPrefix-same new.sent old.sent shuts.1.0 cc in
        let base : new.base ≡ old.base = ap (λ (i : Inward J T). i.base) shuts.0 in (
          same_by_inward new (record old { shut = true }) (shuts.0 ∙ ap (λ l. record (inward_of old) { seen = l; shut = true }) sent) got_same redeemed_same,
          (let long : length new.sent ≡ length old.sent = ap length sent in let e : final ≡ new.base + length new.sent = shuts.2 in cc),
        )
