-- What the calls of the two ends do to what each end knows.
use Rattle.std.specs.Prelude.{◌≡◌, ℕ, ◌+◌, ◌-◌, ◌^◌, ◌<◌, ◌≤◌, Bool, true, false, [], ◌∷◌, ◌++◌, length, Option, Some, None, Result, Ok, Err, slice_get, IfSome}
use Rattle.base_words.specs.declared.order.Envelope.{Envelope}
use Rattle.base_words.specs.declared.order.Order.{Order}
use Rattle.base_words.specs.declared.order.Outcome.{Outcome}
use Rattle.base_words.specs.declared.order.SendError.{SendError}
use Rattle.base_words.specs.declared.order.SendError.TheVariants.{Closed, Full, Spent, NoCore}
use Rattle.link_ends.specs.declared.ends.Outward.{Outward}
use Rattle.link_ends.specs.declared.ends.Inward.{Inward}
use Rattle.base_words.specs.Assembly.{IsPrefix}

module _ {J T : Type 0} where
  -- a send is accepted under the next number, or refused in this order: the gate is shut, as many as may be are outstanding, the last number was given
  abbrev pub Sends : Outward J T → ℕ → Order J → Outward J T → Result ℕ (SendError J) → Type 0
  Sends old credited order new (Ok number) =
      (old.closed ≡ false) × (length old.sent < credited + old.capacity)
      × (number ≡ old.base + length old.sent + 1) × (number < 2 ^ 63)
      × (new ≡ record old { sent = old.sent ++ order ∷ [] })
  Sends old credited order new (Err (Closed back final)) =
      (back ≡ order) × (final ≡ old.base + length old.sent) × (new ≡ record old { closed = true })
  Sends old credited order new (Err (Full back)) =
      (back ≡ order) × (old.closed ≡ false) × (length old.sent ≡ credited + old.capacity) × (new ≡ old)
  Sends old credited order new (Err (Spent back)) =
      (back ≡ order) × (old.closed ≡ false) × (length old.sent < credited + old.capacity)
      × (old.base + length old.sent ≡ 2 ^ 63 - 1) × (new ≡ old)
  Sends old credited order new (Err (NoCore back)) = ⊥

  -- a collection gets the next outcome, or finds that all it sees is got
  abbrev pub Collects : Outward J T → Outward J T → Option (ℕ × Outcome J T) → Type 0
  Collects old new None = (new ≡ record old { seen = new.seen }) × IsPrefix old.seen new.seen × (length new.seen ≡ old.got)
  Collects old new (Some outcome) =
      (new ≡ record old { seen = new.seen; got = old.got + 1 }) × IsPrefix old.seen new.seen
      × (slice_get new.seen old.got ≡ Some outcome)

  -- an end has sent more, or has seen its gate shut, and has got nothing; where it saw the gate shut before, it sent nothing
  abbrev pub SendsMore : Outward J T → Outward J T → Type 0
  SendsMore old new = (new ≡ record old { sent = new.sent; closed = new.closed }) × IsPrefix old.sent new.sent × (old.closed ≡ true → new ≡ old)

  -- the receiver sees as much as before or more, and no more once the gate is shut
  abbrev pub SeesMore : Inward J T → Inward J T → Type 0
  SeesMore old new = IsPrefix old.seen new.seen × (old.shut ≡ true → new.seen ≡ old.seen)

  -- a take answers the next order under its name, or finds that all it sees is taken
  abbrev pub Takes : Inward J T → Inward J T → Option (Envelope J) → Type 0
  Takes old new None = (new ≡ record old { seen = new.seen }) × SeesMore old new × (length new.seen ≡ old.taken)
  Takes old new (Some envelope) =
      (new ≡ record old { seen = new.seen; taken = old.taken + 1 }) × SeesMore old new
      × (envelope.name ≡ record { from = old.from; to = old.to; number = old.base + old.taken + 1 })
      × (slice_get new.seen old.taken ≡ Some envelope.order)

  -- the number was taken and has no outcome yet, and the outcome fits the order of that number
  abbrev pub MayGive : (Order J → Outcome J T → Type 0) → Inward J T → ℕ → Outcome J T → Type 0
  MayGive fits inward number outcome =
      (inward.base < number) × (number ≤ inward.base + inward.taken)
      × IfSome (slice_get inward.seen (number - inward.base - 1)) (λ order. fits order outcome)
      × ((j : ℕ) (given : ℕ × Outcome J T) → slice_get inward.given j ≡ Some given → ¬ (given.0 ≡ number))

  -- the gate is shut, and the receiver sees all that was accepted
  abbrev pub Shuts : Inward J T → Inward J T → ℕ → Type 0
  Shuts old new final =
      (new ≡ record old { seen = new.seen; shut = true }) × SeesMore old new × (final ≡ new.base + length new.seen)

  -- the number of the last accepted order, once the gate is shut
  abbrev pub final_of : Inward J T → Bool → Option ℕ
  final_of inward true = Some (inward.base + length inward.seen)
  final_of inward false = None

  -- an outcome is given on this end, if there is one
  abbrev pub Gives : Inward J T → ℕ → Option (Outcome J T) → Inward J T → Type 0
  Gives old number None new = new ≡ old
  Gives old number (Some outcome) new = new ≡ record old { given = old.given ++ (number, outcome) ∷ [] }
