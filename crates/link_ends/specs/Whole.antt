-- A link as a whole, where both ends see all.
use Rattle.std.specs.Prelude.{ℕ, ◌+◌, ◌^◌, ◌<◌, ◌≤◌, Bool, true, false, List, [], ◌∷◌, length}
use Rattle.base_words.specs.declared.order.Order.{Order}
use Rattle.base_words.specs.declared.order.Outcome.{Outcome}
use Rattle.link_ends.specs.declared.ends.Outward.{Outward}
use Rattle.link_ends.specs.declared.ends.Inward.{Inward}
use Rattle.link_ends.specs.declared.plain.Whole.{Whole}
use Rattle.link_ends.specs.Ends.{AreOf, AreNamed, AreReady}

-- 1 for a gate that is shut
abbrev pub gate_number : Bool → ℕ
gate_number true = 1
gate_number false = 0

module _ {J T : Type 0} where
  -- the sender's end, which sees all that was given
  abbrev pub out_of : Whole J T → Outward J T
  out_of link = record {
    from = link.from;
    to = link.to;
    base = link.base;
    capacity = link.capacity;
    sent = link.sent;
    seen = link.given;
    got = link.got;
    closed = link.shut;
  }

  -- the receiver's end, which sees all that was sent
  abbrev pub inward_of : Whole J T → Inward J T
  inward_of link = record {
    from = link.from;
    to = link.to;
    base = link.base;
    capacity = link.capacity;
    seen = link.sent;
    taken = link.taken;
    given = link.given;
    shut = link.shut;
  }

  -- what only the receiver changes, as numbers: how many orders it took, how many outcomes it gave, and whether it shut the gate
  abbrev pub kept_by_sender : Whole J T → List ℕ
  kept_by_sender link = link.taken ∷ length link.given ∷ gate_number link.shut ∷ []

  -- what only the sender changes, as numbers: how many orders it sent, how many outcomes it got, and how many credits it gave back
  abbrev pub kept_by_receiver : Whole J T → List ℕ
  kept_by_receiver link = length link.sent ∷ link.got ∷ link.credited ∷ []

  -- a link that was just opened
  abbrev pub fresh : ℕ → ℕ → ℕ → ℕ → Whole J T
  fresh from to capacity base = record {
    from = from;
    to = to;
    base = base;
    capacity = capacity;
    sent = [];
    taken = 0;
    given = [];
    got = 0;
    credited = 0;
    shut = false;
  }

  -- the law of a link: numbers end at the last one; at most `capacity` are sent without a credit; what has its credit was got, what is got was given,
  -- what is given was taken, and what is taken was sent; each outcome fits the order of its number, and each order that was sent was ready
  pub record IsLink (fits : Order J → Outcome J T → Type 0) (ready : Order J → Type 0) (link : Whole J T) : Type 0 where
    pub numbered : link.base + length link.sent < 2 ^ 63
    pub room : length link.sent ≤ link.credited + link.capacity
    pub credited_got : link.credited ≤ link.got
    pub got_given : link.got ≤ length link.given
    pub given_taken : length link.given ≤ link.taken
    pub taken_sent : link.taken ≤ length link.sent
    pub named : AreNamed link.base link.taken link.given
    pub fitting : AreOf fits link.base link.sent link.given
    pub ready_orders : AreReady ready link.sent
