-- What each seat knows of the link.
use Rattle.std.specs.Prelude.{◌≡◌, ℕ, ◌≤◌, true, false, List, length, Option, None}
use mathlib.Core.Option.{some}
use lib.ListN.{get_elem?}
use Rattle.base_words.specs.Assembly.{IsPrefix}
use Rattle.link_ends.specs.Whole.{fresh, out_of, inward_of}
use Rattle.link_ends.specs.declared.ends.Outward.{Outward}
use Rattle.link_ends.specs.declared.ends.Inward.{Inward}
use Rattle.link_ends.specs.declared.plain.Whole.{Whole}
use Rattle.link_board.specs.declared.board.Known.{Known}
use Rattle.link_board.specs.declared.board.Terms.{Terms}

module _ {J T : Type 0} where
  -- the sender knows its end, but of the outcomes given it has seen a beginning, and the gate may be shut without its knowing
  pub record KnowsOut (link : Whole J T) (out : Outward J T) : Type 0 where
    pub knows : out ≡ record (out_of link) { seen = out.seen; closed = out.closed }
    pub sees : IsPrefix out.seen link.given
    pub got_seen : link.got ≤ length out.seen
    pub gate : out.closed ≡ true → link.shut ≡ true

  -- the receiver knows its end, but of the orders sent it has seen a beginning, until the gate is shut
  pub record KnowsInward (link : Whole J T) (inward : Inward J T) : Type 0 where
    pub knows : inward ≡ record (inward_of link) { seen = inward.seen }
    pub sees : IsPrefix inward.seen link.sent
    pub taken_seen : link.taken ≤ length inward.seen
    pub final : link.shut ≡ true → inward.seen ≡ link.sent

  -- what a seat knows is true, also which cell is out with it
  pub record IsTold (link : Whole J T) (sender receiver : ℕ) (out_sender out_receiver : Option ℕ) (seat : ℕ) (view : Known J T) : Type 0 where
    pub sends : view.sends ≡ true → (seat ≡ sender) × KnowsOut link view.out × (view.away ≡ out_sender)
    pub takes : view.takes ≡ true → (seat ≡ receiver) × KnowsInward link view.inward × (view.away ≡ out_receiver)

  abbrev pub AreTold : Whole J T → ℕ → ℕ → Option ℕ → Option ℕ → List (Known J T) → Type 0
  AreTold link sender receiver out_sender out_receiver views =
      (seat : ℕ) (view : Known J T) → get_elem? views seat ≡ some view → IsTold link sender receiver out_sender out_receiver seat view

  -- a link of these terms that was just opened
  abbrev pub fresh_link : Terms J T → Whole J T
  fresh_link terms = fresh terms.from terms.to terms.capacity terms.base

  -- the view of the first seat
  abbrev pub first_view : Terms J T → Known J T
  first_view terms = record {
    sends = true;
    takes = true;
    away = None;
    out = out_of (fresh_link terms);
    inward = inward_of (fresh_link terms);
  }

  -- the sender's and the receiver's part of a view
  abbrev pub out_part : Known J T → Known J T
  out_part view = record view { takes = false }

  abbrev pub inward_part : Known J T → Known J T
  inward_part view = record view { sends = false }

  -- the sender's view with what the receiver's knows
  abbrev pub both_parts : Known J T → Known J T → Known J T
  both_parts view other = record view { takes = other.takes; inward = other.inward }

  -- the view of a seat that knows nothing
  abbrev pub spent_view : Known J T
  spent_view = record {
    sends = false;
    takes = false;
    away = None;
    out = out_of (fresh 0 0 0 0);
    inward = inward_of (fresh 0 0 0 0);
  }
