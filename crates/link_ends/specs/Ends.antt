-- What each end of a link knows, and what is true of it at any time.
use Rattle.std.specs.Prelude.{◌≡◌, ℕ, ◌+◌, ◌-◌, ◌^◌, ◌<◌, ◌≤◌, true, List, ◌++◌, length, Some, slice_get, IfSome}
use Rattle.base_words.specs.declared.order.Order.{Order}
use Rattle.base_words.specs.declared.order.Outcome.{Outcome}
use Rattle.base_words.specs.Assembly.{IsPrefix}
use Rattle.link_ends.specs.declared.ends.Outward.{Outward}
use Rattle.link_ends.specs.declared.ends.Inward.{Inward}

-- each of these orders is ready
abbrev pub AreReady : {J : Type 0} → (Order J → Type 0) → List (Order J) → Type 0
AreReady {J} ready orders = (i : ℕ) (order : Order J) → slice_get orders i ≡ Some order → ready order

module _ {J T : Type 0} where
  -- no number stands twice in a list of outcomes
  abbrev pub AreDistinct : List (ℕ × Outcome J T) → Type 0
  AreDistinct outcomes =
      (i j : ℕ) (x y : ℕ × Outcome J T) → slice_get outcomes i ≡ Some x → slice_get outcomes j ≡ Some y → x.0 ≡ y.0 → i ≡ j

  -- each outcome has one of the first `count` numbers after the base, and no number has two
  abbrev pub AreNamed : ℕ → ℕ → List (ℕ × Outcome J T) → Type 0
  AreNamed base count outcomes =
      ((i : ℕ) (x : ℕ × Outcome J T) → slice_get outcomes i ≡ Some x → (base < x.0) × (x.0 ≤ base + count)) × AreDistinct outcomes

  -- each outcome has the number of one of these orders and fits it, and no number has two
  abbrev pub AreOf : (Order J → Outcome J T → Type 0) → ℕ → List (Order J) → List (ℕ × Outcome J T) → Type 0
  AreOf fits base orders outcomes =
      ((i : ℕ) (x : ℕ × Outcome J T) → slice_get outcomes i ≡ Some x
      → (base < x.0) × IfSome (slice_get orders (x.0 - base - 1)) (λ order. fits order x.1) × (x.0 ≤ base + length orders))
      × AreDistinct outcomes

  -- the sender's end, at any time: no number is above the last one, at most `capacity` are outstanding, a credit is of an outcome that was got
  pub record SoundOut (out : Outward J T) (credited : ℕ) : Type 0 where
    pub numbered : out.base + length out.sent < 2 ^ 63
    pub room : length out.sent ≤ credited + out.capacity
    pub credits : credited ≤ out.got
    pub behind : out.got ≤ length out.seen
    pub within : out.got ≤ length out.sent

  -- the receiver's end, at any time: it has taken what it has seen, given outcomes to what it has taken, once each, and at most `capacity` wait for theirs
  pub record SoundIn (inward : Inward J T) : Type 0 where
    pub numbered : inward.base + length inward.seen < 2 ^ 63
    pub behind : inward.taken ≤ length inward.seen
    pub within : length inward.given ≤ inward.taken
    pub room : length inward.seen ≤ length inward.given + inward.capacity
    pub named : AreNamed inward.base inward.taken inward.given

  -- the two ends of one link: each has seen a beginning of the other's list, and once the gate is shut the receiver has seen all
  pub record Joined (out : Outward J T) (inward : Inward J T) : Type 0 where
    pub from : inward.from ≡ out.from
    pub to : inward.to ≡ out.to
    pub base : inward.base ≡ out.base
    pub capacity : inward.capacity ≡ out.capacity
    pub orders : IsPrefix inward.seen out.sent
    pub outcomes : IsPrefix out.seen inward.given
    pub gate : out.closed ≡ true → inward.shut ≡ true
    pub final : inward.shut ≡ true → inward.seen ≡ out.sent
