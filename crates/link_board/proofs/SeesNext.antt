-- What the receiver has seen after it lifted an order.
use Rattle.link_board.proofs.Names.{ap, arith, Inward, IsPrefix, IsPrefix-self, IsPrefix-take, KnowsInward, length, List, Order, refl, take, true, Whole, ◌+◌, ◌<◌, ◌≡◌, ◌≤◌}
use mathlib.Core.Logic.{dite}
use native.Mathlib.Decide.{dec_le}
use Rattle.link_board.proofs.Prefix.{IsPrefix-within, length-front}

-- what the receiver has seen after a lift: as much as before where the order is there, and otherwise one more
pub record SeesNext {J T : Type 0} (link : Whole J T) (inward : Inward J T) (seen : List (Order J)) : Type 0 where
  pub longer : IsPrefix inward.seen seen
  pub begins : IsPrefix seen link.sent
  pub final : link.shut ≡ true → seen ≡ link.sent
  pub same : link.shut ≡ true → seen ≡ inward.seen
  pub within : link.taken < length seen
  pub last : length inward.seen ≡ link.taken → length seen ≡ link.taken + 1

pub SeesNext-lift : {J T : Type 0} (link : Whole J T) (inward : Inward J T) → KnowsInward link inward → link.taken < length link.sent → (seen : List (Order J)) × SeesNext link inward seen
SeesNext-lift {J} link inward k more = dite (dec_le (link.taken + 1) (length inward.seen))
    (λ there. (
      inward.seen,
      record {
        longer = IsPrefix-self inward.seen;
        begins = k.sees;
        final = k.final;
        same = λ _. refl;
        within = omega arith;
        last = λ e. absurd (omega arith);
      },
    ))
    (λ not. let low : length inward.seen ≤ link.taken + 1 = omega arith in
    let long : length (take (link.taken + 1) link.sent) ≡ link.taken + 1 = length-front link.sent (link.taken + 1) (omega arith) in
    let open_gate : link.shut ≡ true → ⊥ = (λ shut. let e : length inward.seen ≡ length link.sent = ap length (k.final shut) in omega arith) in (
      take (link.taken + 1) link.sent,
      record {
        longer = IsPrefix-within link.sent (link.taken + 1) inward.seen k.sees low;
        begins = IsPrefix-take (link.taken + 1) link.sent;
        final = λ shut. absurd (open_gate shut);
        same = λ shut. absurd (open_gate shut);
        within = omega arith;
        last = λ _. omega arith;
      },
    ))
