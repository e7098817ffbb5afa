-- What each call of a link does keeps its law.
use Rattle.std.proofs.Common.{◌≡◌, ℕ, ◌+◌, ◌^◌, ◌<◌, ◌≤◌, true, [], ◌∷◌, ◌++◌, length, length-append, refl, arith}
use Rattle.base_words.specs.declared.order.Order.{Order}
use Rattle.base_words.specs.declared.order.Outcome.{Outcome}
use Rattle.link_ends.specs.declared.plain.Whole.{Whole}
use Rattle.link_ends.specs.Calls.{MayGive}
use Rattle.link_ends.specs.Whole.{fresh, inward_of, IsLink}
use Rattle.link_ends.proofs.Numbers.{AreNamed-append, AreNamed-wider, AreNamed-room, AreOf-append, AreOf-starts, AreReady-append}

module _ {J T : Type 0} {fits : Order J → Outcome J T → Type 0} {ready : Order J → Type 0} where
  pub IsLink-fresh : (from to capacity base : ℕ) → base < 2 ^ 63 → IsLink fits ready (fresh from to capacity base)
  IsLink-fresh from to capacity base low = record {
    numbered = omega arith;
    room = omega arith;
    credited_got = omega arith;
    got_given = omega arith;
    given_taken = omega arith;
    taken_sent = omega arith;
    named = (λ i x e. absurd cc, λ i j x y e. absurd cc);
    fitting = (λ i x e. absurd cc, λ i j x y e. absurd cc);
    ready_orders = λ i x e. absurd cc;
  }

  module _ {link : Whole J T} (l : IsLink fits ready link) where
    pub IsLink-send : (order : Order J) → ready order → link.base + length link.sent + 1 < 2 ^ 63 → length link.sent < link.credited + link.capacity
        → IsLink fits ready (record link { sent = link.sent ++ order ∷ [] })
    IsLink-send order is_ready below room =
        let longer : length (link.sent ++ order ∷ []) ≡ length link.sent + 1 = length-append link.sent (order ∷ []) in record {
          numbered = omega arith;
          room = omega arith;
          credited_got = l.credited_got;
          got_given = l.got_given;
          given_taken = l.given_taken;
          taken_sent = omega (arith, l.taken_sent);
          named = l.named;
          fitting = AreOf-starts fits link.base link.sent (link.sent ++ order ∷ []) link.given (order ∷ [], refl) l.fitting;
          ready_orders = AreReady-append ready link.sent order is_ready l.ready_orders;
        }

    pub IsLink-take : link.taken < length link.sent → IsLink fits ready (record link { taken = link.taken + 1 })
    IsLink-take more = record {
      numbered = l.numbered;
      room = l.room;
      credited_got = l.credited_got;
      got_given = l.got_given;
      given_taken = omega (arith, l.given_taken);
      taken_sent = omega arith;
      named = AreNamed-wider link.base link.taken (link.taken + 1) link.given (omega arith) l.named;
      fitting = l.fitting;
      ready_orders = l.ready_orders;
    }

    -- fewer outcomes are given than orders taken
    pub IsLink-awaits : (number : ℕ) (outcome : Outcome J T) → MayGive fits (inward_of link) number outcome → length link.given < link.taken
    IsLink-awaits number outcome may = AreNamed-room link.base link.taken link.given number outcome may.0 may.1 may.3 l.named

    pub IsLink-give : (number : ℕ) (outcome : Outcome J T) → MayGive fits (inward_of link) number outcome
        → IsLink fits ready (record link { given = link.given ++ (number, outcome) ∷ [] })
    IsLink-give number outcome may =
        let longer : length (link.given ++ (number, outcome) ∷ []) ≡ length link.given + 1 = length-append link.given ((number, outcome) ∷ []) in
        let awaits : length link.given < link.taken = IsLink-awaits number outcome may in
        let high : number ≤ link.base + link.taken = may.1 in record {
          numbered = l.numbered;
          room = l.room;
          credited_got = l.credited_got;
          got_given = omega (arith, l.got_given);
          given_taken = omega arith;
          taken_sent = l.taken_sent;
          named = AreNamed-append link.base link.taken link.given number outcome may.0 may.1 may.3 l.named;
          fitting = AreOf-append fits link.base link.sent link.given number outcome may.0 (omega (arith, l.taken_sent)) may.2 may.3 l.fitting;
          ready_orders = l.ready_orders;
        }

    pub IsLink-collect : link.got < length link.given → IsLink fits ready (record link { got = link.got + 1 })
    IsLink-collect more = record {
      numbered = l.numbered;
      room = l.room;
      credited_got = omega (arith, l.credited_got);
      got_given = omega arith;
      given_taken = l.given_taken;
      taken_sent = l.taken_sent;
      named = l.named;
      fitting = l.fitting;
      ready_orders = l.ready_orders;
    }

    pub IsLink-credit : link.credited < link.got → IsLink fits ready (record link { credited = link.credited + 1 })
    IsLink-credit more = record {
      numbered = l.numbered;
      room = omega (arith, l.room);
      credited_got = omega arith;
      got_given = l.got_given;
      given_taken = l.given_taken;
      taken_sent = l.taken_sent;
      named = l.named;
      fitting = l.fitting;
      ready_orders = l.ready_orders;
    }

    pub IsLink-shut : IsLink fits ready (record link { shut = true })
    IsLink-shut = record {
      numbered = l.numbered;
      room = l.room;
      credited_got = l.credited_got;
      got_given = l.got_given;
      given_taken = l.given_taken;
      taken_sent = l.taken_sent;
      named = l.named;
      fitting = l.fitting;
      ready_orders = l.ready_orders;
    }
