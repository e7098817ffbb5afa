-- A link that is one value: what one end does, as the other end sees it.
use Rattle.std.proofs.Common.{◌≡◌, ℕ, Bool, true, false, List, [], ◌∷◌, ◌++◌, get_or, refl, sym, ◌∙◌, ap, arith}
use Rattle.std.proofs.lemmas.List.{append-nil}
use Rattle.std.specs.Prelude.{Option, Some, None}
use Rattle.base_words.specs.declared.order.Outcome.{Outcome}
use Rattle.link_ends.specs.Calls.{Gives, SendsMore}
use Rattle.link_ends.specs.Around.{SeesOrders}
use Rattle.link_ends.specs.declared.plain.Whole.{Whole}
use Rattle.link_ends.specs.Whole.{gate_number, inward_of, kept_by_receiver, kept_by_sender, out_of}
use Rattle.model_world.specs.Reached.{links_reach}

-- two gates of one number are one
pub one_gate : (gate other : Bool) → gate_number gate ≡ gate_number other → gate ≡ other
one_gate true true same = refl
one_gate true false same = absurd (omega (arith, same))
one_gate false true same = absurd (omega (arith, same))
one_gate false false same = refl

module _ {J T : Type 0} where
  -- where the sender's end sent more, the receiver sees more orders
  pub orders_seen : (link after : Whole J T) → kept_by_sender after ≡ kept_by_sender link → SendsMore (out_of link) (out_of after) → SeesOrders links_reach link after
  orders_seen link after untouched more = record {
    rest = λ i. record {
      from = ap (λ out. out.from) more.0 i;
      to = ap (λ out. out.to) more.0 i;
      base = ap (λ out. out.base) more.0 i;
      capacity = ap (λ out. out.capacity) more.0 i;
      seen = after.sent;
      taken = ap (λ kept. get_or kept 0 0) untouched i;
      given = ap (λ out. out.seen) more.0 i;
      shut = one_gate after.shut link.shut (ap (λ kept. get_or kept 2 0) untouched) i;
    };
    more = (more.1, λ shut. ap (λ out. out.sent) (more.2 shut));
  }

  pub orders_same : (link : Whole J T) → SeesOrders (links_reach {J = J} {T = T}) link link
  orders_same link = record { rest = refl; more = (([], sym (append-nil link.sent)), λ shut. refl) }

-- the outcomes of a link, and what was given on it
module _ {J T : Type 0} (link after : Whole J T) (untouched : kept_by_receiver after ≡ kept_by_receiver link) where
  -- an end that differs in its outcomes is of a link that differs in them
  whole : (given : List (ℕ × Outcome J T)) → inward_of after ≡ record (inward_of link) { given = given } → after ≡ record link { given = given }
  whole given is = λ i. record {
    from = ap (λ end. end.from) is i;
    to = ap (λ end. end.to) is i;
    base = ap (λ end. end.base) is i;
    capacity = ap (λ end. end.capacity) is i;
    sent = ap (λ end. end.seen) is i;
    taken = ap (λ end. end.taken) is i;
    given = ap (λ end. end.given) is i;
    got = ap (λ kept. get_or kept 1 0) untouched i;
    credited = ap (λ kept. get_or kept 2 0) untouched i;
    shut = ap (λ end. end.shut) is i;
  }

  -- this much was given
  abbrev pub IsGift : Type 0
  IsGift = (given : List (ℕ × Outcome J T)) × (after ≡ record link { given = link.given ++ given })

  -- where the receiver gave an outcome, or none, so much was given
  pub gift : (number : ℕ) (outcome : Option (Outcome J T)) → Gives (inward_of link) number outcome (inward_of after) → IsGift
  gift number None gives = ([], whole link.given gives ∙ (λ i. record link { given = sym (append-nil link.given) i }))
  gift number (Some outcome) gives = ((number, outcome) ∷ [], whole (link.given ++ (number, outcome) ∷ []) gives)
