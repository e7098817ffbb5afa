-- What each call of a plain link does to its fields keeps what they hold.
use Rattle.std.proofs.Common.{◌≡◌, ℕ, ◌+◌, ◌^◌, ◌<◌, ◌≤◌, List, [], ◌∷◌, ◌++◌, length, drop, drop-drop, length-append, length-drop, sym, ap, ap₂, ◌∙◌, subst, arith}
use Rattle.std.specs.Prelude.{slice_get}
use Rattle.std.proofs.lemmas.List.{drop-append-le}
use Rattle.circular_buffer.specs.Buffer.{Buffer, buffer}
use Rattle.circular_buffer.proofs.Places.{slice_get-drop}
use Rattle.base_words.specs.declared.order.Order.{Order}
use Rattle.base_words.specs.declared.order.Outcome.{Outcome}
use Rattle.base_sealed.specs.declared.history.History.{History}
use Rattle.link_ends.specs.declared.plain.PlainLink.TheInside.{Inside}
use Rattle.link_ends.specs.Calls.{MayGive}
use Rattle.link_ends.specs.Whole.{inward_of, IsLink}
use Rattle.link_ends.specs.Plain.{whole_of, IsPlain}
use Rattle.link_ends.proofs.WholeLaws.{IsLink-send, IsLink-take, IsLink-awaits, IsLink-give, IsLink-collect}

module _ {A : Type 0} where
  -- one more behind what a buffer holds of a list
  push : (list : List A) (last : A) (n capacity : ℕ) (before after : Buffer A) → n ≤ length list → before ≡ buffer (drop n list) capacity
      → after ≡ buffer (before.items ++ last ∷ []) before.capacity → after ≡ buffer (drop n (list ++ last ∷ [])) capacity
  push list last n capacity before after within was is =
      is ∙ ap₂ (λ (l : List A) (c : ℕ). buffer l c)
      (ap (λ (b : Buffer A). b.items ++ last ∷ []) was ∙ sym (drop-append-le n list (last ∷ []) within)) (ap (λ (b : Buffer A). b.capacity) was)

  -- one less in front
  pop : (list : List A) (n capacity : ℕ) (before after : Buffer A) → before ≡ buffer (drop n list) capacity
      → after ≡ buffer (drop 1 before.items) before.capacity → after ≡ buffer (drop (n + 1) list) capacity
  pop list n capacity before after was is =
      is ∙ ap₂ (λ (l : List A) (c : ℕ). buffer l c) (ap (λ (b : Buffer A). drop 1 b.items) was ∙ drop-drop 1 n list) (ap (λ (b : Buffer A). b.capacity) was)

  -- the first in the buffer is the next of the list
  first : (list : List A) (n capacity : ℕ) (held : Buffer A) → held ≡ buffer (drop n list) capacity → slice_get held.items 0 ≡ slice_get list n
  first list n capacity held is = ap (λ (b : Buffer A). slice_get b.items 0) is ∙ slice_get-drop n list 0 n (omega arith)

module _ {J T L : Type 0} {fits : Order J → Outcome J T → Type 0} {ready : Order J → Type 0} {p : Inside J T L} (kept : IsPlain fits ready p) where
  pub IsPlain-send : (order : Order J) (sent : History (Order J)) (orders : Buffer (Order J)) → ready order → sent.items ≡ p.sent.items ++ order ∷ []
      → orders ≡ buffer (p.orders.items ++ order ∷ []) p.orders.capacity → p.base + p.count + 1 < 2 ^ 63 → p.count < p.credited + p.capacity
      → IsPlain fits ready (record p { sent = sent; orders = orders; count = p.count + 1 })
  IsPlain-send order sent orders is_ready longer pushed below room =
      let count_is : p.count ≡ length p.sent.items = kept.count_is in
      let long : length (p.sent.items ++ order ∷ []) ≡ length p.sent.items + 1 = length-append p.sent.items (order ∷ []) in
      let long' : length sent.items ≡ length (p.sent.items ++ order ∷ []) = ap length longer in record {
        link = subst (λ (l : List (Order J)). IsLink fits ready (record (whole_of p) { sent = l })) (sym longer)
            (IsLink-send kept.link order is_ready (omega arith) (omega arith));
        count_is = omega arith;
        orders_are = push p.sent.items order p.taken p.capacity p.orders orders kept.link.taken_sent kept.orders_are pushed
            ∙ ap (λ (l : List (Order J)). buffer (drop p.taken l) p.capacity) (sym longer);
        outcomes_are = kept.outcomes_are;
      }

  pub IsPlain-take : (orders : Buffer (Order J)) → orders ≡ buffer (drop 1 p.orders.items) p.orders.capacity → p.taken < length p.sent.items
      → IsPlain fits ready (record p { orders = orders; taken = p.taken + 1 })
  IsPlain-take orders popped more = record {
    link = IsLink-take kept.link more;
    count_is = kept.count_is;
    orders_are = pop p.sent.items p.taken p.capacity p.orders orders kept.orders_are popped;
    outcomes_are = kept.outcomes_are;
  }

  pub IsPlain-collect : (outcomes : Buffer (ℕ × Outcome J T)) → outcomes ≡ buffer (drop 1 p.outcomes.items) p.outcomes.capacity → p.got < length p.given.items
      → IsPlain fits ready (record p { outcomes = outcomes; got = p.got + 1 })
  IsPlain-collect outcomes popped more = record {
    link = IsLink-collect kept.link more;
    count_is = kept.count_is;
    orders_are = kept.orders_are;
    outcomes_are = pop p.given.items p.got p.capacity p.outcomes outcomes kept.outcomes_are popped;
  }

  pub next_order : slice_get p.orders.items 0 ≡ slice_get p.sent.items p.taken
  next_order = first p.sent.items p.taken p.capacity p.orders kept.orders_are

  pub next_outcome : slice_get p.outcomes.items 0 ≡ slice_get p.given.items p.got
  next_outcome = first p.given.items p.got p.capacity p.outcomes kept.outcomes_are

  module _ (number : ℕ) (outcome : Outcome J T) (may : MayGive fits (inward_of (whole_of p)) number outcome) where
    -- an outcome that may be given finds a place
    pub room_to_give : length p.outcomes.items < p.outcomes.capacity
    room_to_give =
        let awaits : length p.given.items < p.taken = IsLink-awaits kept.link number outcome may in
        let held : length p.outcomes.items ≡ length (drop p.got p.given.items) = ap (λ (b : Buffer (ℕ × Outcome J T)). length b.items) kept.outcomes_are in
        let places : p.outcomes.capacity ≡ p.capacity = ap (λ (b : Buffer (ℕ × Outcome J T)). b.capacity) kept.outcomes_are in
        omega (arith, length-drop p.got p.given.items, kept.link.taken_sent, kept.link.room, kept.link.credited_got, kept.link.got_given)

    pub IsPlain-give : (given : History (ℕ × Outcome J T)) (outcomes : Buffer (ℕ × Outcome J T)) → given.items ≡ p.given.items ++ (number, outcome) ∷ []
        → outcomes ≡ buffer (p.outcomes.items ++ (number, outcome) ∷ []) p.outcomes.capacity → IsPlain fits ready (record p { given = given; outcomes = outcomes })
    IsPlain-give given outcomes longer pushed = record {
      link = subst (λ (l : List (ℕ × Outcome J T)). IsLink fits ready (record (whole_of p) { given = l })) (sym longer)
          (IsLink-give kept.link number outcome may);
      count_is = kept.count_is;
      orders_are = kept.orders_are;
      outcomes_are = push p.given.items (number, outcome) p.got p.capacity p.outcomes outcomes kept.link.got_given kept.outcomes_are pushed
          ∙ ap (λ (l : List (ℕ × Outcome J T)). buffer (drop p.got l) p.capacity) (sym longer);
    }
