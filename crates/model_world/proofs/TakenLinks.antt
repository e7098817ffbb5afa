-- What a receiver's call does on its link: it took an order, gave an outcome, or shut the gate.
use Rattle.model_world.proofs.LinkWords.{Bool, Gives, Inward, List, None, Option, Order, Outcome, Some, IsPrefix, IsPrefix-same, Whole, [], ap}
use Rattle.model_world.proofs.LinkWords.{append-nil, get_or, inward_of, kept_by_receiver, subst, sym, true, ℕ, ◌∙◌, ◌∷◌, ◌≡◌}
use Rattle.base_words.specs.declared.order.Envelope.{Envelope}
use Rattle.link_ends.specs.Calls.{SeesMore, Takes}
use Rattle.actor_core.proofs.GivenEnds.{gave_rest}
use Rattle.model_world.proofs.LinkSteps.{OnlyReceived}

-- a receiver sees what it saw, and the sender's numbers are the same
module _ {J T : Type 0} (link after : Whole J T) (more : SeesMore (inward_of link) (inward_of after)) (untouched : kept_by_receiver after ≡ kept_by_receiver link)
    (rest : inward_of after ≡ record (inward_of link) { seen = after.sent; taken = after.taken; given = after.given; shut = after.shut }) where
  pub sent_is : after.sent ≡ link.sent
  sent_is = IsPrefix-same after.sent link.sent more.0 (ap (λ kept. get_or kept 0 0) untouched)

  pub only_received : IsPrefix link.given after.given → OnlyReceived link after
  only_received given = record {
    rest = λ i. record {
      from = ap (λ end. end.from) rest i;
      to = ap (λ end. end.to) rest i;
      base = ap (λ end. end.base) rest i;
      capacity = ap (λ end. end.capacity) rest i;
      sent = sent_is i;
      taken = after.taken;
      given = after.given;
      got = ap (λ kept. get_or kept 1 0) untouched i;
      credited = ap (λ kept. get_or kept 2 0) untouched i;
      shut = after.shut;
    };
    given = given;
  }

-- what the core did on the link: it took, gave an outcome or shut the gate; and it sees what it saw
pub record DidOnLink {J T : Type 0} (link after : Whole J T) : Type 0 where
  pub rest : inward_of after ≡ record (inward_of link) { seen = after.sent; taken = after.taken; given = after.given; shut = after.shut }
  pub more : SeesMore (inward_of link) (inward_of after)
  pub given : IsPrefix link.given after.given

pub on_link : {J T : Type 0} {link after : Whole J T} {seen : List (Order J)} {taken : ℕ} {given : List (ℕ × Outcome J T)} {shut : Bool} →
    inward_of after ≡ record (inward_of link) { seen = seen; taken = taken; given = given; shut = shut } →
    SeesMore (inward_of link) (inward_of after) → IsPrefix link.given after.given → DidOnLink link after
on_link {link = link} is more given = record {
  rest = is ∙ (λ i. record (inward_of link) {
    seen = sym (ap (λ end. end.seen) is) i;
    taken = sym (ap (λ end. end.taken) is) i;
    given = sym (ap (λ end. end.given) is) i;
    shut = sym (ap (λ end. end.shut) is) i;
  });
  more = more;
  given = given;
}

-- what was given before is given still
given_more : {J T : Type 0} (taken : Inward J T) (after : Whole J T) (number : ℕ) (outcome : Option (Outcome J T)) → Gives taken number outcome (inward_of after) → IsPrefix taken.given after.given
given_more taken after number None gives = ([], ap (λ end. end.given) gives ∙ sym (append-nil taken.given))
given_more taken after number (Some outcome) gives = ((number, outcome) ∷ [], ap (λ end. end.given) gives)

-- the core took an order, and gave its outcome, if there is one yet
module _ {J T : Type 0} (link after : Whole J T) (taken : Inward J T) (envelope : Envelope J) (outcome : Option (Outcome J T)) (takes : Takes (inward_of link) taken (Some envelope))
    (gives : Gives taken envelope.name.number outcome (inward_of after)) where
  pub rest_is : inward_of after ≡ record taken { given = after.given }
  rest_is = gave_rest taken envelope.name.number outcome (inward_of after) gives

  pub seen_is : after.sent ≡ taken.seen
  seen_is = ap (λ end. end.seen) rest_is

  pub took_on_link : DidOnLink link after
  took_on_link =
      on_link (rest_is ∙ (λ i. record (takes.0 i) { given = after.given }))
      (subst (λ seen. IsPrefix link.sent seen × (link.shut ≡ true → seen ≡ link.sent)) (sym seen_is) takes.1)
      (subst (λ given. IsPrefix given after.given) (ap (λ end. end.given) takes.0) (given_more taken after envelope.name.number outcome gives))
