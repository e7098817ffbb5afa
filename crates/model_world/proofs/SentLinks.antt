-- What a sender's call does on its link: it sent an order, got outcomes, or gave a credit back.
use Rattle.model_world.proofs.LinkWords.{DeskView, Err, JobId, List, Ok, Order, Result, SendError, IsPrefix, IsPrefix-same, Whole, [], ap, append-nil}
use Rattle.model_world.proofs.LinkWords.{get_or, kept_by_sender, out_of, sym, true, true≢false, ℕ, ◌++◌, ◌+◌, ◌-◌, ◌∙◌, ◌∷◌, ◌≡◌}
use Rattle.link_ends.specs.Calls.{Sends as SendsOn}
use Rattle.actor_desk.specs.Submissions.{Submits, numbered}
use Rattle.model_world.proofs.LinkSteps.{sender_rest, OnlySent}
use Rattle.link_ends.proofs.Framed.{Sends-accepted, Sends-refused}

-- what the link has sent more
abbrev pub added : {J : Type 0} → Order J → Result JobId (SendError J) → List (Order J)
added order (Ok name) = order ∷ []
added order (Err error) = []

-- what a submission says of the sender's desk, and of the link
pub record IsSubmitted {J T : Type 0} (core : ℕ) (order : Order J) (desk : DeskView J T) (link : Whole J T) (answer : Result JobId (SendError J)) (now : DeskView J T) (after : Whole J T) : Type 0 where
  pub submits : Submits core order desk answer now
  pub sends : SendsOn (out_of link) link.credited order (out_of after) (numbered answer)
  pub credited : after.credited ≡ link.credited
  pub untouched : kept_by_sender after ≡ kept_by_sender link

module _ {J T : Type 0} (core : ℕ) (order : Order J) (desk : DeskView J T) (link : Whole J T) (answer : Result JobId (SendError J)) (now : DeskView J T) (after : Whole J T)
    (did : IsSubmitted core order desk link answer now after) where
  -- nothing changes but what the link has sent
  after_is : after ≡ record link { sent = link.sent ++ added order answer }
  after_is = by_answer answer did.sends
    where
      by_answer : (answer : Result JobId (SendError J)) → SendsOn (out_of link) link.credited order (out_of after) (numbered answer) → after ≡ record link { sent = link.sent ++ added order answer }
      by_answer (Ok name) sends = Sends-accepted link after did.credited did.untouched order name.number sends
      by_answer (Err error) sends = Sends-refused link after did.credited did.untouched order error sends ∙ (λ i. record link { sent = sym (append-nil link.sent) i })

  pub same_gate : after.shut ≡ link.shut
  same_gate = ap (λ link. link.shut) after_is

  pub sent_is : after.sent ≡ link.sent ++ added order answer
  sent_is = ap (λ link. link.sent) after_is

  pub only_sent : OnlySent link after
  only_sent = record {
    rest = after_is ∙ (λ i. record link { sent = sym sent_is i; got = sym (ap (λ link. link.got) after_is) i; credited = sym (ap (λ link. link.credited) after_is) i });
    sent = (added order answer, sent_is);
    gate = λ shut. by_answer answer shut did.sends sent_is;
  }
    where
      -- behind a shut gate nothing is sent
      by_answer : (answer : Result JobId (SendError J)) → link.shut ≡ true → SendsOn (out_of link) link.credited order (out_of after) (numbered answer) →
          after.sent ≡ link.sent ++ added order answer → after.sent ≡ link.sent
      by_answer (Ok name) shut sends sent = absurd (true≢false (sym shut ∙ sends.0))
      by_answer (Err error) shut sends sent = sent ∙ append-nil link.sent

-- a sender that got outcomes, or gave a credit back, sees what it saw
module _ {J T : Type 0} (link after : Whole J T) (untouched : kept_by_sender after ≡ kept_by_sender link) where
  module _ (seen : IsPrefix link.given after.given) (rest : out_of after ≡ record (out_of link) { seen = after.given; got = after.got }) where
    pub same_given : after.given ≡ link.given
    same_given = IsPrefix-same after.given link.given seen (ap (λ kept. get_or kept 1 0) untouched)

    pub got_more : OnlySent link after
    got_more = record {
      rest = sender_rest link after untouched rest same_given (ap (λ out. out.closed) rest);
      sent = ([], ap (λ out. out.sent) rest ∙ sym (append-nil link.sent));
      gate = λ shut. ap (λ out. out.sent) rest;
    }

  pub got_same : out_of after ≡ out_of link → OnlySent link after
  got_same is =
      got_more ([], ap (λ out. out.seen) is ∙ sym (append-nil link.given))
      (is ∙ (λ i. record (out_of link) { seen = sym (ap (λ out. out.seen) is) i; got = sym (ap (λ out. out.got) is) i }))
