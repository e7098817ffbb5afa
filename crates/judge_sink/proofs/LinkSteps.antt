-- What is kept of the links after one more note.
use Rattle.std.proofs.Common.{◌≡◌, ℕ, ◌+◌, ◌<◌, ◌==◌, Bool, cond, None, Some, List, ◌∷◌, length, get_or, set, refl, sym, ap, subst, arith}
use Rattle.std.proofs.lemmas.Bool.{eq-eqb, ne_eqb}
use Rattle.base_words.proofs.Tables.{each_next}
use Rattle.base_words.proofs.Told.{length-with_last_if}
use Rattle.base_words.specs.declared.names.JobId.{JobId}
use Rattle.base_words.specs.declared.note.Note.TheVariants.{Sent, Took, Back, Answered}
use Rattle.base_words.specs.declared.order.Answer.{Answer}
use Rattle.base_words.specs.declared.order.Order.{Order}
use Rattle.base_words.specs.declared.order.Reason.{Reason}
use Rattle.base_words.specs.Filters.{accepted_orders, delivered_names}
use Rattle.base_words.specs.Journal.{Journal, with_last}
use Rattle.base_words.specs.Work.{number_if}
use Rattle.judge_sink.specs.declared.links.Links.{Links}
use Rattle.judge_sink.specs.Links.{KnowsLinks, counted}

-- a count goes on by one, where the test passes
one_more : {A : Type 0} (items : List A) (item : A) (test : Bool) (count : ℕ) → count ≡ counted (length items) →
    counted (count + number_if test) ≡ counted (length (with_last items (cond test (Some item) None)))
one_more items item test count is = omega (arith, is, length-with_last_if items item test)

-- a table of counts, when one of the lists that it counts is longer by one
module _ {A : Type 0} (lists : ℕ → List A) (item : A) (at : ℕ) (table : List ℕ) (within : at < length table) (was : (place : ℕ) → get_or table place 0 ≡ counted (length (lists place))) where
  abbrev longer : ℕ → List A
  longer place = with_last (lists place) (cond (at == place) (Some item) None)

  others : (place count : ℕ) → (place ≡ at → ⊥) → count ≡ counted (length (lists place)) → count ≡ counted (length (longer place))
  others place count apart is = omega (arith, is, one_more (lists place) item (at == place) count is, ap number_if (ne_eqb at place (λ same. apart (sym same))))

  its : counted (get_or table at 0 + 1) ≡ counted (length (longer at))
  its = omega (arith, was at, one_more (lists at) item (at == at) (get_or table at 0) (was at), ap number_if (eq-eqb at at refl))

  one_longer : (place : ℕ) → get_or (set table at (counted (get_or table at 0 + 1))) place 0 ≡ counted (length (longer place))
  one_longer = each_next (λ place count. count ≡ counted (length (lists place))) (λ place count. count ≡ counted (length (longer place))) table at (counted (get_or table at 0 + 1)) 0 within
      (λ place apart is. others place _ apart is) its was

module _ (old new : Links) (before : Journal ℕ) (knows : KnowsLinks old before) (name : JobId) where
  module _ (within : name.from < length old.delivered) (is : new ≡ record old { delivered = set old.delivered name.from (counted (get_or old.delivered name.from 0 + 1)) }) where
    delivered : (sender : ℕ) → get_or (set old.delivered name.from (counted (get_or old.delivered name.from 0 + 1))) sender 0 ≡ counted (length (with_last (delivered_names sender before) (cond (name.from == sender) (Some name) None)))
    delivered = one_longer (λ sender. delivered_names sender before) name name.from old.delivered within knows.delivered

    -- an order was delivered
    pub knows_took : (queue : ℕ) → KnowsLinks new (Took name queue ∷ before)
    knows_took queue = subst (λ links. KnowsLinks links (Took name queue ∷ before)) (sym is) (record { closed = knows.closed; sent = knows.sent; delivered = delivered; counts = knows.counts })

    pub knows_back : (reason : Reason) → KnowsLinks new (Back name reason ∷ before)
    knows_back reason = subst (λ links. KnowsLinks links (Back name reason ∷ before)) (sym is) (record { closed = knows.closed; sent = knows.sent; delivered = delivered; counts = knows.counts })

    pub knows_answered : (answer : Answer) → KnowsLinks new (Answered name answer ∷ before)
    knows_answered answer = subst (λ links. KnowsLinks links (Answered name answer ∷ before)) (sym is) (record { closed = knows.closed; sent = knows.sent; delivered = delivered; counts = knows.counts })

  -- an order was sent
  pub knows_sent : new ≡ record old { sent = counted (old.sent + number_if (name.to == old.core)) } → (order : Order (Unit {0})) → KnowsLinks new (Sent name order ∷ before)
  knows_sent is order = subst (λ links. KnowsLinks links (Sent name order ∷ before)) (sym is) (record {
    closed = knows.closed;
    sent = one_more (accepted_orders old.core before) (name, order) (name.to == old.core) old.sent knows.sent;
    delivered = knows.delivered;
    counts = knows.counts;
  })
