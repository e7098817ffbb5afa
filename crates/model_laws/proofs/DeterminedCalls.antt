-- Calls of a post have one result, where they ask the same as long as they are answered alike.
use Rattle.model_laws.proofs.Words.{◌≡◌, ℕ, List, [], ◌∷◌, refl, sym, ◌∙◌, ap, subst, inl, inr, ⊎_elim, arith, Result, Ok, Err, JobId, Order, Reply, WorldView}
use Rattle.model_laws.proofs.Words.{TicketError, Unknown, Outcome, OutcomeNote, SendError, outcome_note, Call, Makes, Submit, Redeem, Detach, CallsAt, AskAlike}
use Rattle.model_laws.proofs.Words.{redeemed_reply, detached_reply, AreAlike, sent_reply}
use Rattle.model_world.specs.declared.event.Reply.TheVariants as reply
use Rattle.model_laws.specs.Alike.{AsksSame, AnsweredAlike, told_of}
use Rattle.model_laws.proofs.DeterminedSteps.{comes_once, sends_to, detaches_to, redeems_once}
use Rattle.base_jobs.specs.Meanings.{Meaning}

module _ {J : Type 0} where
  -- a reply says what was answered
  sent_same : (answer other : Result JobId (SendError J)) → sent_reply answer ≡ sent_reply other → answer ≡ other
  sent_same (Ok name) (Ok other) same = cc
  sent_same (Err error) (Err other) same = cc
  sent_same _ _ same = cc

  detached_same : (answer other : Result (Unit {0}) TicketError) → detached_reply {J = J} answer ≡ detached_reply other → answer ≡ other
  detached_same (Ok done) (Ok other) same = refl
  detached_same (Err error) (Err other) same = cc
  detached_same _ _ same = cc

  -- what a reply tells of a ticket
  abbrev tells : Reply J → Result (OutcomeNote ℕ) TicketError
  tells (reply.Redeemed outcome) = Ok (outcome_note outcome)
  tells (reply.NoTicket error) = Err error
  tells _ = Err Unknown

  told_is : (answer : Result (Outcome J ℕ) TicketError) → told_of answer ≡ tells (redeemed_reply answer)
  told_is (Ok outcome) = refl
  told_is (Err error) = refl

module _ {J : Type 0} (meaning : Meaning J ℕ) where
  -- replies that are alike tell the same
  told_same : (answer other : Result (Outcome J ℕ) TicketError) → AreAlike meaning (redeemed_reply answer) (redeemed_reply other) → told_of answer ≡ told_of other
  told_same answer other alike =
      told_is answer ∙ (⊎_elim (λ is. ap tells is) (λ both. ap tells both.redeemed ∙ (ap Ok both.tells ∙ sym (ap tells both.other_redeemed))) alike ∙ sym (told_is other))

  module _ (core : ℕ) where
    submits_once : (to : ℕ) (order : Order J) (answer other : Result JobId (SendError J)) (old new then : WorldView J ℕ) →
        CallsAt meaning core old (Submit to order answer) new → CallsAt meaning core old (Submit to order other) then → (new ≡ then) × (answer ≡ other)
    submits_once to order answer other old new then (inl first) (inl second) = (first.2 ∙ sym second.2, first.1 ∙ sym second.1)
    submits_once to order answer other old new then (inl first) (inr second) = absurd (omega (arith, first.0, second.0))
    submits_once to order answer other old new then (inr first) (inl second) = absurd (omega (arith, first.0, second.0))
    submits_once to order answer other old new then (inr first) (inr second) =
        let one = comes_once (sends_to core to order old (sent_reply answer) first.1) (sends_to core to order old (sent_reply other) second.1) in
        (one.0, sent_same answer other one.1)

    -- calls that ask the same of one world leave one world, and are answered alike
    call_once : (call other : Call J ℕ) → AsksSame call other → (old new then : WorldView J ℕ) → CallsAt meaning core old call new → CallsAt meaning core old other then →
        (new ≡ then) × AnsweredAlike call other
    call_once (Submit to order answer) (Submit at back told) asks old new then first second =
        submits_once to order answer told old new then first
        (subst (λ at. CallsAt meaning core old (Submit at order told) then) (sym asks.0) (subst (λ order. CallsAt meaning core old (Submit at order told) then) (sym asks.1) second))
    call_once (Redeem name answer) (Redeem back told) asks old new then first second =
        let one = redeems_once meaning core old new then name (redeemed_reply answer) (redeemed_reply told) first (subst (λ name. CallsAt meaning core old (Redeem name told) then) (sym asks) second) in
        (one.0, told_same answer told one.1)
    call_once (Detach name answer) (Detach back told) asks old new then first second =
        let again = subst (λ name. CallsAt meaning core old (Detach name told) then) (sym asks) second in
        let one = comes_once (detaches_to core name old (detached_reply answer) first) (detaches_to core name old (detached_reply told) again) in
        (one.0, detached_same answer told one.1)
    call_once _ _ asks old new then first second = absurd asks

    pub calls_once : (calls others : List (Call J ℕ)) → AskAlike calls others → (old new then : WorldView J ℕ) → Makes (CallsAt meaning core) calls old new → Makes (CallsAt meaning core) others old then → new ≡ then
    calls_once [] others alike old new then first second = first ∙ sym (subst (λ others. Makes (CallsAt meaning core) others old then) alike second)
    calls_once (call ∷ calls) [] alike old new then first second = absurd alike
    calls_once (call ∷ calls) (other ∷ others) alike old new then first second =
        let one = call_once call other alike.0 old first.0 second.0 first.1 second.1 in
        calls_once calls others (alike.1 one.1) first.0 new then first.2 (subst (λ start. Makes (CallsAt meaning core) others start then) (sym one.0) second.2)
