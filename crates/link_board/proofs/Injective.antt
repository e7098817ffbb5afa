-- What a cell holds is one order, or one outcome.
use Rattle.link_board.proofs.Names.{ap, Content, Held, None, of_order, of_outcome, Order, Outcome, refl, Some, sym, ℕ, ◌∙◌, ◌≡◌}
use Rattle.std.proofs.Common.{Option}
use denote.RawPtr.{Ptr}
use Rattle.base_words.specs.declared.order.Order.TheVariants.{Job, Create, SetShares, Close, CloseCore, Wake}
use Rattle.base_words.specs.declared.order.Outcome.TheVariants.{Finished, Returned, Answered}
use Rattle.link_board.specs.declared.held.Held.TheVariants as held

module _ {J T : Type 0} where
  -- a cell with an order isn't empty, nor is one with an outcome
  pub order_there : (order : Order J) → (it : Held J T) × (of_order order ≡ Some it)
  order_there (Job queue job) = (held.Job queue job, refl)
  order_there (Create shares) = (held.Create shares, refl)
  order_there (SetShares queue shares) = (held.SetShares queue shares, refl)
  order_there (Close queue mode) = (held.Close queue mode, refl)
  order_there (CloseCore mode) = (held.CloseCore mode, refl)
  order_there (Wake actor number) = (held.Wake actor number, refl)

  pub outcome_there : (outcome : Outcome J T) → (it : Held J T) × (of_outcome outcome ≡ Some it)
  outcome_there (Finished out) = (held.Finished out, refl)
  outcome_there (Answered answer) = (held.Answered answer, refl)
  outcome_there (Returned reason (Job queue job)) = (held.JobBack reason queue job, refl)
  outcome_there (Returned reason (Create shares)) = (held.CreateBack reason shares, refl)
  outcome_there (Returned reason (SetShares queue shares)) = (held.SetSharesBack reason queue shares, refl)
  outcome_there (Returned reason (Close queue mode)) = (held.CloseBack reason queue mode, refl)
  outcome_there (Returned reason (CloseCore mode)) = (held.CloseCoreBack reason mode, refl)
  outcome_there (Returned reason (Wake actor number)) = (held.WakeBack reason actor number, refl)

-- what is out with a seat is one thing
module _ {S : Type 0} where
  abbrev out_with : S → Option (Ptr × ℕ × S) → S
  out_with other None = other
  out_with other (Some hand) = hand.2

  pub same_hand : (hand : Option (Ptr × ℕ × S)) (p q : Ptr) (i j : ℕ) (x y : S) → hand ≡ Some (p, i, x) → hand ≡ Some (q, j, y) → x ≡ y
  same_hand hand p q i j x y one two = ap (out_with x) (sym one ∙ two)

module _ {J T : Type 0} where
  abbrev order_in : Order J → Content J T → Order J
  order_in other (Some (held.Job queue job)) = Job queue job
  order_in other (Some (held.Create shares)) = Create shares
  order_in other (Some (held.SetShares queue shares)) = SetShares queue shares
  order_in other (Some (held.Close queue mode)) = Close queue mode
  order_in other (Some (held.CloseCore mode)) = CloseCore mode
  order_in other (Some (held.Wake actor number)) = Wake actor number
  order_in other _ = other

order_in-of : {J : Type 0} (T : Type 0) (other order : Order J) → order_in other (of_order {T = T} order) ≡ order
order_in-of T other (Job queue job) = refl
order_in-of T other (Create shares) = refl
order_in-of T other (SetShares queue shares) = refl
order_in-of T other (Close queue mode) = refl
order_in-of T other (CloseCore mode) = refl
order_in-of T other (Wake actor number) = refl

pub of_order-injective : {J : Type 0} (T : Type 0) (a b : Order J) → of_order {T = T} a ≡ of_order b → a ≡ b
of_order-injective T a b e = sym (order_in-of T a a) ∙ (ap (order_in a) e ∙ order_in-of T a b)

module _ {J T : Type 0} where
  abbrev outcome_in : Outcome J T → Content J T → Outcome J T
  outcome_in other (Some (held.Finished out)) = Finished out
  outcome_in other (Some (held.Answered answer)) = Answered answer
  outcome_in other (Some (held.JobBack reason queue job)) = Returned reason (Job queue job)
  outcome_in other (Some (held.CreateBack reason shares)) = Returned reason (Create shares)
  outcome_in other (Some (held.SetSharesBack reason queue shares)) = Returned reason (SetShares queue shares)
  outcome_in other (Some (held.CloseBack reason queue mode)) = Returned reason (Close queue mode)
  outcome_in other (Some (held.CloseCoreBack reason mode)) = Returned reason (CloseCore mode)
  outcome_in other (Some (held.WakeBack reason actor number)) = Returned reason (Wake actor number)
  outcome_in other _ = other

  outcome_in-of : (other outcome : Outcome J T) → outcome_in other (of_outcome outcome) ≡ outcome
  outcome_in-of other (Finished out) = refl
  outcome_in-of other (Answered answer) = refl
  outcome_in-of other (Returned reason (Job queue job)) = refl
  outcome_in-of other (Returned reason (Create shares)) = refl
  outcome_in-of other (Returned reason (SetShares queue shares)) = refl
  outcome_in-of other (Returned reason (Close queue mode)) = refl
  outcome_in-of other (Returned reason (CloseCore mode)) = refl
  outcome_in-of other (Returned reason (Wake actor number)) = refl

  pub of_outcome-injective : (a b : Outcome J T) → of_outcome a ≡ of_outcome b → a ≡ b
  of_outcome-injective a b e = sym (outcome_in-of a a) ∙ (ap (outcome_in a) e ∙ outcome_in-of a b)
