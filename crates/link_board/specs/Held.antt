-- What a cell holds of an order and of an outcome.
use Rattle.std.specs.Prelude.{Option, Some}
use Rattle.base_words.specs.declared.order.Order.{Order}
use Rattle.base_words.specs.declared.order.Order.TheVariants.{Job, Create, SetShares, Close, CloseCore, Wake}
use Rattle.base_words.specs.declared.order.Outcome.{Outcome}
use Rattle.base_words.specs.declared.order.Outcome.TheVariants.{Finished, Returned, Answered}
use Rattle.base_words.specs.declared.order.Reason.{Reason}
use Rattle.link_board.specs.declared.held.Held.{Held}
use Rattle.link_board.specs.declared.held.Held.TheVariants as held

-- what a cell holds: an order, an outcome, or nothing; of what was taken out its bytes may still be there
abbrev pub Content : Type 0 → Type 0 → Type 0
Content J T = Option (Held J T)

module _ {J T : Type 0} where
  -- a cell with this order
  abbrev pub of_order : Order J → Content J T
  of_order (Job queue job) = Some (held.Job queue job)
  of_order (Create shares) = Some (held.Create shares)
  of_order (SetShares queue shares) = Some (held.SetShares queue shares)
  of_order (Close queue mode) = Some (held.Close queue mode)
  of_order (CloseCore mode) = Some (held.CloseCore mode)
  of_order (Wake actor number) = Some (held.Wake actor number)

  -- a cell with this order, which is handed back for a reason
  abbrev pub of_back : Reason → Order J → Content J T
  of_back reason (Job queue job) = Some (held.JobBack reason queue job)
  of_back reason (Create shares) = Some (held.CreateBack reason shares)
  of_back reason (SetShares queue shares) = Some (held.SetSharesBack reason queue shares)
  of_back reason (Close queue mode) = Some (held.CloseBack reason queue mode)
  of_back reason (CloseCore mode) = Some (held.CloseCoreBack reason mode)
  of_back reason (Wake actor number) = Some (held.WakeBack reason actor number)

  -- a cell with this outcome
  abbrev pub of_outcome : Outcome J T → Content J T
  of_outcome (Finished out) = Some (held.Finished out)
  of_outcome (Returned reason order) = of_back reason order
  of_outcome (Answered answer) = Some (held.Answered answer)
