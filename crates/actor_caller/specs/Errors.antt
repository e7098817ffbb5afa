-- What a refused submission tells, and its text.
use Rattle.std.specs.Prelude.{ℕ, Bool, true, false, List, codes}
use Rattle.base_words.specs.declared.order.Order.{Order}
use Rattle.base_words.specs.declared.order.SendError.TheVariants.{Closed, Full, Spent, NoCore}
use Rattle.base_jobs.specs.Posts.{order_back}
use Rattle.actor_caller.specs.declared.error.SubmitError.{SubmitError}
use Rattle.actor_caller.specs.declared.error.SubmitError.TheVariants.{JournalFull, Send}

module _ {J : Type 0} where
  -- the order that comes back
  abbrev pub refused_order : SubmitError J → Order J
  refused_order (JournalFull order) = order
  refused_order (Send error) = order_back error

  -- whether the link to the core is full
  abbrev pub tells_full : SubmitError J → Bool
  tells_full (Send (Full order)) = true
  tells_full _ = false

  -- whether the core is closed
  abbrev pub tells_closed : SubmitError J → Bool
  tells_closed (Send (Closed order final)) = true
  tells_closed _ = false

  -- the text of a refused submission
  abbrev pub submit_text : SubmitError J → List ℕ
  submit_text (JournalFull order) = codes "the outside journal is full"
  submit_text (Send (Closed order final)) = codes "the core is closed"
  submit_text (Send (Full order)) = codes "the link is full"
  submit_text (Send (Spent order)) = codes "the link has no number left"
  submit_text (Send (NoCore order)) = codes "no such core"
