-- What a wait for a job returns, by the outcome that it got, and its texts.
use Rattle.std.specs.Prelude.{ℕ, List, Result, Ok, Err, codes}
use Rattle.base_words.specs.declared.names.TicketError.{TicketError}
use Rattle.base_words.specs.declared.names.TicketError.TheVariants.{Unknown, Gone, Pending}
use Rattle.base_words.specs.declared.order.Outcome.{Outcome}
use Rattle.base_words.specs.declared.order.Outcome.TheVariants as outcome
use Rattle.duthlwyran.specs.declared.error.WaitError.{WaitError}
use Rattle.duthlwyran.specs.declared.error.WaitError.TheVariants.{Returned, Answered, Refused}

module _ {J : Type 0} where
  -- what the runtime below returned
  abbrev pub outcome_of : Result ℕ (WaitError J) → Result (Outcome J ℕ) TicketError
  outcome_of (Ok number) = Ok (outcome.Finished number)
  outcome_of (Err (Returned reason order)) = Ok (outcome.Returned reason order)
  outcome_of (Err (Answered answer)) = Ok (outcome.Answered answer)
  outcome_of (Err (Refused error)) = Err error

  -- the text of each cause
  abbrev pub wait_text : WaitError J → List ℕ
  wait_text (Returned reason order) = codes "the job came back"
  wait_text (Answered answer) = codes "the order was a command"
  wait_text (Refused Unknown) = codes "no such submission"
  wait_text (Refused Gone) = codes "redeemed or detached before"
  wait_text (Refused Pending) = codes "not collected yet"
