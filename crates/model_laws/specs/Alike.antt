-- Calls that ask alike, and replies that are alike.
use Rattle.std.specs.Prelude.{◌≡◌, ◌⊎◌, ℕ, List, [], ◌∷◌, Result, Ok, Err}
use Rattle.base_words.specs.declared.names.TicketError.{TicketError}
use Rattle.base_words.specs.declared.note.OutcomeNote.{OutcomeNote}
use Rattle.base_words.specs.declared.order.Order.{Order}
use Rattle.base_words.specs.declared.order.Outcome.{Outcome}
use Rattle.base_words.specs.Outcomes.{outcome_note}
use Rattle.base_jobs.specs.Calls.{Call}
use Rattle.base_jobs.specs.Calls.Call.{Submit, Redeem, Detach}
use Rattle.link_ends.specs.Fits.{Fits}
use Rattle.model_world.specs.declared.event.Reply.{Reply}
use Rattle.model_world.specs.declared.event.Reply.TheVariants as reply
use Rattle.base_jobs.specs.Meanings.{Meaning}

module _ {J T : Type 0} where
  -- what is told of a redeemed outcome
  abbrev pub told_of : Result (Outcome J T) TicketError → Result (OutcomeNote T) TicketError
  told_of (Ok outcome) = Ok (outcome_note outcome)
  told_of (Err error) = Err error

  -- two calls ask the same
  abbrev pub AsksSame : Call J T → Call J T → Type 0
  AsksSame (Submit to order answer) (Submit core back told) = (to ≡ core) × (order ≡ back)
  AsksSame (Redeem name answer) (Redeem other told) = name ≡ other
  AsksSame (Detach name answer) (Detach other told) = name ≡ other
  AsksSame _ _ = ⊥

  -- two calls are answered alike: the same, except that a job which comes back may have got further
  abbrev pub AnsweredAlike : Call J T → Call J T → Type 0
  AnsweredAlike (Submit to order answer) (Submit core back told) = answer ≡ told
  AnsweredAlike (Redeem name answer) (Redeem other told) = told_of answer ≡ told_of told
  AnsweredAlike (Detach name answer) (Detach other told) = answer ≡ told
  AnsweredAlike _ _ = ⊥

  -- calls that ask the same, as long as they are answered alike
  abbrev pub AskAlike : List (Call J T) → List (Call J T) → Type 0
  AskAlike [] others = others ≡ []
  AskAlike (call ∷ calls) [] = ⊥
  AskAlike (call ∷ calls) (other ∷ others) = AsksSame call other × (AnsweredAlike call other → AskAlike calls others)

module _ {J : Type 0} (meaning : Meaning J ℕ) where
  -- both redeem what one order may come to, and tell the same of it; if a job came back, it has that order's task, and may differ in how far it got
  pub record AreBothRedeemed (answer other : Reply J) : Type 0 where
    pub outcome : Outcome J ℕ
    pub back : Outcome J ℕ
    pub redeemed : answer ≡ reply.Redeemed outcome
    pub other_redeemed : other ≡ reply.Redeemed back
    pub tells : outcome_note outcome ≡ outcome_note back
    pub order : Order J
    pub fits : Fits meaning order outcome
    pub other_fits : Fits meaning order back

module _ {J : Type 0} (meaning : Meaning J ℕ) where
  -- two replies are the same, except that jobs which come back with a redeemed outcome may differ: no journal tells how far such a job got
  abbrev pub AreAlike : Reply J → Reply J → Type 0
  AreAlike answer other = (answer ≡ other) ⊎ AreBothRedeemed meaning answer other

  -- replies that are alike, one by one
  abbrev pub AreAllAlike : List (Reply J) → List (Reply J) → Type 0
  AreAllAlike [] others = others ≡ []
  AreAllAlike (answer ∷ replies) others = (other : Reply J) × (rest : List (Reply J)) × (others ≡ other ∷ rest) × AreAlike answer other × AreAllAlike replies rest
