-- What a core is lent for a turn: the ends on which it sends, and an end of each sender. Two of these may be the two ends of one link that is one value.
use Rattle.std.specs.Prelude.{◌≡◌, ◌≢◌, ℕ, Option, List, length, Some, slice_get}
use Rattle.base_words.specs.declared.order.Outcome.{Outcome}
use Rattle.base_words.specs.Assembly.{IsPrefix}
use Rattle.link_ends.specs.declared.ends.Outward.{Outward}
use Rattle.link_ends.specs.declared.ends.Inward.{Inward}
use Rattle.link_ends.specs.Calls.{Gives, SeesMore, SendsMore}

-- what the two kinds of end are to those who see them: of an end that sends what it knows, its credits, and what no call of it changes; and so of an end that receives
pub record Sides (J T O I : Type 0) : Type 0 where
  pub out : O → Outward J T
  pub credited : O → ℕ
  pub kept : O → List ℕ
  pub inward : I → Inward J T
  pub held : I → List ℕ

-- where the ends of the core of a number stand in what is lent, `A`: the list of those on which it sends, and that of each sender; what is lent with others in their place; and whether they are there
pub record Reach (J T A O I : Type 0) : Type 1 where
  pub sides : Sides J T O I
  pub outs : ℕ → A → List O
  pub in_at : ℕ → ℕ → A → I
  pub with_outs : ℕ → List O → A → A
  pub with_in : ℕ → ℕ → I → A → A
  pub HasOuts : ℕ → A → Type 0
  pub HasIn : ℕ → ℕ → A → Type 0

module _ {J T A O I : Type 0} (reach : Reach J T A O I) where
  -- each of these ends has sent more, or has seen its gate shut, and nothing else
  pub record HaveSent (old new : List O) : Type 0 where
    pub count : length new ≡ length old
    pub each : (core : ℕ) (was end : O) → slice_get old core ≡ Some was → slice_get new core ≡ Some end →
        (reach.sides.kept end ≡ reach.sides.kept was) × SendsMore (reach.sides.out was) (reach.sides.out end)

  -- each of these ends sees more outcomes, or as many, and nothing else
  pub record SeeGiven (old new : List O) : Type 0 where
    pub count : length new ≡ length old
    pub each : (core : ℕ) (was end : O) → slice_get old core ≡ Some was → slice_get new core ≡ Some end →
        (reach.sides.out end ≡ record (reach.sides.out was) { seen = (reach.sides.out end).seen }) × IsPrefix (reach.sides.out was).seen (reach.sides.out end).seen
        × (reach.sides.credited end ≡ reach.sides.credited was)

  -- this end sees more orders, or as many, and nothing else
  pub record SeesOrders (old new : I) : Type 0 where
    pub rest : reach.sides.inward new ≡ record (reach.sides.inward old) { seen = (reach.sides.inward new).seen }
    pub more : SeesMore (reach.sides.inward old) (reach.sides.inward new)

  -- an outcome was given on this end, if there is one
  pub record Gave (number : ℕ) (outcome : Option (Outcome J T)) (old new : I) : Type 0 where
    pub gives : Gives (reach.sides.inward old) number outcome (reach.sides.inward new)
    pub held : reach.sides.held new ≡ reach.sides.held old

  -- What is there behind other ends: those that were put there, and the rest as it was. Only a link that leads from the core to itself may have both of its ends among these: on it
  -- the receiver sees more orders where the sender's end sent some, and the sender's end more outcomes where one was given.
  pub record IsAround : Type 0 where
    pub outs_put : (own : ℕ) (row : List O) (a : A) → reach.HasOuts own a → reach.outs own (reach.with_outs own row a) ≡ row
    pub outs_there : (own : ℕ) (row : List O) (a : A) → reach.HasOuts own a → reach.HasOuts own (reach.with_outs own row a)
    pub ins_there : (own sender : ℕ) (row : List O) (a : A) → reach.HasOuts own a → length row ≡ length (reach.outs own a) → reach.HasIn own sender a →
        reach.HasIn own sender (reach.with_outs own row a)
    pub ins_see : (own sender : ℕ) (row : List O) (a : A) → reach.HasOuts own a → reach.HasIn own sender a → HaveSent (reach.outs own a) row →
        SeesOrders (reach.in_at own sender a) (reach.in_at own sender (reach.with_outs own row a))
    pub in_put : (own sender : ℕ) (end : I) (a : A) → reach.HasIn own sender a → reach.in_at own sender (reach.with_in own sender end a) ≡ end
    pub in_others : (own sender other : ℕ) (end : I) (a : A) → reach.HasIn own sender a → other ≢ sender → reach.in_at own other (reach.with_in own sender end a) ≡ reach.in_at own other a
    pub in_there : (own sender other : ℕ) (end : I) (a : A) → reach.HasIn own sender a → reach.HasIn own other a → reach.HasIn own other (reach.with_in own sender end a)
    pub outs_stay : (own sender : ℕ) (end : I) (a : A) → reach.HasIn own sender a → reach.HasOuts own a → reach.HasOuts own (reach.with_in own sender end a)
    pub outs_see : (own sender number : ℕ) (outcome : Option (Outcome J T)) (end : I) (a : A) → reach.HasIn own sender a → reach.HasOuts own a →
        Gave number outcome (reach.in_at own sender a) end → SeeGiven (reach.outs own a) (reach.outs own (reach.with_in own sender end a))
