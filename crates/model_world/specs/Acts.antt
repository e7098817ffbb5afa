-- What an actor does on its link to a core, in one word: it sends an order, collects outcomes, redeems one, or lets go of one.
use Rattle.std.specs.Prelude.{◌≡◌, ℕ, Result, IfOk}
use Rattle.base_words.specs.declared.names.JobId.{JobId}
use Rattle.base_words.specs.declared.names.TicketError.{TicketError}
use Rattle.base_words.specs.declared.order.Order.{Order}
use Rattle.base_words.specs.declared.order.Outcome.{Outcome}
use Rattle.base_words.specs.declared.order.SendError.{SendError}
use Rattle.link_ends.specs.declared.plain.Whole.{Whole}
use Rattle.link_ends.specs.Calls.{Sends as SendsOn}
use Rattle.link_ends.specs.Fits.{Fits}
use Rattle.link_ends.specs.Whole.{out_of, kept_by_sender}
use Rattle.actor_desk.specs.Lanes.{IsGot, FitsSent}
use Rattle.base_jobs.specs.Meanings.{Meaning}
use Rattle.actor_core.specs.Ends.{IsSameSeat, KeepsIn}
use Rattle.actor_core.specs.Recorded.{RecordedView, IsRecorded, desk_of}
use Rattle.actor_desk.specs.Submissions.{DeskView, Submits, numbered}
use Rattle.actor_desk.specs.Tickets.{CollectsFrom, GetsAll, RedeemsTicket, DetachesTicket, StaysBeside}
use Rattle.model_world.specs.declared.event.Reply.{Reply}
use Rattle.model_world.specs.declared.event.Reply.TheVariants as reply
use Rattle.model_world.specs.declared.model.acts.Act.{Act}
use Rattle.model_world.specs.declared.model.acts.Act.TheVariants.{Send, Collect, Redeem, Detach}
use Rattle.model_world.specs.State.{WorldView}
use Rattle.model_world.specs.Sends.{Sends, sent_reply}
use Rattle.model_world.specs.Collections.{Collects, Redeems, Detaches, redeemed_reply, detached_reply}

module _ {J : Type 0} where
  -- a ticket of the act is this actor's
  abbrev pub IsActOf : ℕ → Act J → Type 0
  IsActOf sender (Redeem name) = name.from ≡ sender
  IsActOf sender (Detach name) = name.from ≡ sender
  IsActOf sender _ = Unit {0}

  -- and of a submission to this core
  abbrev pub IsActAt : ℕ → Act J → Type 0
  IsActAt core (Redeem name) = name.to ≡ core
  IsActAt core (Detach name) = name.to ≡ core
  IsActAt core _ = Unit {0}

  -- as many notes as the act may need
  abbrev pub notes_for : ℕ → Act J → ℕ
  notes_for cap Collect = cap
  notes_for cap _ = 4

  -- the job that the act hands in is ready
  abbrev pub HasReadyAct : (Order J → Type 0) → Act J → Type 0
  HasReadyAct ready (Send order) = ready order
  HasReadyAct ready _ = Unit {0}

module _ {J : Type 0} (meaning : Meaning J ℕ) where
  -- the step of the event of this name
  abbrev pub Acts : ℕ → ℕ → Act J → WorldView J ℕ → WorldView J ℕ → Reply J → Type 0
  Acts sender core (Send order) = Sends sender core order
  Acts sender core Collect = Collects sender core
  Acts sender core (Redeem name) = Redeems meaning sender name
  Acts sender core (Detach name) = Detaches sender name

  -- what is so of the actor's desk and of the link, and what the actor is told
  abbrev pub ActsOn : ℕ → Act J → DeskView J ℕ → Whole J ℕ → Reply J → DeskView J ℕ → Whole J ℕ → Type 0
  ActsOn core (Send order) desk link answer now after =
      (sent : Result JobId (SendError J)) × (answer ≡ sent_reply sent) × Submits core order desk sent now
      × SendsOn (out_of link) link.credited order (out_of after) (numbered sent) × (after.credited ≡ link.credited)
  ActsOn core Collect desk link answer now after =
      (count : ℕ) × (answer ≡ reply.Collected count) × CollectsFrom core desk count now × GetsAll (out_of link) (out_of after)
  ActsOn core (Redeem name) desk link answer now after =
      (told : Result (Outcome J ℕ) TicketError) × (answer ≡ redeemed_reply told) × RedeemsTicket name desk told now
      × IfOk told (IsGot (out_of link) name.number) × IfOk told (FitsSent (Fits meaning) (out_of link) name.number) × (out_of after ≡ out_of link)
  ActsOn core (Detach name) desk link answer now after =
      (told : Result (Unit {0}) TicketError) × (answer ≡ detached_reply told) × DetachesTicket name desk told now × (out_of after ≡ out_of link)

  -- the act, and what it keeps
  pub record HasActed (core : ℕ) (act : Act J) (desk : DeskView J ℕ) (link : Whole J ℕ) (answer : Reply J) (now : DeskView J ℕ) (after : Whole J ℕ) : Type 0 where
    pub acts : ActsOn core act desk link answer now after
    pub stays : StaysBeside (Fits meaning) core desk now (out_of after) after.credited
    pub untouched : kept_by_sender after ≡ kept_by_sender link

  -- the act of a core, which changes nothing but its journal and its lanes
  pub record HasCoreActed (core : ℕ) (act : Act J) (view : RecordedView J ℕ) (link : Whole J ℕ) (answer : Reply J) (now : RecordedView J ℕ) (after : Whole J ℕ) : Type 0 where
    pub acted : HasActed core act (desk_of view) link answer (desk_of now) after
    pub rest : now ≡ record view { journal = now.journal; lanes = now.lanes }
    pub ins : (sender : ℕ) → KeepsIn sender view now
    pub seat : IsSameSeat view now
    pub sound : IsRecorded meaning now
