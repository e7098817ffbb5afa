-- What an end that an actor sends on is to its journal.
use Rattle.std.specs.Prelude.{◌≡◌, ℕ, ◌+◌, ◌<◌, ◌≤◌, List, length, map, take}
use Rattle.base_words.specs.declared.names.JobId.{JobId}
use Rattle.base_words.specs.declared.order.Outcome.{Outcome}
use Rattle.base_words.specs.Journal.{Journal}
use Rattle.base_words.specs.Filters.{Outcomes, accepted_orders, collected_outcomes}
use Rattle.base_words.specs.Outcomes.{outcome_note}
use Rattle.base_words.specs.Outstanding.{outstanding_count, is_gone, is_outstanding}
use Rattle.link_ends.specs.declared.ends.Outward.{Outward}
use Rattle.base_words.specs.Assembly.{IsPrefix}
use Rattle.actor_desk.specs.Orders.{numbered_orders}
use Rattle.actor_desk.specs.Submissions.{DeskView}

-- what a journal tells of the links on which its actor sends stays as it was
pub record KeepsSent {T : Type 0} (old new : Journal T) : Type 0 where
  pub accepted : (core : ℕ) → accepted_orders core new ≡ accepted_orders core old
  pub outstanding : (core : ℕ) → outstanding_count core new ≡ outstanding_count core old
  pub collected : (core : ℕ) → collected_outcomes core new ≡ collected_outcomes core old
  pub gone : (name : JobId) → is_gone name new ≡ is_gone name old
  pub waits : (name : JobId) → is_outstanding name new ≡ is_outstanding name old

-- the name of a number of a link
abbrev pub name_of : ℕ → ℕ → ℕ → JobId
name_of sender core number = record { from = sender; to = core; number = number }

-- outcomes under their names, as notes tell them
abbrev pub named_outcomes : {J T : Type 0} → ℕ → ℕ → List (ℕ × Outcome J T) → Outcomes T
named_outcomes sender core outcomes = map (λ outcome. (name_of sender core outcome.0, outcome_note outcome.1)) outcomes

module _ {J T : Type 0} where
  -- the sender's end beside its journal: what was sent is what was accepted, what was got is what was collected, and as many are outstanding
  pub record IsOutOf (core : ℕ) (desk : DeskView J T) (out : Outward J T) (credited : ℕ) : Type 0 where
    pub known : core < desk.cores
    pub from : out.from ≡ desk.actor
    pub to : out.to ≡ core
    pub base : out.base ≡ 0
    pub capacity : out.capacity ≡ desk.cap
    pub accepted : accepted_orders core desk.journal.notes ≡ numbered_orders desk.actor core 0 out.sent
    pub outstanding : outstanding_count core desk.journal.notes + credited ≡ length out.sent
    pub behind : out.got ≤ length out.seen
    pub collected : collected_outcomes core desk.journal.notes ≡ named_outcomes desk.actor core (take out.got out.seen)

  -- the sender's end has seen as much of the other end as before, or more
  pub record ShowsMore (old new : Outward J T) : Type 0 where
    pub rest : new ≡ record old { seen = new.seen; closed = new.closed }
    pub seen : IsPrefix old.seen new.seen

  -- a step leaves the end on which this actor sends to that core as it is to its journal
  pub record KeepsOut (core : ℕ) (old new : DeskView J T) : Type 0 where
    pub each : (out : Outward J T) (credited : ℕ) → IsOutOf core old out credited → IsOutOf core new out credited

  -- a step leaves all ends on which this actor sends as they are
  abbrev pub KeepsOuts : DeskView J T → DeskView J T → Type 0
  KeepsOuts old new = (core : ℕ) → KeepsOut core old new
