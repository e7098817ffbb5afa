-- Which faults of the first three rules are certain: those of a note whose rule asks of other journals only what they have told, or that is wrong whatever they tell.
use Rattle.std.specs.Prelude.{◌≡◌, ◌≢◌, ℕ, ◌≤◌, ◌⊎◌, ◌∷◌, length}
use Rattle.std.specs.Option.{IsSome}
use Rattle.base_words.specs.declared.names.JobId.{JobId}
use Rattle.base_words.specs.declared.note.Note.{Note}
use Rattle.base_words.specs.declared.note.Note.TheVariants.{Sent, Took, Back, Answered, Created, Start, Resume, Shut, Collected}
use Rattle.base_words.specs.Assembly.{Assembly, journal_of, order_of, outcome_of}
use Rattle.base_words.specs.Clauses.{StartsRight, RespectsCloses}
use Rattle.base_words.specs.Filters.{accepted_orders, given_outcomes, delivered_names, collected_outcomes}
use Rattle.base_words.specs.Journal.{Journal, at_place}

-- the order, or the outcome, under this name is told
abbrev pub HasOrder : JobId → Assembly ℕ → Type 0
HasOrder name front = IsSome (order_of name front)

abbrev pub HasOutcome : JobId → Assembly ℕ → Type 0
HasOutcome name front = IsSome (outcome_of name front)

-- no journals of others make a note right behind those before it
abbrev pub IsWrongAlone : (Assembly ℕ → Note ℕ → Journal ℕ → Type 0) → Note ℕ → Journal ℕ → Type 0
IsWrongAlone Right note before = (others : Assembly ℕ) → Right others note before → ⊥

-- the first rule asks for the order of the job, if the start or the resume isn't wrong by itself
abbrev pub StartsTold : Assembly ℕ → Note ℕ → Journal ℕ → Type 0
StartsTold front (Start name) before = HasOrder name front ⊎ IsWrongAlone StartsRight (Start name) before
StartsTold front (Resume name) before = HasOrder name front ⊎ IsWrongAlone StartsRight (Resume name) before
StartsTold front _ before = ⊥

-- a delivery with another number than that of its place on the link is wrong whatever is sent; with that number it asks for as many orders
abbrev pub DeliveryTold : Assembly ℕ → ℕ → ℕ → JobId → Type 0
DeliveryTold front core line name =
    (name.number ≢ length (delivered_names name.from (at_place line (journal_of core front)))) ⊎
    (length (delivered_names name.from (at_place line (journal_of core front))) ≤ length (accepted_orders core (journal_of name.from front)))

-- an outcome is told under this name, or as many as this sender tells up to this line as collected on the link
abbrev pub CollectionTold : Assembly ℕ → ℕ → ℕ → JobId → Type 0
CollectionTold front sender line name =
    HasOutcome name front ⊎
    (length (collected_outcomes name.to (at_place line (journal_of sender front))) ≤ length (given_outcomes sender (journal_of name.to front)))

-- the second rule asks what stands at a place of a link, where something is delivered or collected; at a start and at a send it asks nothing of other journals
abbrev pub OrderTold : Assembly ℕ → ℕ → ℕ → Note ℕ → Type 0
OrderTold front actor line (Start name) = Unit {0}
OrderTold front actor line (Sent name order) = Unit {0}
OrderTold front actor line (Took name queue) = DeliveryTold front actor line name
OrderTold front actor line (Back name reason) = DeliveryTold front actor line name
OrderTold front actor line (Answered name answer) = DeliveryTold front actor line name
OrderTold front actor line (Collected name outcome) = CollectionTold front actor line name
OrderTold front actor line _ = ⊥

-- the third rule asks how many orders were sent, where a gate is shut, if that isn't wrong by itself
abbrev pub ClosesTold : Assembly ℕ → ℕ → Note ℕ → Journal ℕ → Type 0
ClosesTold front core (Took name queue) before = Unit {0}
ClosesTold front core (Created queue weight) before = Unit {0}
ClosesTold front core (Shut sender count) before =
    (count ≤ length (accepted_orders core (journal_of sender front))) ⊎
    IsWrongAlone (λ others. RespectsCloses others core) (Shut sender count) before
ClosesTold front core _ before = ⊥

-- what a rule, one of the first three, asks of other journals at a note of this actor, which stands at this line behind others, is told
abbrev pub IsTold : Assembly ℕ → ℕ → ℕ → ℕ → Note ℕ → Journal ℕ → Type 0
IsTold front actor line rule note before =
    ((rule ≡ 1) × StartsTold front note before) ⊎ ((rule ≡ 2) × OrderTold front actor line note) ⊎ ((rule ≡ 3) × ClosesTold front actor note before)

-- a fault at this line is certain: what its note asks is told
pub record IsCertain (front : Assembly ℕ) (actor line rule : ℕ) : Type 0 where
  pub note : Note ℕ
  pub before : Journal ℕ
  pub there : at_place line (journal_of actor front) ≡ note ∷ before
  pub told : IsTold front actor line rule note before
