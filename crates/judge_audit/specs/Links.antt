-- What tables by name know of the orders and the outcomes of all journals.
use Rattle.std.specs.Prelude.{◌≡◌, ℕ, Option, Some, None, List, [], ◌∷◌, length, slice_get}
use Rattle.base_words.specs.declared.names.JobId.{JobId}
use Rattle.base_words.specs.declared.note.OutcomeNote.{OutcomeNote}
use Rattle.base_words.specs.declared.order.Order.{Order}
use Rattle.base_words.specs.Assembly.{Assembly, journal_of, first_under, order_of, outcome_of}
use Rattle.base_words.specs.Filters.{accepted_orders, given_outcomes}
use Rattle.base_words.specs.Journal.{Journal}
use Rattle.note_facts.specs.Names.{Entries, known}

-- what the table knows, if there is one
abbrev pub known_in : {V : Type 0} → Option (Entries V) → JobId → Option V
known_in None name = None
known_in (Some entries) name = known entries name

-- what the table of this place knows under a name
abbrev pub under : {V : Type 0} → List (Entries V) → ℕ → JobId → Option V
under tables place name = known_in (slice_get tables place) name

-- the order that was first sent under a name, and the outcome that was first given, in one journal
abbrev pub order_in : {T : Type 0} → JobId → Journal T → Option (Order (Unit {0}))
order_in name journal = first_under name (accepted_orders name.to journal)

abbrev pub outcome_in : {T : Type 0} → JobId → Journal T → Option (OutcomeNote T)
outcome_in name journal = first_under name (given_outcomes name.from journal)

-- the table has under each name what the journal says
abbrev pub HasSaid : {T V : Type 0} → (JobId → Journal T → Option V) → Entries V → Journal T → Type 0
HasSaid says entries journal = (name : JobId) → known entries name ≡ says name journal

-- the table has the orders that a journal's actor sent
abbrev pub KnowsOrdersOf : {T : Type 0} → Entries (Order (Unit {0})) → Journal T → Type 0
KnowsOrdersOf = HasSaid order_in

-- the table has the outcomes that a journal's actor gave
abbrev pub KnowsOutcomesOf : {T : Type 0} → Entries (OutcomeNote T) → Journal T → Type 0
KnowsOutcomesOf = HasSaid outcome_in

-- the orders that are known are those that were accepted
abbrev pub KnowsOrders : {T : Type 0} → List (Entries (Order (Unit {0}))) → Assembly T → Type 0
KnowsOrders tables assembly = (name : JobId) → under tables name.from name ≡ order_of name assembly

-- the outcomes that are known are those that were given
abbrev pub KnowsOutcomes : {T : Type 0} → List (Entries (OutcomeNote T)) → Assembly T → Type 0
KnowsOutcomes tables assembly = (name : JobId) → under tables name.to name ≡ outcome_of name assembly

-- the first tables, as many as said, have what the journals of the first actors say
pub record AreTablesOf {T V : Type 0} (says : JobId → Journal T → Option V) (tables : List (Entries V)) (assembly : Assembly T) (count : ℕ) : Type 0 where
  pub counted : length tables ≡ count
  pub each : (actor : ℕ) (entries : Entries V) → slice_get tables actor ≡ Some entries → HasSaid says entries (journal_of actor assembly)

-- the order of a submission, or its outcome, is in no table
module _ {T : Type 0} (name : JobId) (assembly : Assembly T) where
  pub order_unknown : (order : Order (Unit {0})) → order_of name assembly ≡ Some order → KnowsOrders [] assembly → ⊥
  order_unknown order was knows = let none = knows name in cc

  pub outcome_unknown : (outcome : OutcomeNote T) → outcome_of name assembly ≡ Some outcome → KnowsOutcomes [] assembly → ⊥
  outcome_unknown outcome was knows = let none = knows name in cc
