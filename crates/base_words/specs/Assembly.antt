-- The journals of all actors together, and what was accepted and given under a name.
use Rattle.std.specs.Prelude.{◌≡◌, ℕ, Bool, true, false, Option, Some, None, unwrap_or, slice_get, List, [], ◌∷◌, ◌++◌, IsTrue, map, if◌then◌else◌}
use Rattle.base_words.specs.declared.names.JobId.{JobId}
use Rattle.base_words.specs.declared.note.OutcomeNote.{OutcomeNote}
use Rattle.base_words.specs.declared.order.Order.{Order}
use Rattle.base_words.specs.declared.order.Order.TheVariants.{Job}
use Rattle.base_words.specs.Names.{same_name}
use Rattle.base_words.specs.Journal.{Journal}
use Rattle.base_words.specs.Filters.{accepted_orders, given_outcomes}

-- how many cores there are, how much each link may hold, how many polls a turn may have, and the journals of the cores and of the outside actor, by number
pub record Assembly (T : Type 0) : Type 0 where
  pub cores : ℕ
  pub cap : ℕ
  pub burst : ℕ
  pub journals : List (Journal T)

abbrev pub journal_of : {T : Type 0} → ℕ → Assembly T → Journal T
journal_of actor assembly = unwrap_or (slice_get assembly.journals actor) []

-- the first list is the beginning of the second
abbrev pub IsPrefix : {A : Type 0} → List A → List A → Type 0
IsPrefix {A} front whole = (rest : List A) × (whole ≡ front ++ rest)

-- the names of what stands under names
abbrev pub names_of : {A : Type 0} → List (JobId × A) → List JobId
names_of entries = map (λ entry. entry.0) entries

-- what stands first under a name
abbrev pub first_under : {A : Type 0} → JobId → List (JobId × A) → Option A
first_under name [] = None
first_under name (entry ∷ entries) = if same_name name entry.0 then Some entry.1 else first_under name entries

-- the order that was accepted under a name
abbrev pub order_of : {T : Type 0} → JobId → Assembly T → Option (Order (Unit {0}))
order_of name assembly = first_under name (accepted_orders name.to (journal_of name.from assembly))

-- the outcome that was given under a name
abbrev pub outcome_of : {T : Type 0} → JobId → Assembly T → Option (OutcomeNote T)
outcome_of name assembly = first_under name (given_outcomes name.from (journal_of name.to assembly))

abbrev pub IsAcceptedJob : {T : Type 0} → JobId → Assembly T → Type 0
IsAcceptedJob name assembly = (queue : ℕ) × (order_of name assembly ≡ Some (Job queue tt))

abbrev pub is_command : Option (Order (Unit {0})) → Bool
is_command None = false
is_command (Some (Job queue task)) = false
is_command (Some _) = true

abbrev pub IsAcceptedCommand : {T : Type 0} → JobId → Assembly T → Type 0
IsAcceptedCommand name assembly = IsTrue (is_command (order_of name assembly))
