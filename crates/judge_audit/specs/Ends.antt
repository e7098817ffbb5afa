-- When what was sent to a core has ended there.
use Rattle.std.specs.Prelude.{◌≡◌, ℕ, Bool, true, Option, Some, None}
use Rattle.base_words.specs.declared.names.JobId.{JobId}
use Rattle.base_words.specs.declared.note.Note.{Note}
use Rattle.base_words.specs.declared.note.Note.TheVariants.{Sent}
use Rattle.base_words.specs.declared.order.Order.{Order}
use Rattle.base_words.specs.declared.order.Order.TheVariants.{Job}
use Rattle.base_words.specs.Assembly.{Assembly, order_of}
use Rattle.base_words.specs.Clauses.{name_answered}
use Rattle.base_words.specs.Filters.{name_ended}
use Rattle.base_words.specs.Journal.{Journal, is_told}

-- whether by these notes of a core a job has ended, or a command was answered
abbrev pub ended_by : Journal ℕ → JobId → Order (Unit {0}) → Bool
ended_by journal name (Job queue task) = is_told name_ended name journal
ended_by journal name _ = is_told name_answered name journal

-- by these notes of a core a job has ended, and a command was answered
abbrev pub HasEnded : Journal ℕ → JobId → Order (Unit {0}) → Type 0
HasEnded journal name order = ended_by journal name order ≡ true

-- what was accepted under a name, if anything was, has ended
abbrev pub EndedUnder : Journal ℕ → JobId → Option (Order (Unit {0})) → Type 0
EndedUnder journal name None = Unit {0}
EndedUnder journal name (Some order) = HasEnded journal name order

-- what was accepted under the name that a note sends to this core has ended
abbrev pub EndedIfSent : Journal ℕ → Assembly ℕ → ℕ → Note ℕ → Journal ℕ → Type 0
EndedIfSent journal assembly core (Sent name order) before = name.to ≡ core → EndedUnder journal name (order_of name assembly)
EndedIfSent journal assembly core _ before = Unit {0}
