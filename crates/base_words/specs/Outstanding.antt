-- The submissions of a link that take a place of it.
use Rattle.std.specs.Prelude.{ℕ, Bool, Option, Some, None, count_by, not, ◌||◌, ◌&&◌}
use Rattle.base_words.specs.declared.names.JobId.{JobId}
use Rattle.base_words.specs.declared.note.Note.{Note}
use Rattle.base_words.specs.declared.note.Note.TheVariants.{Collected, Redeemed, Detached}
use Rattle.base_words.specs.Journal.{Journal, is_told}
use Rattle.base_words.specs.Filters.{accepted_orders}

-- the submission whose outcome a note says was collected
abbrev pub name_collected : {T : Type 0} → Note T → Option JobId
name_collected (Collected name outcome) = Some name
name_collected _ = None

-- the submission whose outcome a note says was redeemed
abbrev pub name_redeemed : {T : Type 0} → Note T → Option JobId
name_redeemed (Redeemed name outcome) = Some name
name_redeemed _ = None

-- the submission that a note says was detached
abbrev pub name_detached : {T : Type 0} → Note T → Option JobId
name_detached (Detached name) = Some name
name_detached _ = None

-- a submission is gone for its sender once it is redeemed or detached
abbrev pub is_gone : {T : Type 0} → JobId → Journal T → Bool
is_gone name journal = is_told name_redeemed name journal || is_told name_detached name journal

-- a submission is outstanding until it is redeemed, or both detached and collected
abbrev pub is_outstanding : {T : Type 0} → JobId → Journal T → Bool
is_outstanding name journal =
    not (is_told name_redeemed name journal || is_told name_detached name journal && is_told name_collected name journal)

-- how many submissions to a core are outstanding
abbrev pub outstanding_count : {T : Type 0} → ℕ → Journal T → ℕ
outstanding_count core journal = count_by (λ sent. is_outstanding sent.0 journal) (accepted_orders core journal)
