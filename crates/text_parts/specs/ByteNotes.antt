-- The note at the front of some bytes, and the bytes behind it.
use Rattle.std.specs.Prelude.{◌≡◌, ℕ, ◌+◌, ◌*◌, ◌^◌, List, [], ◌∷◌, length, take, drop, Option, Some, None, nat_lt, slice_get, if◌then◌else◌}
use Rattle.std.specs.Int.{w16, w64, from_le_bytes}
use Rattle.base_words.specs.declared.names.JobId.{JobId}
use Rattle.base_words.specs.declared.note.Note.{Note}
use Rattle.base_words.specs.declared.note.Note.TheVariants as note
use Rattle.base_words.specs.declared.note.OutcomeNote.{OutcomeNote}
use Rattle.base_words.specs.declared.note.OutcomeNote.TheVariants as outcome
use Rattle.base_words.specs.declared.order.Answer.{Answer}
use Rattle.base_words.specs.declared.order.Answer.TheVariants as answer
use Rattle.base_words.specs.declared.order.Mode.{Mode}
use Rattle.base_words.specs.declared.order.Mode.TheVariants as mode
use Rattle.base_words.specs.declared.order.Order.{Order}
use Rattle.base_words.specs.declared.order.Order.TheVariants as order
use Rattle.base_words.specs.declared.order.Reason.{Reason}
use Rattle.base_words.specs.declared.order.Reason.TheVariants as why
use Rattle.text_journal.specs.Fields.{◌>>=◌}

-- what stands at the front, and the bytes behind it, if it does
abbrev pub Reader : Type 0 → Type 0
Reader A = List ℕ → Option (A × List ℕ)

-- what a function of the code returned, seen by `view`, is what was read
abbrev pub Gives : {X Y : Type 0} → (X → Y) → Option X → Option Y → Type 0
Gives view None read = read ≡ None
Gives view (Some found) read = read ≡ Some (view found)

-- it needs no bytes
abbrev pub plain : {A : Type 0} → A → Reader A
plain value bytes = Some (value, bytes)

-- it is made of what is read
abbrev pub one : {A B : Type 0} → (A → B) → Reader A → Reader B
one make first bytes = first bytes >>= λ a. Some (make a.0, a.1)

-- it is made of two things that are read one behind the other
abbrev pub both : {A B C : Type 0} → (A → B → C) → Reader A → Reader B → Reader C
both make first second bytes = first bytes >>= λ a. second a.1 >>= λ b. Some (make a.0 b.0, b.1)

abbrev pub pair : {A B : Type 0} → A → B → A × B
pair a b = (a, b)

-- the first byte tells the place of the reader that reads the others
abbrev pub tagged : {A : Type 0} → List (Reader A) → Reader A
tagged readers [] = None
tagged readers (tag ∷ bytes) = slice_get readers tag >>= λ read. read bytes

abbrev pub byte_at : Reader ℕ
byte_at [] = None
byte_at (byte ∷ bytes) = Some (byte, bytes)

unfoldable pub wide_at : Reader ℕ
wide_at bytes = if nat_lt (length bytes) 8 then None else Some (from_le_bytes w64 (take 8 bytes), drop 8 bytes)

unfoldable pub short_at : Reader ℕ
short_at bytes = if nat_lt (length bytes) 2 then None else Some (from_le_bytes w16 (take 2 bytes), drop 2 bytes)

-- shares are 1 to 10000
abbrev pub in_range : ℕ × List ℕ → Option (ℕ × List ℕ)
in_range found = if nat_lt found.0 1 then None else (if nat_lt 10000 found.0 then None else Some found)

unfoldable pub weight_at : Reader ℕ
weight_at bytes = short_at bytes >>= in_range

unfoldable pub runtime_at : Reader ℕ
runtime_at bytes = both (λ low high. high * 2 ^ 64 + low) wide_at wide_at bytes

abbrev pub name_of_parts : ℕ → ℕ × ℕ → JobId
name_of_parts from parts = record { from = from; to = parts.0; number = parts.1 }

unfoldable pub name_at : Reader JobId
name_at bytes = both name_of_parts byte_at (both pair byte_at wide_at) bytes

abbrev pub modes : List (Reader Mode)
modes = plain mode.Finish ∷ plain mode.Return ∷ []

unfoldable pub mode_at : Reader Mode
mode_at bytes = tagged modes bytes

abbrev pub reasons : List (Reader Reason)
reasons = plain why.NoQueue ∷ plain why.QueueClosed ∷ plain why.CoreClosing ∷ plain why.QueueReturned ∷ plain why.CoreReturned ∷ []

unfoldable pub reason_at : Reader Reason
reason_at bytes = tagged reasons bytes

abbrev pub answers : List (Reader Answer)
answers = one answer.Created byte_at ∷ plain answer.TooMany ∷ plain answer.NoMemory ∷ plain answer.CoreClosing ∷ plain answer.SharesSet ∷ plain answer.NoQueue
    ∷ plain answer.Closed ∷ plain answer.AlreadyClosed ∷ plain answer.Woken ∷ plain answer.NoJob ∷ []

unfoldable pub answer_at : Reader Answer
answer_at bytes = tagged answers bytes

abbrev pub orders : List (Reader (Order (Unit {0})))
orders = one (λ queue. order.Job queue tt) byte_at ∷ one order.Create weight_at ∷ both order.SetShares byte_at weight_at ∷ both order.Close byte_at mode_at
    ∷ one order.CloseCore mode_at ∷ both order.Wake byte_at wide_at ∷ []

unfoldable pub order_at : Reader (Order (Unit {0}))
order_at bytes = tagged orders bytes

abbrev pub outcomes : List (Reader (OutcomeNote ℕ))
outcomes = one outcome.Finished wide_at ∷ one outcome.Returned reason_at ∷ one outcome.Answered answer_at ∷ []

unfoldable pub outcome_at : Reader (OutcomeNote ℕ)
outcome_at bytes = tagged outcomes bytes

abbrev pub notes : List (Reader (Note ℕ))
notes = both note.Sent name_at order_at ∷ both note.Took name_at byte_at ∷ both note.Back name_at reason_at ∷ both note.Answered name_at answer_at
    ∷ both note.Created byte_at weight_at ∷ both note.SharesSet byte_at weight_at ∷ both note.QueueClosed byte_at mode_at ∷ one note.CoreClosed mode_at
    ∷ one note.Woken name_at ∷ both note.Pick byte_at runtime_at ∷ one note.Start name_at ∷ one note.Resume name_at
    ∷ both note.Yield name_at wide_at ∷ both note.Park name_at wide_at ∷ both note.Stayed name_at wide_at
    ∷ both (λ name told. note.Done name told.0 told.1) name_at (both pair wide_at wide_at) ∷ both note.Returned name_at reason_at
    ∷ both note.Turned byte_at wide_at ∷ both note.Shut byte_at wide_at
    ∷ both note.Collected name_at outcome_at ∷ both note.Redeemed name_at outcome_at ∷ one note.Detached name_at ∷ []

unfoldable pub note_at : Reader (Note ℕ)
note_at bytes = tagged notes bytes
